-- What is kept of a node's size is the size of its tree.
use Rattle.std.specs.Prelude.{◌≡◌, refl, get_or, ℕ, zero, suc, ◌+◌, ◌<◌, ◌≤◌, min, max, List, [], ◌∷◌, ◌++◌, length, map, Option, Some}
use Rattle.std.specs.Prelude.{None, slice_get}
use Rattle.std.proofs.Common.{sym, ◌∙◌, ap, subst, arith}
use Rattle.std.proofs.lemmas.List.{length-append}
use Rattle.std.proofs.lemmas.Option.{slice_get-map, slice_get-get_or, slice_get_past, same_Some}
use Rattle.std.specs.Option.{option_map}
use Rattle.tl_base.specs.declared.place.Place.{Place}
use Rattle.tl_base.specs.declared.ids.TermId.{TermId}
use Rattle.tl_base.specs.declared.ids.TypeId.{TypeId}
use Rattle.terra_types.specs.Grown.{grown}
use Rattle.terra_types.proofs.Growing.{grown-more, get-left, length-grown}
use Rattle.terra_term.specs.declared.operators.Operation.{Operation}
use Rattle.terra_term.specs.declared.operators.Operation.TheVariants as operations
use Rattle.terra_term.specs.declared.size.Size.{Size}
use Rattle.terra_term.specs.declared.size.SizedNode.{SizedNode}
use Rattle.terra_term.specs.declared.term.Term as nodes
use Rattle.terra_term.specs.declared.term.Term.TheVariants as kinds
use Rattle.terra_term.specs.declared.term.Expression as expressions
use Rattle.terra_term.specs.declared.term.Expression.TheVariants as e
use Rattle.terra_term.specs.declared.term.Statement as statements
use Rattle.terra_term.specs.declared.term.Statement.TheVariants as s
use Rattle.terra_term.specs.declared.term.Initialiser.TheVariants.{Positional, Named}
use Rattle.terra_term.specs.declared.typed.Typed as typed_nodes
use Rattle.terra_term.specs.declared.typed.Typed.TheVariants as typed_kinds
use Rattle.terra_term.specs.declared.typed.TypedExpression as typed_expressions
use Rattle.terra_term.specs.declared.typed.TypedExpression.TheVariants as te
use Rattle.terra_term.specs.declared.typed.TypedStatement as typed_statements
use Rattle.terra_term.specs.declared.typed.TypedStatement.TheVariants as ts
use Rattle.terra_term.specs.Planted as planted
use Rattle.terra_term.specs.Terms as terms
use Rattle.terra_term.specs.TypedTerms as typed
use Rattle.terra_term.specs.Sizes as sizes
use Rattle.terra_term.specs.Sizes.{joined, above, names_size, capped, most, most_levels, callee_size}
use Rattle.terra_term.specs.Sizing.{of_expression, of_statement, of_function, node_size, beside, around, expression_in, expression_at}
use Rattle.terra_term.specs.Sizing.{statement_in, list_at, block_at, typed_form, typed_doing, typed_sized, form, doing, term_sized}
use Rattle.terra_term.specs.Sizing.{typed_kept, terms_kept, AllHold, AreSized}
use Rattle.terra_term.specs.Held.{Held, NamesTyped, QuotesTyped}
use Rattle.terra_term.specs.declared.store.Quote.{Quote}
use Rattle.terra_term.specs.declared.store.Quote.TheVariants as quotes

-- ---- sizes that are kept

size-same : (a b c d : ℕ) → a ≡ c → b ≡ d → (let x : Size = record { nodes = a; levels = b } in x) ≡ record { nodes = c; levels = d }
size-same a b c d p q =
    ap (λ n. let x : Size = record { nodes = n; levels = b } in x) p ∙ ap (λ n. let x : Size = record { nodes = c; levels = n } in x) q

beside-same : (a b c d : Size) → a ≡ c → b ≡ d → beside a b ≡ beside c d
beside-same a b c d p q = ap (λ x. beside x b) p ∙ ap (λ y. beside c y) q

sum-capped : (a b m : ℕ) → min (a + b) m ≡ min (min a m + min b m) m
sum-capped a b m = omega arith

most-capped : (a b m : ℕ) → min (max a b) m ≡ min (max (min a m) (min b m)) m
most-capped a b m = omega arith

next-capped : (a m : ℕ) → min (a + 1) m ≡ min (min a m + 1) m
next-capped a m = omega arith

joined-capped : (a b c d : Size) → capped a ≡ c → capped b ≡ d → capped (joined a b) ≡ beside c d
joined-capped a b c d p q =
    size-same _ _ _ _ (sum-capped a.nodes b.nodes most) (most-capped a.levels b.levels most_levels) ∙
    beside-same (capped a) (capped b) c d p q

above-capped : (a c : Size) → capped a ≡ c → capped (above a) ≡ around c
above-capped a c p = size-same _ _ _ _ (next-capped a.nodes most) (next-capped a.levels most_levels) ∙ ap around p

-- a node with two parts, and one with three
pair : (a b c d : Size) → capped a ≡ c → capped b ≡ d → capped (above (joined a b)) ≡ around (beside c d)
pair a b c d p q = above-capped (joined a b) (beside c d) (joined-capped a b c d p q)

triple : (a b e c d f : Size) → capped a ≡ c → capped b ≡ d → capped e ≡ f → capped (above (joined (joined a b) e)) ≡ around (beside (beside c d) f)
triple a b e c d f p q r = pair (joined a b) e (beside c d) f (joined-capped a b c d p q) r

callee-capped : (op : Operation) → capped (callee_size op) ≡ callee_size op
callee-capped (operations.Call f) = refl
callee-capped (operations.Primitive p) = refl
callee-capped _ = refl

-- ---- typed terms

abbrev pub kept_typed : typed.Item → SizedNode
kept_typed (typed.expression x) = of_expression (capped (sizes.typed_size x))
kept_typed (typed.doing x) = of_statement (capped (sizes.typed_statement_size x))
kept_typed (typed.body x) = of_function (capped (sizes.body_size x))

typed-in : (o : Option typed.Item) → capped (sizes.typed_size (planted.typed_in o)) ≡ expression_in (option_map kept_typed o)
typed-in None = refl
typed-in (Some (typed.expression x)) = refl
typed-in (Some (typed.doing x)) = refl
typed-in (Some (typed.body x)) = refl

typed-doing-in : (o : Option typed.Item) → capped (sizes.typed_statement_size (planted.typed_doing_in o)) ≡ statement_in (option_map kept_typed o)
typed-doing-in None = refl
typed-doing-in (Some (typed.expression x)) = refl
typed-doing-in (Some (typed.doing x)) = refl
typed-doing-in (Some (typed.body x)) = refl

typed-at : (before : List typed.Item) (t : TermId) → capped (sizes.typed_size (planted.typed_at before t)) ≡ expression_at (map kept_typed before) t
typed-at before t = typed-in (slice_get before t.0) ∙ ap expression_in (sym (slice_get-map kept_typed before t.0))

typed-list : (before : List typed.Item) (ts : List TermId) → capped (sizes.typed_list_size (planted.typed_list_at before ts)) ≡ list_at (map kept_typed before) ts
typed-list before [] = refl
typed-list before (t ∷ ts) = joined-capped _ _ _ _ (typed-at before t) (typed-list before ts)

typed-block : (before : List typed.Item) (ts : List TermId) → capped (sizes.typed_block_size (planted.typed_block_at before ts)) ≡ block_at (map kept_typed before) ts
typed-block before [] = refl
typed-block before (t ∷ ts) =
    joined-capped _ _ _ _
    (typed-doing-in (slice_get before t.0) ∙ ap statement_in (sym (slice_get-map kept_typed before t.0)))
    (typed-block before ts)

typed-expression : (before : List typed.Item) (at : Place) (of : TypeId) (x : typed_expressions.TypedExpression) → kept_typed (planted.typed_planted before (typed_kinds.Expression at of x)) ≡ of_expression (typed_form (map kept_typed before) x)
typed-expression before at of (te.Constant c) = refl
typed-expression before at of (te.Variable x) = refl
typed-expression before at of (te.Global a) = refl
typed-expression before at of (te.Operate op es) = ap of_expression (pair _ _ _ _ (callee-capped op) (typed-list before es))
typed-expression before at of (te.Both a b) = ap of_expression (pair _ _ _ _ (typed-at before a) (typed-at before b))
typed-expression before at of (te.Either a b) = ap of_expression (pair _ _ _ _ (typed-at before a) (typed-at before b))
typed-expression before at of (te.Dereference p) = ap of_expression (above-capped _ _ (typed-at before p))
typed-expression before at of (te.Select offset a) = ap of_expression (above-capped _ _ (typed-at before a))
typed-expression before at of (te.Follow offset p) = ap of_expression (above-capped _ _ (typed-at before p))
typed-expression before at of (te.Element a i) = ap of_expression (pair _ _ _ _ (typed-at before a) (typed-at before i))
typed-expression before at of (te.Index p i) = ap of_expression (pair _ _ _ _ (typed-at before p) (typed-at before i))
typed-expression before at of (te.Address a) = ap of_expression (above-capped _ _ (typed-at before a))
typed-expression before at of (te.Decay a) = ap of_expression (above-capped _ _ (typed-at before a))
typed-expression before at of (te.Let block a) = ap of_expression (pair _ _ _ _ (typed-block before block) (typed-at before a))

typed-statement : (before : List typed.Item) (at : Place) (x : typed_statements.TypedStatement) → kept_typed (planted.typed_planted before (typed_kinds.Statement at x)) ≡ of_statement (typed_doing (map kept_typed before) x)
typed-statement before at (ts.Var names values) = ap of_statement (pair (names_size (length names)) _ _ _ refl (typed-list before values))
typed-statement before at (ts.Assign targets values) = ap of_statement (pair _ _ _ _ (typed-list before targets) (typed-list before values))
typed-statement before at (ts.If test block None) = ap of_statement (pair _ _ _ _ (typed-at before test) (typed-block before block))
typed-statement before at (ts.If test block (Some other)) =
    ap of_statement (triple _ _ _ _ _ _ (typed-at before test) (typed-block before block) (typed-block before other))
typed-statement before at (ts.While test body) = ap of_statement (pair _ _ _ _ (typed-at before test) (typed-block before body))
typed-statement before at (ts.Repeat body test) = ap of_statement (pair _ _ _ _ (typed-block before body) (typed-at before test))
typed-statement before at (ts.For name bounds body) = ap of_statement (pair _ _ _ _ (typed-list before bounds) (typed-block before body))
typed-statement before at (ts.Do body) = ap of_statement (above-capped _ _ (typed-block before body))
typed-statement before at ts.Break = refl
typed-statement before at (ts.Return None) = refl
typed-statement before at (ts.Return (Some t)) = ap of_statement (above-capped _ _ (typed-at before t))
typed-statement before at (ts.Perform a) = ap of_statement (above-capped _ _ (typed-at before a))

typed-node : (before : List typed.Item) (n : typed_nodes.Typed) → kept_typed (planted.typed_planted before n) ≡ typed_sized (map kept_typed before) n
typed-node before (typed_kinds.Expression at of x) = typed-expression before at of x
typed-node before (typed_kinds.Statement at x) = typed-statement before at x
typed-node before (typed_kinds.Function ps result body) =
    ap of_function (pair (names_size (length ps)) _ _ _ refl (typed-block before body))

-- ---- specialised terms

abbrev pub kept_term : List typed.Item → terms.Item → SizedNode
kept_term made (terms.expression x) = of_expression (capped (sizes.size_of made x))
kept_term made (terms.doing x) = of_statement (capped (sizes.statement_size made x))
kept_term made (terms.definition x) = of_function (capped (sizes.definition_size made x))

term-in : (made : List typed.Item) (o : Option terms.Item) → capped (sizes.size_of made (planted.term_in o)) ≡ expression_in (option_map (kept_term made) o)
term-in made None = refl
term-in made (Some (terms.expression x)) = refl
term-in made (Some (terms.doing x)) = refl
term-in made (Some (terms.definition x)) = refl

doing-in : (made : List typed.Item) (o : Option terms.Item) → capped (sizes.statement_size made (planted.doing_in o)) ≡ statement_in (option_map (kept_term made) o)
doing-in made None = refl
doing-in made (Some (terms.expression x)) = refl
doing-in made (Some (terms.doing x)) = refl
doing-in made (Some (terms.definition x)) = refl

term-at : (made : List typed.Item) (before : List terms.Item) (t : TermId) → capped (sizes.size_of made (planted.term_at before t)) ≡ expression_at (map (kept_term made) before) t
term-at made before t = term-in made (slice_get before t.0) ∙ ap expression_in (sym (slice_get-map (kept_term made) before t.0))

term-list : (made : List typed.Item) (before : List terms.Item) (ts : List TermId) → capped (sizes.list_size made (planted.list_at before ts)) ≡ list_at (map (kept_term made) before) ts
term-list made before [] = refl
term-list made before (t ∷ ts) = joined-capped _ _ _ _ (term-at made before t) (term-list made before ts)

term-block : (made : List typed.Item) (before : List terms.Item) (ts : List TermId) → capped (sizes.block_size made (planted.block_at before ts)) ≡ block_at (map (kept_term made) before) ts
term-block made before [] = refl
term-block made before (t ∷ ts) =
    joined-capped _ _ _ _
    (doing-in made (slice_get before t.0) ∙ ap statement_in (sym (slice_get-map (kept_term made) before t.0)))
    (term-block made before ts)

term-expression : (made : List typed.Item) (before : List terms.Item) (at : Place) (x : expressions.Expression) → kept_term made (planted.planted before (kinds.Expression at x)) ≡ of_expression (form (map kept_typed made) (map (kept_term made) before) x)
term-expression made before at (e.Unary op a) = ap of_expression (above-capped _ _ (term-at made before a))
term-expression made before at (e.Binary op a b) = ap of_expression (pair _ _ _ _ (term-at made before a) (term-at made before b))
term-expression made before at (e.Call f es) = ap of_expression (pair _ _ _ _ (term-at made before f) (term-list made before es))
term-expression made before at (e.Method o name es) = ap of_expression (pair _ _ _ _ (term-at made before o) (term-list made before es))
term-expression made before at (e.Select o field) = ap of_expression (above-capped _ _ (term-at made before o))
term-expression made before at (e.Index a i) = ap of_expression (pair _ _ _ _ (term-at made before a) (term-at made before i))
term-expression made before at (e.New of (Positional values)) = ap of_expression (above-capped _ _ (term-list made before values))
term-expression made before at (e.New of (Named fields values)) = ap of_expression (above-capped _ _ (term-list made before values))
term-expression made before at (e.Let block a) = ap of_expression (pair _ _ _ _ (term-block made before block) (term-at made before a))
term-expression made before at (e.Typed source t) = ap of_expression (typed-at made t)
term-expression made before at _ = refl

term-statement : (made : List typed.Item) (before : List terms.Item) (at : Place) (x : statements.Statement) → kept_term made (planted.planted before (kinds.Statement at x)) ≡ of_statement (doing (map (kept_term made) before) x)
term-statement made before at (s.Var names None) = ap of_statement (above-capped (names_size (length names)) _ refl)
term-statement made before at (s.Var names (Some values)) =
    ap of_statement (pair (names_size (length names)) _ _ _ refl (term-list made before values))
term-statement made before at (s.Assign targets values) = ap of_statement (pair _ _ _ _ (term-list made before targets) (term-list made before values))
term-statement made before at (s.If test block None) = ap of_statement (pair _ _ _ _ (term-at made before test) (term-block made before block))
term-statement made before at (s.If test block (Some other)) =
    ap of_statement (triple _ _ _ _ _ _ (term-at made before test) (term-block made before block) (term-block made before other))
term-statement made before at (s.While test body) = ap of_statement (pair _ _ _ _ (term-at made before test) (term-block made before body))
term-statement made before at (s.Repeat body test) = ap of_statement (pair _ _ _ _ (term-block made before body) (term-at made before test))
term-statement made before at (s.For name bounds body) = ap of_statement (pair _ _ _ _ (term-list made before bounds) (term-block made before body))
term-statement made before at (s.Do body) = ap of_statement (above-capped _ _ (term-block made before body))
term-statement made before at s.Break = refl
term-statement made before at (s.Return values) = ap of_statement (above-capped _ _ (term-list made before values))
term-statement made before at (s.Perform a) = ap of_statement (above-capped _ _ (term-at made before a))

term-node : (made : List typed.Item) (before : List terms.Item) (n : nodes.Term) → kept_term made (planted.planted before n) ≡ term_sized (map kept_typed made) (map (kept_term made) before) n
term-node made before (kinds.Expression at x) = term-expression made before at x
term-node made before (kinds.Statement at x) = term-statement made before at x
term-node made before (kinds.Function ps of body) =
    ap of_function (pair (names_size (length ps)) _ _ _ refl (term-block made before body))

-- ---- all nodes

map-snoc : {A C : Type 0} (f : A → C) (xs : List A) (y : A) → map f (xs ++ y ∷ []) ≡ map f xs ++ f y ∷ []
map-snoc f [] y = refl
map-snoc f (x ∷ xs) y = ap (λ (l : List _). f x ∷ l) (map-snoc f xs y)

map-grown : {A B C : Type 0} (f : A → C) (make : List A → B → A) (step : List C → B → C) → ((before : List A) (x : B) → f (make before x) ≡ step (map f before) x) → (before : List A) (xs : List B) → map f (grown make before xs) ≡ grown step (map f before) xs
map-grown f make step h before [] = refl
map-grown f make step h before (x ∷ xs) =
    map-grown f make step h (before ++ make before x ∷ []) xs ∙
    ap (λ (l : List _). grown step l xs) (map-snoc f before (make before x) ∙ ap (λ y. map f before ++ y ∷ []) (h before x))

typed-trees-sized : (ns : List typed_nodes.Typed) → map kept_typed (planted.typed_trees ns) ≡ typed_kept ns
typed-trees-sized ns = map-grown kept_typed planted.typed_planted typed_sized typed-node [] ns

trees-sized : (made : List typed.Item) (ns : List nodes.Term) → map (kept_term made) (planted.trees ns) ≡ terms_kept (map kept_typed made) ns
trees-sized made ns = map-grown (kept_term made) planted.planted (term_sized (map kept_typed made)) (term-node made) [] ns

-- ---- what is read

read-typed : (o : Option typed.Item) → option_map node_size (option_map kept_typed o) ≡ option_map (λ item. capped (sizes.typed_item_size item)) o
read-typed None = refl
read-typed (Some (typed.expression x)) = refl
read-typed (Some (typed.doing x)) = refl
read-typed (Some (typed.body x)) = refl

read-term : (made : List typed.Item) (o : Option terms.Item) → option_map node_size (option_map (kept_term made) o) ≡ option_map (λ item. capped (sizes.item_size made item)) o
read-term made None = refl
read-term made (Some (terms.expression x)) = refl
read-term made (Some (terms.doing x)) = refl
read-term made (Some (terms.definition x)) = refl

typed-read : (h : Held) (kept : List SizedNode) (t : TermId) → kept ≡ typed_kept h.typed → option_map node_size (slice_get kept t.0) ≡ sizes.size_of_typed h t
typed-read h kept t same =
    ap (λ (l : List SizedNode). option_map node_size (slice_get l t.0)) (same ∙ sym (typed-trees-sized h.typed)) ∙
    (ap (option_map node_size) (slice_get-map kept_typed (planted.typed_trees h.typed) t.0) ∙
    read-typed (slice_get (planted.typed_trees h.typed) t.0))

term-read : (h : Held) (made kept : List SizedNode) (t : TermId) → made ≡ typed_kept h.typed → kept ≡ terms_kept made h.terms → option_map node_size (slice_get kept t.0) ≡ sizes.size_of_term h t
term-read h made kept t first same =
    let all = planted.typed_trees h.typed in
    ap (λ (l : List SizedNode). option_map node_size (slice_get l t.0))
    (same ∙ (ap (λ (m : List SizedNode). terms_kept m h.terms) (first ∙ sym (typed-trees-sized h.typed)) ∙ sym (trees-sized all h.terms))) ∙
    (ap (option_map node_size) (slice_get-map (kept_term all) (planted.trees h.terms) t.0) ∙
    read-term all (slice_get (planted.trees h.terms) t.0))

pub typed-found : (view now : Held) → view ≡ now → (kept l : List SizedNode) (t : TermId) (x : SizedNode) (size : Size) → kept ≡ typed_kept view.typed → l ≡ kept → t.0 < length l → x ≡ get_or l t.0 x → size ≡ node_size x → Some size ≡ sizes.size_of_typed now t
typed-found view now same kept l t x size all read within at is =
    subst (λ (h : Held). Some size ≡ sizes.size_of_typed h t) same
    (ap (λ (y : Size). Some y) (is ∙ ap node_size at) ∙
    (ap (option_map node_size) (sym (slice_get-get_or l t.0 x within)) ∙ typed-read view l t (read ∙ all)))

pub typed-absent : (view now : Held) → view ≡ now → (kept l : List SizedNode) (t : TermId) → kept ≡ typed_kept view.typed → l ≡ kept → length l ≤ t.0 → None ≡ sizes.size_of_typed now t
typed-absent view now same kept l t all read past =
    subst (λ (h : Held). None ≡ sizes.size_of_typed h t) same
    (ap (option_map node_size) (sym (slice_get_past l t.0 past)) ∙ typed-read view l t (read ∙ all))

pub term-found : (view now : Held) → view ≡ now → (made kept l : List SizedNode) (t : TermId) (x : SizedNode) (size : Size) → made ≡ typed_kept view.typed → kept ≡ terms_kept made view.terms → l ≡ kept → t.0 < length l → x ≡ get_or l t.0 x → size ≡ node_size x → Some size ≡ sizes.size_of_term now t
term-found view now same made kept l t x size first all read within at is =
    subst (λ (h : Held). Some size ≡ sizes.size_of_term h t) same
    (ap (λ (y : Size). Some y) (is ∙ ap node_size at) ∙
    (ap (option_map node_size) (sym (slice_get-get_or l t.0 x within)) ∙ term-read view made l t first (read ∙ all)))

pub term-absent : (view now : Held) → view ≡ now → (made kept l : List SizedNode) (t : TermId) → made ≡ typed_kept view.typed → kept ≡ terms_kept made view.terms → l ≡ kept → length l ≤ t.0 → None ≡ sizes.size_of_term now t
term-absent view now same made kept l t first all read past =
    subst (λ (h : Held). None ≡ sizes.size_of_term h t) same
    (ap (option_map node_size) (sym (slice_get_past l t.0 past)) ∙ term-read view made l t first (read ∙ all))

-- ---- what stays

pub hold-more : {A : Type 0} (P Q : A → Type 0) → ((x : A) → P x → Q x) → (xs : List A) → AllHold P xs → AllHold Q xs
hold-more P Q go [] h = tt
hold-more P Q go (x ∷ xs) h = (go x h.0, hold-more P Q go xs h.1)

pub hold-push : {A : Type 0} (P : A → Type 0) (xs : List A) (y : A) → AllHold P xs → P y → AllHold P (xs ++ y ∷ [])
hold-push P [] y h p = (p, tt)
hold-push P (x ∷ xs) y h p = (h.0, hold-push P xs y h.1 p)

pub hold-at : {A : Type 0} (P : A → Type 0) (xs : List A) (i : ℕ) (x : A) → AllHold P xs → slice_get xs i ≡ Some x → P x
hold-at P [] i x h e = absurd (cc)
hold-at P (y ∷ ys) zero x h e = subst P (same_Some y x e) h.0
hold-at P (y ∷ ys) (suc i) x h e = hold-at P ys i x h.1 e

pub names-more : (n m : ℕ) → n ≤ m → (t : nodes.Term) → NamesTyped n t → NamesTyped m t
names-more n m more (kinds.Expression at (e.Typed source made)) h = omega (arith, more, h)
names-more n m more _ h = tt

pub quotes-more : (n m : ℕ) → n ≤ m → (q : Quote) → QuotesTyped n q → QuotesTyped m q
quotes-more n m more (quotes.Typed source made) h = omega (arith, more, h)
quotes-more n m more _ h = tt

step-stays : (made more before : List SizedNode) (t : nodes.Term) → NamesTyped (length made) t → term_sized made before t ≡ term_sized (made ++ more) before t
step-stays made more before (kinds.Expression at (e.Typed source t)) h =
    ap (λ (o : Option SizedNode). of_expression (expression_in o)) (sym (get-left made more t.0 h))
step-stays made more before _ h = refl

pub terms-stay : (made more before : List SizedNode) (ns : List nodes.Term) → AllHold (NamesTyped (length made)) ns → grown (term_sized made) before ns ≡ grown (term_sized (made ++ more)) before ns
terms-stay made more before [] h = refl
terms-stay made more before (n ∷ ns) h =
    terms-stay made more (before ++ term_sized made before n ∷ []) ns h.1 ∙
    ap (λ (x : SizedNode). grown (term_sized (made ++ more)) (before ++ x ∷ []) ns) (step-stays made more before n h.0)

typed-length : (ns : List typed_nodes.Typed) → length (typed_kept ns) ≡ length ns
typed-length ns = omega (arith, length-grown typed_sized [] ns)

-- ---- what a new node or quote keeps

sized-typed : (qs : List Quote) (ns : List nodes.Term) (made : List typed_nodes.Typed) (kept kept_made : List SizedNode) (n : typed_nodes.Typed) → AreSized qs ns made kept kept_made → AreSized qs ns (made ++ n ∷ []) kept (kept_made ++ typed_sized kept_made n ∷ [])
sized-typed qs ns made kept kept_made n h =
    let same : length kept_made ≡ length made = ap length h.of_typed ∙ typed-length made in
    let longer : length made ≤ length (made ++ n ∷ []) = omega (arith, length-append made (n ∷ [])) in
    record {
      of_typed =
          ap (λ (l : List SizedNode). l ++ typed_sized l n ∷ []) h.of_typed ∙ sym (grown-more typed_sized [] made (n ∷ []));
      of_terms =
          h.of_terms ∙ terms-stay kept_made (typed_sized kept_made n ∷ []) [] ns (subst (λ m. AllHold (NamesTyped m) ns) (sym same) h.named);
      named = hold-more _ _ (names-more (length made) (length (made ++ n ∷ [])) longer) ns h.named;
      quoted = hold-more _ _ (quotes-more (length made) (length (made ++ n ∷ [])) longer) qs h.quoted;
    }

sized-term : (qs : List Quote) (ns : List nodes.Term) (made : List typed_nodes.Typed) (kept kept_made : List SizedNode) (n : nodes.Term) → AreSized qs ns made kept kept_made → NamesTyped (length made) n → AreSized qs (ns ++ n ∷ []) made (kept ++ term_sized kept_made kept n ∷ []) kept_made
sized-term qs ns made kept kept_made n h p = record {
  of_typed = h.of_typed;
  of_terms =
      ap (λ (l : List SizedNode). l ++ term_sized kept_made l n ∷ []) h.of_terms ∙ sym (grown-more (term_sized kept_made) [] ns (n ∷ []));
  named = hold-push _ ns n h.named p;
  quoted = h.quoted;
}

-- the same where the lists are known by equations

pub sized-typed-by : (view : Held) (kept kept_made read reserved : List SizedNode) (made' : List typed_nodes.Typed) (kept' : List SizedNode) (n : typed_nodes.Typed) (size : SizedNode) → AreSized view.quotes view.terms view.typed kept kept_made → made' ≡ view.typed ++ n ∷ [] → read ≡ kept_made → size ≡ typed_sized read n → reserved ≡ kept_made → kept' ≡ reserved ++ size ∷ [] → AreSized view.quotes view.terms made' kept kept'
sized-typed-by view kept kept_made read reserved made' kept' n size h p r s e q =
    let all : kept' ≡ kept_made ++ typed_sized kept_made n ∷ [] =
    q ∙ (ap (λ (l : List SizedNode). l ++ size ∷ []) e ∙ ap (λ (x : SizedNode). kept_made ++ x ∷ []) (s ∙ ap (λ (l : List SizedNode). typed_sized l n) r)) in
    subst (λ m. AreSized view.quotes view.terms m kept kept') (sym p)
    (subst (λ k. AreSized view.quotes view.terms (view.typed ++ n ∷ []) kept k) (sym all)
    (sized-typed view.quotes view.terms view.typed kept kept_made n h))

pub sized-term-by : (view now : Held) → view ≡ now → (kept kept_made read_made read reserved : List SizedNode) (terms' : List nodes.Term) (kept' : List SizedNode) (n : nodes.Term) (size : SizedNode) → AreSized view.quotes view.terms view.typed kept kept_made → NamesTyped (length now.typed) n → terms' ≡ view.terms ++ n ∷ [] → read_made ≡ kept_made → read ≡ kept → size ≡ term_sized read_made read n → reserved ≡ kept → kept' ≡ reserved ++ size ∷ [] → AreSized view.quotes terms' view.typed kept' kept_made
sized-term-by view now same kept kept_made read_made read reserved terms' kept' n size h names p m r s e q =
    let all : kept' ≡ kept ++ term_sized kept_made kept n ∷ [] =
    q ∙ (ap (λ (l : List SizedNode). l ++ size ∷ []) e ∙
    ap (λ (x : SizedNode). kept ++ x ∷ []) (s ∙ (ap (λ (l : List SizedNode). term_sized l read n) m ∙ ap (λ (l : List SizedNode). term_sized kept_made l n) r))) in
    let there : NamesTyped (length view.typed) n = subst (λ (v : Held). NamesTyped (length v.typed) n) (sym same) names in
    subst (λ t. AreSized view.quotes t view.typed kept' kept_made) (sym p)
    (subst (λ k. AreSized view.quotes (view.terms ++ n ∷ []) view.typed k kept_made) (sym all)
    (sized-term view.quotes view.terms view.typed kept kept_made n h there))
