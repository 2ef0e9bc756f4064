-- Plans for expressions are fine.
use Rattle.std.proofs.Common.{◌≡◌, ℕ, ◌≤◌, Bool, true, false, List, [], ◌∷◌, ◌++◌, Option, Some, None, refl, ap, ◌∙◌, arith, slice_get}
use Rattle.std.specs.Prelude.{nat_le, unwrap_or, if◌then◌else◌}
use Rattle.std.proofs.lemmas.Bool.{leb-true, lt-ltb, or_left}
use Rattle.tl_base.specs.declared.ids.EnvId.{EnvId}
use Rattle.tl_base.specs.declared.ids.NodeId.{NodeId}
use Rattle.tl_base.specs.declared.ids.TermId.{TermId}
use Rattle.tl_base.specs.declared.ids.TextId.{TextId}
use Rattle.tl_base.specs.declared.ids.TypeId.{TypeId}
use Rattle.tl_base.specs.declared.place.Place.{Place}
use Rattle.tl_base.specs.Plan.{Give, AskFor}
use Rattle.tl_lex.specs.Values.{value_of as literal_value}
use Rattle.tl_tree.specs.declared.node.TerraExpression.{TerraExpression}
use Rattle.tl_tree.specs.declared.node.TerraExpression.TheVariants as tree
use Rattle.tl_tree.specs.declared.symbol.Symbol.{Symbol}
use Rattle.tl_tree.specs.declared.symbol.Symbol.TheVariants as symbols
use Rattle.tl_tree.specs.Symbols.{numeral_of}
use Rattle.tl_tree.specs.Item.{Item}
use Rattle.tl_tree.specs.Item as kept
use Rattle.tl_tree.specs.Numbers.{value_of as written_value}
use Rattle.lua_value.specs.declared.value.Value.{Value}
use Rattle.lua_value.specs.declared.value.Value.TheVariants as values
use Rattle.tl_tree.specs.Code.{Items, name_at, place_at, place_of}
use Rattle.tl_tree.specs.Scopes.{Found as Declared, binder}
use Rattle.lua_table.specs.Cells.{local_value}
use Rattle.lua_model.specs.Fields.{globals}
use Rattle.terra_types.specs.declared.types.Integer.TheVariants.{Int32, Int64, Uint64}
use Rattle.terra_types.specs.declared.types.TypeForm.{TypeForm}
use Rattle.terra_types.specs.declared.types.TypeForm.TheVariants as forms
use Rattle.terra_types.specs.Opening.{int32, int64, uint64}
use Rattle.terra_term.specs.declared.store.Quote.{Quote}
use Rattle.terra_term.specs.declared.store.Quote.TheVariants as quotes
use Rattle.terra_term.specs.declared.term.Expression.TheVariants as e
use Rattle.terra_term.specs.declared.term.Initialiser.TheVariants as initialisers
use Rattle.terra_term.specs.declared.term.Term.{Term}
use Rattle.terra_term.specs.declared.term.Term.TheVariants as terms
use Rattle.terra_term.specs.WellTyped.{is_placed, is_word_of}
use Rattle.exotype.specs.declared.fault.Fault.TheVariants as faults
use Rattle.exotype.specs.World.{StageState}
use Rattle.check_sound.specs.Sound.{IsSound, IsThereIfAny, ExpressionIsSound}
use Rattle.spec_model.specs.Making.{quote_at, type_at, type_in}
use Rattle.spec_model.specs.declared.end.End.{End}
use Rattle.spec_model.specs.declared.end.End.TheVariants.{Found, Made}
use Rattle.spec_model.specs.declared.question.SpecQuestion.TheVariants as questions
use Rattle.spec_model.specs.Nodes.{Initial, initial_at, are_named, operator_of, unary_of, typed_by, numeral_type}
use Rattle.spec_model.specs.Plans.{SpecPlan, with_text_of, on_value, make, one, term, terms_of}
use Rattle.spec_model.specs.Names.{member, naming}
use Rattle.spec_model.specs.Expressions.{found, named_value, select_term, select_from, select, or_no_type, spliced_type, quoted_type}
use Rattle.spec_model.specs.Expressions.{type_from, constructed, Initials, named_initial, named_initials, construct, expression_of}
use Rattle.spec_model.specs.Expressions.{largest_of, numeral_value, expression_plan}
use Rattle.spec_sound.specs.Sound.{ArePlaced}
use Rattle.spec_sound.proofs.Following.{Next, next-itself, next-twice}
use Rattle.spec_sound.proofs.Running.{Fine}
use Rattle.spec_sound.proofs.OfPlans.{fine-if, fine-text, fine-raise, fine-eval, fine-index, fine-asked, fine-make, fine-one, fine-literal}
use Rattle.spec_sound.proofs.OfPlans.{fine-as-term, fine-term, fine-terms}
use Rattle.spec_sound.proofs.OfNames.{WithType, placed-at, fine-as-type, fine-member, fine-naming}

-- ---- numerals

small-word : (form : TypeForm) (most : ℕ) → ((m : ℕ) → m ≤ most → is_word_of form m ≡ true) → (n : ℕ) →
    is_word_of form (if nat_le n most then n else 0) ≡ true
small-word form most words n = by (nat_le n most) refl
  where
    by : (c : Bool) → nat_le n most ≡ c → is_word_of form (if c then n else 0) ≡ true
    by true h = words n (leb-true n most h)
    by false h = words 0 (omega arith)

-- a number as a constant of an opening type
abbrev IsWordAs : StageState → TypeId → ℕ → Type 0
IsWordAs w t n = ExpressionIsSound w (e.Number (if nat_le n (largest_of t) then n else 0) t)

int32-word : (w : StageState) → IsSound w → (n : ℕ) → IsWordAs w int32 n
int32-word w sound n =
    let value = if nat_le n 2147483647 then n else 0 in
    ap (λ (l : List TypeForm). is_word_of (unwrap_or (slice_get l 2) forms.Unit) value) sound.types.opened.1 ∙
    small-word (forms.Integer Int32) 2147483647 (λ m h. or_left _ _ (lt-ltb m 2147483648 (omega (arith, h)))) n

int64-word : (w : StageState) → IsSound w → (n : ℕ) → IsWordAs w int64 n
int64-word w sound n =
    let value = if nat_le n 9223372036854775807 then n else 0 in
    ap (λ (l : List TypeForm). is_word_of (unwrap_or (slice_get l 3) forms.Unit) value) sound.types.opened.1 ∙
    small-word (forms.Integer Int64) 9223372036854775807
    (λ m h. or_left _ _ (lt-ltb m 9223372036854775808 (omega (arith, h)))) n

uint64-word : (w : StageState) → IsSound w → (n : ℕ) → IsWordAs w uint64 n
uint64-word w sound n =
    let value = if nat_le n 18446744073709551615 then n else 0 in
    ap (λ (l : List TypeForm). is_word_of (unwrap_or (slice_get l 7) forms.Unit) value) sound.types.opened.1 ∙
    small-word (forms.Integer Uint64) 18446744073709551615 (λ m h. lt-ltb m 18446744073709551616 (omega (arith, h))) n

numeral-word : (w : StageState) → IsSound w → (s : Symbol) (n : ℕ) → IsWordAs w (typed_by s) n
numeral-word w sound symbols.UnsignedNumeral n = uint64-word w sound n
numeral-word w sound symbols.LongNumeral n = int64-word w sound n
numeral-word w sound _ n = int32-word w sound n

-- ---- names

pub fine-named : (w : StageState) → IsSound w → (o : Option Declared) (name : List ℕ) (place : Place) (env : EnvId)
    (go : Value → SpecPlan) → ((x : Value) (v : StageState) → Next w v → Fine (go x) v) →
    Fine (named_value o name place env go) w
fine-named w sound (Some d) name place env go k = k (local_value w.heap env d.depth d.position) w (next-itself w sound)
fine-named w sound None name place env go k = fine-index w sound (values.Table globals) name place go k

-- ---- selection

fine-select-term : (w : StageState) → IsSound w → (items : Items) (object : TermId) (name : NodeId) (place : Place)
    (env : EnvId) → is_placed place ≡ true → Fine (select_term items object name place env) w
fine-select-term w sound items object name place env placed =
    fine-member w sound items name env (λ field. naming field (make place (e.Select object field)))
    (λ field v f. fine-naming v f.sound field (make place (e.Select object field))
    (λ u g. fine-make u g.sound place (e.Select object field) placed tt))

fine-select-one : (w : StageState) → IsSound w →
    (items : Items) (x : Value) (at : Place) (name : NodeId) (place : Place)
    (env : EnvId) → is_placed at ≡ true → is_placed place ≡ true →
    Fine (one x at (λ object. select_term items object name place env)) w
fine-select-one w sound items x at name place env placed_at placed =
    fine-one w sound x at (λ object. select_term items object name place env) placed_at
    (λ object v f. fine-select-term v f.sound items object name place env placed)

fine-select-from : (w : StageState) → IsSound w →
    (items : Items) (x : Value) (at : Place) (name : NodeId) (place : Place)
    (env : EnvId) → is_placed at ≡ true → is_placed place ≡ true → Fine (select_from items x at name place env) w
fine-select-from w sound items (values.Table t) at name place env placed_at placed =
    fine-member w sound items name env
    (λ field. AskFor (questions.Index (values.Table t) field place) (λ a. on_value a (found place)))
    (λ field v f. fine-asked v (values.Table t) field place (found place) (λ x u g. placed))
fine-select-from w sound items x at name place env placed_at placed =
    fine-select-one w sound items x at name place env placed_at placed

fine-select : (w : StageState) → IsSound w → (items : Items) (r : End) (name : NodeId) (place : Place) (env : EnvId) →
    Fine (Give r) w → is_placed place ≡ true → Fine (select items r name place env) w
fine-select w sound items (Found x at) name place env h placed =
    fine-select-from w sound items x at name place env h placed
fine-select w sound items r name place env h placed =
    fine-as-term w sound r (λ object. select_term items object name place env) h
    (λ object v f. fine-select-term v f.sound items object name place env placed)

-- ---- constructors

-- the type that a term is
type-of-term : (w : StageState) → IsSound w → (i : ℕ) (o : Option Term) → slice_get w.store.terms i ≡ o →
    IsThereIfAny w (type_in o)
type-of-term w sound i (Some (terms.Expression place (e.Type t))) at =
    (sound.terms i (terms.Expression place (e.Type t)) at).1
type-of-term w sound i _ at = tt

fine-or-no-type : (w : StageState) → IsSound w → (o : Option TypeId) (place : Place) (go : TypeId → SpecPlan) →
    IsThereIfAny w o → WithType w go → Fine (or_no_type o place go) w
fine-or-no-type w sound (Some t) place go there k = k t w (next-itself w sound) there
fine-or-no-type w sound None place go there k = fine-raise w sound place faults.NotAType

fine-spliced-type : (w : StageState) → IsSound w → (o : Option TypeId) (place : Place) (go : TypeId → SpecPlan) →
    IsThereIfAny w o → WithType w go → Fine (spliced_type o place go) w
fine-spliced-type w sound (Some t) place go there k = k t w (next-itself w sound) there
fine-spliced-type w sound None place go there k = fine-raise w sound place faults.NotAType

fine-quoted-type : (w : StageState) → IsSound w → (o : Option Quote) (place : Place) (go : TypeId → SpecPlan) →
    WithType w go → Fine (quoted_type o place go) w
fine-quoted-type w sound (Some (quotes.Expression t)) place go k =
    fine-spliced-type w sound (type_at w t) place go (type-of-term w sound t.0 (slice_get w.store.terms t.0) refl) k
fine-quoted-type w sound o place go k = fine-raise w sound place faults.NotAType

fine-type-from : (w : StageState) → IsSound w → (x : Value) (place : Place) (go : TypeId → SpecPlan) → WithType w go →
    Fine (type_from x place go) w
fine-type-from w sound (values.Quote q) place go k = fine-quoted-type w sound (quote_at w q) place go k
fine-type-from w sound x place go k = fine-as-type w sound x place go k

fine-constructed : (w : StageState) → IsSound w → (r : End) (place : Place) (go : TypeId → SpecPlan) → Fine (Give r) w →
    WithType w go → Fine (constructed r place go) w
fine-constructed w sound (Found x at) place go h k = fine-type-from w sound x place go k
fine-constructed w sound (Made t) place go h k =
    fine-or-no-type w sound (type_at w t) place go (type-of-term w sound t.0 (slice_get w.store.terms t.0) refl) k
fine-constructed w sound r place go h k = h

abbrev WithInitials : StageState → Initials → Type 0
WithInitials w go = (names : List TextId) (ts : List TermId) (v : StageState) → Next w v → Fine (go names ts) v

fine-named-initial : (w : StageState) → IsSound w → (items : Items) (o : Option Initial) (env : EnvId)
    (names : List TextId) (ts : List TermId) (go : Initials) → WithInitials w go →
    Fine (named_initial items o env names ts go) w
fine-named-initial w sound items (Some i) env names ts go k =
    fine-term w i.value env
    (λ t. with_text_of (name_at items i.name) (λ name. naming name (go (names ++ name ∷ []) (ts ++ t ∷ []))))
    (λ t v f. fine-text v f.sound (name_at items i.name) (λ name. naming name (go (names ++ name ∷ []) (ts ++ t ∷ [])))
    (λ name u g. fine-naming u g.sound name (go (names ++ name ∷ []) (ts ++ t ∷ []))
    (λ x j. k (names ++ name ∷ []) (ts ++ t ∷ []) x (next-twice w v x f (next-twice v u x g j)))))
fine-named-initial w sound items None env names ts go k = k names ts w (next-itself w sound)

fine-named-initials : (w : StageState) → IsSound w → (items : Items) (ns : List NodeId) (env : EnvId)
    (names : List TextId) (ts : List TermId) (go : Initials) → WithInitials w go →
    Fine (named_initials items ns env names ts go) w
fine-named-initials w sound items [] env names ts go k = k names ts w (next-itself w sound)
fine-named-initials w sound items (n ∷ ns) env names ts go k =
    fine-named-initial w sound items (initial_at items n) env names ts
    (λ more others. named_initials items ns env more others go)
    (λ more others v f. fine-named-initials v f.sound items ns env more others go
    (λ xs us u g. k xs us u (next-twice w v u f g)))

fine-construct : (w : StageState) → IsSound w → (items : Items) (of : TypeId) (ns : List NodeId) (place : Place)
    (env : EnvId) → is_placed place ≡ true → Fine (construct items of ns place env) w
fine-construct w sound items of ns place env placed =
    fine-if w (are_named items ns)
    (named_initials items ns env [] [] (λ names ts. make place (e.New of (initialisers.Named names ts))))
    (terms_of ns env [] (λ ts. make place (e.New of (initialisers.Positional ts))))
    (λ c. fine-named-initials w sound items ns env [] [] (λ names ts. make place (e.New of
    (initialisers.Named names ts)))
    (λ names ts v f. fine-make v f.sound place (e.New of (initialisers.Named names ts)) placed tt))
    (λ c. fine-terms w sound ns env [] (λ ts. make place (e.New of (initialisers.Positional ts)))
    (λ ts v f. fine-make v f.sound place (e.New of (initialisers.Positional ts)) placed tt))

-- ---- nodes

fine-expression-of : (w : StageState) → IsSound w → (items : Items) → ArePlaced items → (x : TerraExpression)
    (place : Place) (env : EnvId) → is_placed place ≡ true → Fine (expression_of items x place env) w
fine-expression-of w sound items all tree.Nil place env placed = fine-make w sound place e.Nil placed tt
fine-expression-of w sound items all tree.False place env placed = fine-make w sound place (e.Truth false) placed tt
fine-expression-of w sound items all tree.True place env placed = fine-make w sound place (e.Truth true) placed tt
fine-expression-of w sound items all (tree.Binary op a b) place env placed =
    fine-term w a env (λ x. term b env (λ y. make place (e.Binary (operator_of op) x y)))
    (λ x v f. fine-term v b env (λ y. make place (e.Binary (operator_of op) x y))
    (λ y u g. fine-make u g.sound place (e.Binary (operator_of op) x y) placed tt))
fine-expression-of w sound items all (tree.Unary op a) place env placed =
    fine-term w a env (λ x. make place (e.Unary (unary_of op) x))
    (λ x v f. fine-make v f.sound place (e.Unary (unary_of op) x) placed tt)
fine-expression-of w sound items all (tree.Paren a) place env placed =
    fine-term w a env (λ x. Give (Made x)) (λ x v f. tt)
fine-expression-of w sound items all (tree.Escape a) place env placed =
    fine-eval w a env (found place) (λ x v f. placed)
fine-expression-of w sound items all (tree.Index a key) place env placed =
    fine-term w a env (λ x. term key env (λ y. make place (e.Index x y)))
    (λ x v f. fine-term v key env (λ y. make place (e.Index x y))
    (λ y u g. fine-make u g.sound place (e.Index x y) placed tt))
fine-expression-of w sound items all (tree.Select a name) place env placed =
    λ r v f h. fine-select v f.sound items r name place env h placed
fine-expression-of w sound items all (tree.Call callee arguments) place env placed =
    fine-term w callee env (λ x. terms_of arguments env [] (λ ts. make place (e.Call x ts)))
    (λ x v f. fine-terms v f.sound arguments env [] (λ ts. make place (e.Call x ts))
    (λ ts u g. fine-make u g.sound place (e.Call x ts) placed tt))
fine-expression-of w sound items all (tree.Method a name arguments) place env placed =
    fine-term w a env
    (λ object. member items name env (λ method.
    terms_of arguments env [] (λ ts. naming method (make place (e.Method object method ts)))))
    (λ object v f. fine-member v f.sound items name env
    (λ method. terms_of arguments env [] (λ ts. naming method (make place (e.Method object method ts))))
    (λ method u g. fine-terms u g.sound arguments env []
    (λ ts. naming method (make place (e.Method object method ts)))
    (λ ts x i. fine-naming x i.sound method (make place (e.Method object method ts))
    (λ y j. fine-make y j.sound place (e.Method object method ts) placed tt))))
fine-expression-of w sound items all (tree.Construct a ns) place env placed =
    λ r v f h. fine-constructed v f.sound r (place_at items a) (λ of. construct items of ns place env) h
    (λ of u g there. fine-construct u g.sound items of ns place env placed)

fine-nil : (w : StageState) → IsSound w → (items : Items) → ArePlaced items → (n : NodeId) →
    Fine (make (place_at items n) e.Nil) w
fine-nil w sound items all n = fine-make w sound (place_at items n) e.Nil (placed-at items all n) tt

pub fine-expression-plan : (w : StageState) → IsSound w → (items : Items) → ArePlaced items → (x : Item) (n : NodeId)
    (env : EnvId) → is_placed (place_of x) ≡ true → Fine (expression_plan items x n env) w
fine-expression-plan w sound items all (kept.Name place offset name) n env placed =
    fine-named w sound (binder items n) name place env (found place) (λ x v f. placed)
fine-expression-plan w sound items all (kept.Numeral place digits) n env placed =
    fine-make w sound place (e.Number (numeral_value digits) (numeral_type digits)) placed
    (numeral-word w sound (numeral_of digits) (written_value digits))
fine-expression-plan w sound items all (kept.Literal place written) n env placed =
    fine-literal w sound (literal_value written) place (λ t. Give (Made t)) placed (λ t v f. tt)
fine-expression-plan w sound items all (kept.TerraExpression place x) n env placed =
    fine-expression-of w sound items all x place env placed
fine-expression-plan w sound items all x n env placed = fine-nil w sound items all n
