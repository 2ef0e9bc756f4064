-- Lists of nodes within functions that read more than the list.
use Rattle.std.proofs.Common.{◌≡◌, ℕ, ◌-◌, Bool, true, false, cond, List, [], ◌∷◌, ◌++◌, sym, ap, ◌∙◌}
use Rattle.tl_base.specs.declared.place.Place.{Place}
use Rattle.tl_base.specs.declared.ids.NodeId.{NodeId}
use Rattle.tl_tree.specs.declared.mode.Mode.{Mode}
use Rattle.tl_tree.specs.declared.mode.Context.{Context}
use Rattle.tl_tree.specs.declared.mode.OperandKind.{OperandKind}
use Rattle.tl_tree.specs.declared.symbol.Symbol.TheVariants as symbols
use Rattle.tl_tree.specs.Tokens.{Token, is}
use Rattle.tl_tree.specs.Tree.{Tree, Nothing, More, Assign, NumericFor, GenericFor, CallStatement, Body, Statements}
use Rattle.tl_tree.specs.Item.{Item}
use Rattle.tl_tree.specs.Nodes.{added, last_of}
use Rattle.tl_tree.specs.Grammar.{Outcome, Took, ◌>>=◌, begins}
use Rattle.tl_tree.specs.Forms.{Chained, chained}
use Rattle.tl_tree.specs.LuaStatements.{fresh, body_mode, Parameters, parameters_of}
use Rattle.tl_parse.specs.Views.Parsing.{tokens_left, items_of, end_of, Fails, TookList}
use Rattle.tl_parse.specs.Views.Using.{part_at, sign_at, open_at}
use Rattle.tl_parse.specs.Views.Codes.{opened_body_at}
use Rattle.tl_parse.specs.Views.Expressions.{name_at, applied_at}
use Rattle.tl_parse.specs.Views.Statements.{first_place, is_call, call_or_assignment_at, numeric_at}
use Rattle.tl_parse.specs.Views.Statements.{generic_at, for_at, parameters_at, body_at}
use Rattle.tl_parse.specs.Views.Paths.{next_name_at, more_names_at}
use Rattle.tl_parse.specs.Views.Going.{Listing}
use Rattle.tl_parse.specs.declared.error.SyntaxError.{SyntaxError}
use Rattle.tl_parse.specs.declared.parser.Parser.{Parser}
use Rattle.tl_parse.proofs.Failing.{fails_bind, fails_from}
use Rattle.tl_parse.specs.Views.Lists.{next_element_at, more_elements_at, expressions_behind_at}
use Rattle.tl_parse.proofs.Turns.{elements_go}
use Rattle.tl_parse.proofs.StatementTurns.{names_go, body_part}
use Rattle.tl_parse.specs.declared.parser.Code.TheVariants as codes
use Rattle.tl_parse.specs.declared.parser.Element.TheVariants as elements
use Rattle.tl_parse.specs.declared.parser.BlockCode.TheVariants as block_codes

pub listing_first : (start now : Parser) (o : Outcome Tree) (more : Tree → List Token → Outcome Tree) (e : Tree) (n : NodeId) (numbers : List NodeId) → o ≡ more (More Nothing e) (tokens_left now) → end_of now ≡ end_of start → items_of now ≡ (added e (items_of start)).items → n ≡ last_of (items_of now) → numbers ≡ n ∷ [] → Listing start now o more numbers
listing_first start now o more e n numbers goes finish items is_last list =
    record {
      tree = More Nothing e;
      goes_on = goes;
      finish = finish;
      items = items;
      list = list ∙ ap (λ (x : NodeId). x ∷ []) (is_last ∙ ap (λ (i : List Item). last_of i) items);
    }

pub listing_next : (start now new : Parser) (o : Outcome Tree) (more : Tree → List Token → Outcome Tree) (e : Tree) (n : NodeId) (numbers longer : List NodeId) (s : Listing start now o more numbers) → more s.tree (tokens_left now) ≡ more (More s.tree e) (tokens_left new) → end_of new ≡ end_of now → items_of new ≡ (added e (items_of now)).items → n ≡ last_of (items_of new) → longer ≡ numbers ++ n ∷ [] → Listing start new o more longer
listing_next start now new o more e n numbers longer s goes finish items is_last list =
    let all : items_of new ≡ (added e (added s.tree (items_of start)).items).items = items ∙ ap (λ (i : List Item). (added e i).items) s.items in
    record {
      tree = More s.tree e;
      goes_on = s.goes_on ∙ goes;
      finish = finish ∙ s.finish;
      items = all;
      list = list ∙ ap (λ (x : NodeId). numbers ++ x ∷ []) (is_last ∙ ap (λ (i : List Item). last_of i) all) ∙ ap (λ (ns : List NodeId). ns ++ last_of (added e (added s.tree (items_of start)).items).items ∷ []) s.list;
    }

-- what is read behind a list so far stops where it does
pub listing_fails : (start now : Parser) (o behind : Outcome Tree) (more : Tree → List Token → Outcome Tree) (numbers : List NodeId) (e : SyntaxError) (s : Listing start now o more numbers) → more s.tree (tokens_left now) ≡ behind → Fails now behind e → Fails start o e
listing_fails start now o behind more numbers e s goes f = fails_from start now o behind e (s.goes_on ∙ goes) s.finish f

-- the same of what begins with one more tree of the list
pub listing_stops : {A : Type 0} (start now : Parser) (o : Outcome Tree) (more : Tree → List Token → Outcome Tree) (numbers : List NodeId) (s : Listing start now o more numbers) (x : Outcome A) (f : A → List Token → Outcome Tree) (e : SyntaxError) → more s.tree (tokens_left now) ≡ (x >>= f) → Fails now x e → Fails start o e
listing_stops start now o more numbers s x f e goes h = listing_fails start now o (x >>= f) more numbers e s goes (fails_bind now x f e h)

-- a list that no more tree follows
pub listing_ends : (start now : Parser) (o : Outcome Tree) (more : Tree → List Token → Outcome Tree) (numbers : List NodeId) (s : Listing start now o more numbers) → more s.tree (tokens_left now) ≡ Took s.tree (tokens_left now) → TookList start now o numbers
listing_ends start now o more numbers s goes = record { tree = s.tree; took = s.goes_on ∙ goes; finish = s.finish; items = s.items; list = s.list }

-- the numbers of one more tree
pub numbers_next : (start now new : Parser) (tree e : Tree) (n : NodeId) (numbers longer : List NodeId) → items_of now ≡ (added tree (items_of start)).items → numbers ≡ (added tree (items_of start)).numbers → items_of new ≡ (added e (items_of now)).items → n ≡ last_of (items_of new) → longer ≡ numbers ++ n ∷ [] →
    longer ≡ (added (More tree e) (items_of start)).numbers
numbers_next start now new tree e n numbers longer before list items is_last one_more =
    let all : items_of new ≡ (added e (added tree (items_of start)).items).items = items ∙ ap (λ (i : List Item). (added e i).items) before in
    one_more ∙ ap (λ (x : NodeId). numbers ++ x ∷ []) (is_last ∙ ap (λ (i : List Item). last_of i) all) ∙ ap (λ (ns : List NodeId). ns ++ last_of (added e (added tree (items_of start)).items).items ∷ []) list

-- ---- targets

pub targets_begin : (levels : ℕ) (m : Mode) (ts us : List Token) (tree : Tree) (links : ℕ) (kind : OperandKind) → applied_at levels m true ts ≡ Took (chained tree links kind) us → is_call kind ≡ false →
    call_or_assignment_at levels m ts ≡ (more_elements_at levels (elements.Target m) (More Nothing tree) us >>= λ targets c. expressions_behind_at levels symbols.Equal (codes.Lua m) c >>= λ es rest. Took (Assign (first_place ts) targets es) rest)
unfolding call_or_assignment_at
targets_begin levels m ts us tree links kind took isnt =
    ap (λ (o : Outcome Chained). o >>= λ a b. chosen a.tree (is_call a.kind) b) took ∙ ap (λ (b : Bool). chosen tree b us) isnt
  where
    chosen : Tree → Bool → List Token → Outcome Tree
    chosen e b us = cond b (Took (CallStatement (first_place ts) e) us) (more_elements_at levels (elements.Target m) (More Nothing e) us >>= λ targets c. expressions_behind_at levels symbols.Equal (codes.Lua m) c >>= λ es rest. Took (Assign (first_place ts) targets es) rest)

pub targets_next : (levels : ℕ) (m : Mode) (place : Place) (before e : Tree) (ts us : List Token) → begins (is symbols.Comma) ts ≡ true → next_element_at levels (elements.Target m) ts ≡ Took e us →
    (more_elements_at levels (elements.Target m) before ts >>= λ targets c. expressions_behind_at levels symbols.Equal (codes.Lua m) c >>= λ es rest. Took (Assign place targets es) rest) ≡ (more_elements_at levels (elements.Target m) (More before e) us >>= λ targets c. expressions_behind_at levels symbols.Equal (codes.Lua m) c >>= λ es rest. Took (Assign place targets es) rest)
targets_next levels m place before e ts us h took =
    ap (λ (o : Outcome Tree). o >>= λ targets c. expressions_behind_at levels symbols.Equal (codes.Lua m) c >>= λ es rest. Took (Assign place targets es) rest)
    (elements_go levels (elements.Target m) before ts h ∙ ap (λ (o : Outcome Tree). o >>= λ e rest. more_elements_at levels (elements.Target m) (More before e) rest) took)

-- ---- names of a `for`

pub names_begin : (levels : ℕ) (c : Context) (ts us vs : List Token) (t : Token) (n : Tree) → sign_at symbols.For ts ≡ Took t us → name_at us ≡ Took n vs → begins (is symbols.Equal) vs ≡ false →
    for_at levels c ts ≡ (more_names_at levels (More Nothing n) vs >>= λ ns d. generic_at levels c d >>= λ r rest. Took (GenericFor t.place ns r.values r.block) rest)
unfolding for_at
names_begin levels c ts us vs t n sign named isnt =
    ap (λ (o : Outcome Token). o >>= λ t a. name_at a >>= λ n b. chosen t.place n (begins (is symbols.Equal) b) b) sign
    ∙ ap (λ (o : Outcome Tree). o >>= λ n b. chosen t.place n (begins (is symbols.Equal) b) b) named
    ∙ ap (λ (b : Bool). chosen t.place n b vs) isnt
  where
    chosen : Place → Tree → Bool → List Token → Outcome Tree
    chosen place n b us =
        cond b (numeric_at levels (block_codes.Lua c) us >>= λ r rest. Took (NumericFor place n r.from r.limit r.step r.block) rest) (more_names_at levels (More Nothing n) us >>= λ ns d. generic_at levels c d >>= λ r rest. Took (GenericFor place ns r.values r.block) rest)

pub names_next : (levels : ℕ) (c : Context) (place : Place) (before e : Tree) (ts us : List Token) → begins (is symbols.Comma) ts ≡ true → next_name_at ts ≡ Took e us →
    (more_names_at levels before ts >>= λ ns d. generic_at levels c d >>= λ r rest. Took (GenericFor place ns r.values r.block) rest) ≡ (more_names_at levels (More before e) us >>= λ ns d. generic_at levels c d >>= λ r rest. Took (GenericFor place ns r.values r.block) rest)
names_next levels c place before e ts us h took =
    ap (λ (o : Outcome Tree). o >>= λ ns d. generic_at levels c d >>= λ r rest. Took (GenericFor place ns r.values r.block) rest)
    (names_go levels before ts h ∙ ap (λ (o : Outcome Tree). o >>= λ e rest. more_names_at levels (More before e) rest) took)

-- ---- the block of a function

pub body_fails : (start now : Parser) (levels : ℕ) (us ts : List Token) (o : Token) (names : Tree) (variadic : Bool) (t : Token) (c : Context) (e : SyntaxError) → open_at symbols.OpenParen levels (tokens_left start) ≡ Took o us →
    parameters_at (levels - 1) us ≡ Took (parameters_of names variadic) ts → sign_at symbols.CloseParen ts ≡ Took t (tokens_left now) → c ≡ fresh (body_mode variadic) → end_of now ≡ end_of start →
    Fails now (part_at (levels - 1) (Statements c) (tokens_left now)) e → Fails start (opened_body_at levels (tokens_left start)) e
unfolding body_at
body_fails start now levels us ts o names variadic t c e opened took sign same finish f =
    fails_from start now (opened_body_at levels (tokens_left start)) (part_at (levels - 1) (Statements c) (tokens_left now) >>= λ x d. sign_at symbols.End d >>= λ z rest. Took (Body names variadic x) rest) e
    (body_part levels (tokens_left start)
    ∙ ap (λ (o : Outcome Token). o >>= λ t a. body_at (levels - 1) a) opened
    ∙ ap (λ (o : Outcome Parameters). o >>= λ p a. sign_at symbols.CloseParen a >>= λ y b. part_at (levels - 1) (Statements (fresh (body_mode p.variadic))) b >>= λ x d. sign_at symbols.End d >>= λ z rest. Took (Body p.names p.variadic x) rest) took
    ∙ ap (λ (o : Outcome Token). o >>= λ y b. part_at (levels - 1) (Statements (fresh (body_mode variadic))) b >>= λ x d. sign_at symbols.End d >>= λ z rest. Took (Body names variadic x) rest) sign
    ∙ ap (λ (k : Context). part_at (levels - 1) (Statements k) (tokens_left now) >>= λ x d. sign_at symbols.End d >>= λ z rest. Took (Body names variadic x) rest) (sym same))
    finish
    (fails_bind now (part_at (levels - 1) (Statements c) (tokens_left now)) (λ x d. sign_at symbols.End d >>= λ z rest. Took (Body names variadic x) rest) e f)
