-- What is ahead for a node: its parts, of which the first is the next.
use Rattle.std.proofs.Common.{◌≡◌, ℕ, true, false, List, [], ◌∷◌, ◌++◌, refl, sym, ap, ◌∙◌, Option, Some, None}
use Rattle.std.proofs.lemmas.List.{append_assoc}
use Rattle.tl_base.specs.declared.place.Place.{Place}
use Rattle.tl_base.specs.declared.ids.TermId.{TermId}
use Rattle.tl_base.specs.declared.ids.TypeId.{TypeId}
use Rattle.terra_term.specs.declared.lists.TypedName.{TypedName}
use Rattle.terra_term.specs.declared.operators.Constant.{Constant}
use Rattle.terra_term.specs.declared.operators.Constant.TheVariants as constants
use Rattle.terra_term.specs.declared.operators.Operation.{Operation}
use Rattle.terra_term.specs.declared.typed.TypedExpression.TheVariants as te
use Rattle.terra_term.specs.declared.typed.TypedStatement.TheVariants as ts
use Rattle.terra_term.specs.Planted.{typed_at, typed_list_at, typed_block_at}
use Rattle.terra_term.specs.Events.{Event, Declares, events_of, list_events, block_events, operation_events, takes, declares_all, scope}
use Rattle.exotype.specs.World.{StageState}
use Rattle.check_expr.specs.Quoted.{names_in, trees_below, expression_names, all_names, form_names, doing_names}
use Rattle.check_expr.proofs.Naming.{in_both, in_declared, in_list, in_block_scope, in_block_with, in_block_of, no_operation, no_takes}

-- parts before what was there
joined : (form parts new old : List Event) → form ≡ parts → new ≡ parts ++ old → new ≡ form ++ old
joined form parts new old is so_far = so_far ∙ ap (λ (ns : List Event). ns ++ old) (sym is)

-- two parts, one after the other
joined_two : (form first second new between old : List Event)
    → form ≡ first ++ second → between ≡ second ++ old → new ≡ first ++ between → new ≡ form ++ old
joined_two form first second new between old is later sooner =
    joined form (first ++ second) new old is
    (sooner ∙ ap (λ (ns : List Event). first ++ ns) later ∙ sym (append_assoc first second old))

-- ---- expressions

pub constant_ahead : (w : StageState) (at : Place) (of : TypeId) (below : ℕ) (c : Constant) → form_names w at of below (te.Constant c) ≡ []
constant_ahead w at of below (constants.Number bits) = refl
constant_ahead w at of below (constants.Truth b) = refl
constant_ahead w at of below constants.Nil = refl
constant_ahead w at of below (constants.Static address) = refl
constant_ahead w at of below (constants.FnValue f) = refl

pub nothing_ahead : (these old : List Event) → these ≡ [] → old ≡ these ++ old
nothing_ahead these old none = ap (λ (ns : List Event). ns ++ old) (sym none)

pub operate_ahead : (w : StageState) (at : Place) (of : TypeId) (below : ℕ) (op : Operation) (es : List TermId) (new old : List Event)
    → new ≡ all_names false w below es ++ old → new ≡ form_names w at of below (te.Operate op es) ++ old
operate_ahead w at of below op es new old is =
    let them = list_events (typed_list_at (trees_below w below) es) in
    joined (form_names w at of below (te.Operate op es)) (all_names false w below es) new old
    (in_both (operation_events at op) them ∙ ap (λ (ns : List Event). ns ++ names_in them) (no_operation at op) ∙ in_list w below es) is

-- two expressions
pub two_ahead : (w : StageState) (below : ℕ) (a b : TermId) (new old : List Event)
    → new ≡ expression_names w below a ++ (expression_names w below b ++ old)
    → new ≡ names_in (events_of (typed_at (trees_below w below) a) ++ events_of (typed_at (trees_below w below) b)) ++ old
two_ahead w below a b new old is =
    let first = expression_names w below a in
    let second = expression_names w below b in
    joined (names_in (events_of (typed_at (trees_below w below) a) ++ events_of (typed_at (trees_below w below) b))) (first ++ second) new old
    (in_both (events_of (typed_at (trees_below w below) a)) (events_of (typed_at (trees_below w below) b)))
    (is ∙ sym (append_assoc first second old))

pub address_ahead : (w : StageState) (at : Place) (of : TypeId) (below : ℕ) (e : TermId) (new old : List Event)
    → new ≡ expression_names w below e ++ old → new ≡ form_names w at of below (te.Address e) ++ old
address_ahead w at of below e new old is =
    let x = typed_at (trees_below w below) e in
    joined (form_names w at of below (te.Address e)) (expression_names w below e) new old
    (in_both (takes x) (events_of x) ∙ ap (λ (ns : List Event). ns ++ expression_names w below e) (no_takes x)) is

pub let_ahead : (w : StageState) (at : Place) (of : TypeId) (below : ℕ) (block : List TermId) (e : TermId) (new old : List Event)
    → new ≡ scope (all_names true w below block ++ expression_names w below e) ++ old
    → new ≡ form_names w at of below (te.Let block e) ++ old
let_ahead w at of below block e new old is =
    joined (form_names w at of below (te.Let block e)) (scope (all_names true w below block ++ expression_names w below e)) new old
    (in_block_with w below block e) is

-- ---- statements

pub var_ahead : (w : StageState) (at : Place) (below : ℕ) (names : List TypedName) (values : List TermId) (new between old : List Event)
    → between ≡ declares_all names ++ old → new ≡ all_names false w below values ++ between
    → new ≡ doing_names w at below (ts.Var names values) ++ old
var_ahead w at below names values new between old later sooner =
    let them = list_events (typed_list_at (trees_below w below) values) in
    joined_two (doing_names w at below (ts.Var names values)) (all_names false w below values) (declares_all names) new between old
    (in_both them (declares_all names)
    ∙ ap (λ (ns : List Event). names_in them ++ ns) (in_declared names)
    ∙ ap (λ (ns : List Event). ns ++ declares_all names) (in_list w below values))
    later sooner

pub assign_ahead : (w : StageState) (at : Place) (below : ℕ) (targets values : List TermId) (new between old : List Event)
    → between ≡ all_names false w below targets ++ old → new ≡ all_names false w below values ++ between
    → new ≡ doing_names w at below (ts.Assign targets values) ++ old
assign_ahead w at below targets values new between old later sooner =
    let trees = trees_below w below in
    let them = names_in (list_events (typed_list_at trees targets)) in
    joined_two (doing_names w at below (ts.Assign targets values)) (all_names false w below values) (all_names false w below targets)
    new between old
    (in_both (list_events (typed_list_at trees values)) (list_events (typed_list_at trees targets))
    ∙ ap (λ (ns : List Event). ns ++ them) (in_list w below values)
    ∙ ap (λ (ns : List Event). all_names false w below values ++ ns) (in_list w below targets))
    later sooner

-- an expression, and a scope behind it
tested : (w : StageState) (below : ℕ) (test : TermId) (block : List TermId)
    → names_in (events_of (typed_at (trees_below w below) test) ++ scope (block_events (typed_block_at (trees_below w below) block)))
    ≡ expression_names w below test ++ scope (all_names true w below block)
tested w below test block =
    in_both (events_of (typed_at (trees_below w below) test)) (scope (block_events (typed_block_at (trees_below w below) block)))
    ∙ ap (λ (ns : List Event). expression_names w below test ++ ns) (in_block_scope w below block)

pub if_ahead : (w : StageState) (at : Place) (below : ℕ) (test : TermId) (block : List TermId) (others : Option (List TermId))
    (new between old : List Event)
    → others ≡ None → between ≡ scope (all_names true w below block) ++ old → new ≡ expression_names w below test ++ between
    → new ≡ doing_names w at below (ts.If test block others) ++ old
if_ahead w at below test block others new between old none later sooner =
    joined_two (doing_names w at below (ts.If test block others)) (expression_names w below test) (scope (all_names true w below block))
    new between old
    (ap (λ (o : Option (List TermId)). doing_names w at below (ts.If test block o)) none ∙ tested w below test block) later sooner

else_tested : (w : StageState) (at : Place) (below : ℕ) (test : TermId) (block others : List TermId)
    → doing_names w at below (ts.If test block (Some others))
    ≡ expression_names w below test ++ (scope (all_names true w below block) ++ scope (all_names true w below others))
else_tested w at below test block others =
    let here = scope (all_names true w below block) in
    let there = scope (all_names true w below others) in
    let body = block_events (typed_block_at (trees_below w below) block) in
    let else_body = block_events (typed_block_at (trees_below w below) others) in
    in_both (events_of (typed_at (trees_below w below) test) ++ scope body) (scope else_body)
    ∙ ap (λ (ns : List Event). ns ++ names_in (scope else_body)) (tested w below test block)
    ∙ ap (λ (ns : List Event). expression_names w below test ++ here ++ ns) (in_block_scope w below others)
    ∙ append_assoc (expression_names w below test) here there

pub if_else_ahead : (w : StageState) (at : Place) (below : ℕ) (test : TermId) (block : List TermId) (otherwise : Option (List TermId))
    (others : List TermId) (new second first old : List Event)
    → otherwise ≡ Some others → first ≡ scope (all_names true w below others) ++ old
    → second ≡ scope (all_names true w below block) ++ first → new ≡ expression_names w below test ++ second
    → new ≡ doing_names w at below (ts.If test block otherwise) ++ old
if_else_ahead w at below test block otherwise others new second first old some last later sooner =
    let here = scope (all_names true w below block) in
    let there = scope (all_names true w below others) in
    joined_two (doing_names w at below (ts.If test block otherwise)) (expression_names w below test) (here ++ there) new second old
    (ap (λ (o : Option (List TermId)). doing_names w at below (ts.If test block o)) some ∙ else_tested w at below test block others)
    (later ∙ ap (λ (ns : List Event). here ++ ns) last ∙ sym (append_assoc here there old)) sooner

pub while_ahead : (w : StageState) (at : Place) (below : ℕ) (test : TermId) (block : List TermId) (new between old : List Event)
    → between ≡ scope (all_names true w below block) ++ old → new ≡ expression_names w below test ++ between
    → new ≡ doing_names w at below (ts.While test block) ++ old
while_ahead w at below test block new between old later sooner =
    joined_two (doing_names w at below (ts.While test block)) (expression_names w below test) (scope (all_names true w below block))
    new between old (tested w below test block) later sooner

pub repeat_ahead : (w : StageState) (at : Place) (below : ℕ) (block : List TermId) (test : TermId) (new old : List Event)
    → new ≡ scope (all_names true w below block ++ expression_names w below test) ++ old
    → new ≡ doing_names w at below (ts.Repeat block test) ++ old
repeat_ahead w at below block test new old is =
    joined (doing_names w at below (ts.Repeat block test)) (scope (all_names true w below block ++ expression_names w below test)) new old
    (in_block_with w below block test) is

pub for_ahead : (w : StageState) (at : Place) (below : ℕ) (name : TypedName) (bounds block : List TermId) (new between old : List Event)
    → between ≡ scope (Declares name.symbol name.of ∷ all_names true w below block) ++ old
    → new ≡ all_names false w below bounds ++ between
    → new ≡ doing_names w at below (ts.For name bounds block) ++ old
for_ahead w at below name bounds block new between old later sooner =
    let them = list_events (typed_list_at (trees_below w below) bounds) in
    let body = scope (Declares name.symbol name.of ∷ block_events (typed_block_at (trees_below w below) block)) in
    let all = all_names false w below bounds in
    joined_two (doing_names w at below (ts.For name bounds block)) all (scope (Declares name.symbol name.of ∷ all_names true w below block))
    new between old
    (in_both them body
    ∙ ap (λ (ns : List Event). ns ++ names_in body) (in_list w below bounds)
    ∙ ap (λ (ns : List Event). all ++ ns) (in_block_of w below name block))
    later sooner

pub do_ahead : (w : StageState) (at : Place) (below : ℕ) (block : List TermId) (new old : List Event)
    → new ≡ scope (all_names true w below block) ++ old → new ≡ doing_names w at below (ts.Do block) ++ old
do_ahead w at below block new old is =
    joined (doing_names w at below (ts.Do block)) (scope (all_names true w below block)) new old (in_block_scope w below block) is
