-- What is to be gone through for a node: its own mention, and its parts, of which the first is the next.
use Rattle.std.proofs.Common.{◌≡◌, ℕ, true, false, List, ◌++◌, refl, sym, ap, ◌∙◌, append_assoc, append-nil, Option, Some, None}
use Rattle.tl_base.specs.declared.place.Place.{Place}
use Rattle.tl_base.specs.declared.ids.TermId.{TermId}
use Rattle.terra_term.specs.declared.lists.TypedName.{TypedName}
use Rattle.terra_term.specs.declared.operators.Operation.{Operation}
use Rattle.terra_term.specs.declared.operators.Operation.TheVariants as operations
use Rattle.terra_term.specs.declared.typed.TypedExpression.TheVariants as te
use Rattle.terra_term.specs.declared.typed.TypedStatement.TheVariants as ts
use Rattle.terra_term.specs.Planted.{typed_at, typed_list_at, typed_block_at}
use Rattle.terra_term.specs.Events.{events_of, list_events, block_events, operation_events, declares, declares_all, scope, mentions_in}
use Rattle.exotype.specs.World.{StageState}
use Rattle.check_flow.specs.Parts.{Mentions, trees_below, expression_mentions, all_mentions, form_mentions, doing_mentions, own_mention}
use Rattle.check_flow.proofs.Events.{in_both, in_scope, in_declared, in_list, in_block}

-- parts before what was there
joined : (form parts new old : Mentions) → form ≡ parts → new ≡ parts ++ old → new ≡ form ++ old
joined form parts new old is so_far = so_far ∙ ap (λ (ms : Mentions). ms ++ old) (sym is)

-- two parts, one after the other
joined_two : (form first second new between old : Mentions)
    → form ≡ first ++ second → between ≡ second ++ old → new ≡ first ++ between → new ≡ form ++ old
joined_two form first second new between old is later sooner =
    joined form (first ++ second) new old is
    (sooner ∙ ap (λ (ms : Mentions). first ++ ms) later ∙ sym (append_assoc first second old))

-- ---- expressions

own_operation : (at : Place) (op : Operation) (es : List TermId) → own_mention at (te.Operate op es) ≡ mentions_in (operation_events at op)
own_operation at operations.Negate es = refl
own_operation at operations.Not es = refl
own_operation at (operations.Binary op) es = refl
own_operation at operations.StepForward es = refl
own_operation at operations.StepBack es = refl
own_operation at operations.Difference es = refl
own_operation at operations.Convert es = refl
own_operation at (operations.Extract offset) es = refl
own_operation at (operations.Call f) es = refl
own_operation at (operations.Primitive p) es = refl
own_operation at operations.CallValue es = refl
own_operation at (operations.Construct offsets) es = refl

pub operate_gone : (w : StageState) (at : Place) (below : ℕ) (op : Operation) (es : List TermId) (new old : Mentions)
    → new ≡ all_mentions false w below es ++ old
    → own_mention at (te.Operate op es) ++ new ≡ form_mentions w at below (te.Operate op es) ++ old
operate_gone w at below op es new old is =
    let own = mentions_in (operation_events at op) in
    let parts = all_mentions false w below es in
    ap (λ (ms : Mentions). ms ++ new) (own_operation at op es)
    ∙ joined (form_mentions w at below (te.Operate op es)) (own ++ parts) (own ++ new) old
    (in_both (operation_events at op) (list_events (typed_list_at (trees_below w below) es)) ∙ ap (λ (ms : Mentions). own ++ ms) (in_list w below es))
    (ap (λ (ms : Mentions). own ++ ms) is ∙ sym (append_assoc own parts old))

-- two expressions
pub two_gone : (w : StageState) (below : ℕ) (a b : TermId) (new old : Mentions)
    → new ≡ expression_mentions w below a ++ expression_mentions w below b ++ old
    → new ≡ mentions_in (events_of (typed_at (trees_below w below) a) ++ events_of (typed_at (trees_below w below) b)) ++ old
two_gone w below a b new old is =
    let first = expression_mentions w below a in
    let second = expression_mentions w below b in
    joined (mentions_in (events_of (typed_at (trees_below w below) a) ++ events_of (typed_at (trees_below w below) b))) (first ++ second) new old
    (in_both (events_of (typed_at (trees_below w below) a)) (events_of (typed_at (trees_below w below) b))) is

pub let_gone : (w : StageState) (at : Place) (below : ℕ) (block : List TermId) (e : TermId) (new between old : Mentions)
    → between ≡ expression_mentions w below e ++ old → new ≡ all_mentions true w below block ++ between
    → new ≡ form_mentions w at below (te.Let block e) ++ old
let_gone w at below block e new between old later sooner =
    let statements = block_events (typed_block_at (trees_below w below) block) in
    let value = events_of (typed_at (trees_below w below) e) in
    joined_two (form_mentions w at below (te.Let block e)) (all_mentions true w below block) (expression_mentions w below e) new between old
    (in_scope (statements ++ value) ∙ in_both statements value ∙ ap (λ (ms : Mentions). ms ++ mentions_in value) (in_block w below block))
    later sooner

-- ---- statements

pub var_gone : (w : StageState) (below : ℕ) (names : List TypedName) (values : List TermId) (new old : Mentions)
    → new ≡ all_mentions false w below values ++ old → new ≡ doing_mentions w below (ts.Var names values) ++ old
var_gone w below names values new old is =
    let all = all_mentions false w below values in
    joined (doing_mentions w below (ts.Var names values)) all new old
    (in_both (list_events (typed_list_at (trees_below w below) values)) (declares_all names)
    ∙ ap (λ (ms : Mentions). mentions_in (list_events (typed_list_at (trees_below w below) values)) ++ ms) (in_declared names)
    ∙ append-nil (mentions_in (list_events (typed_list_at (trees_below w below) values))) ∙ in_list w below values)
    is

pub assign_gone : (w : StageState) (below : ℕ) (targets values : List TermId) (new between old : Mentions)
    → between ≡ all_mentions false w below targets ++ old → new ≡ all_mentions false w below values ++ between
    → new ≡ doing_mentions w below (ts.Assign targets values) ++ old
assign_gone w below targets values new between old later sooner =
    let trees = trees_below w below in
    let them = mentions_in (list_events (typed_list_at trees targets)) in
    joined_two (doing_mentions w below (ts.Assign targets values)) (all_mentions false w below values) (all_mentions false w below targets)
    new between old
    (in_both (list_events (typed_list_at trees values)) (list_events (typed_list_at trees targets))
    ∙ ap (λ (ms : Mentions). ms ++ them) (in_list w below values)
    ∙ ap (λ (ms : Mentions). all_mentions false w below values ++ ms) (in_list w below targets))
    later sooner

-- an expression, and a scope behind it
tested : (w : StageState) (below : ℕ) (test : TermId) (block : List TermId)
    → mentions_in (events_of (typed_at (trees_below w below) test) ++ scope (block_events (typed_block_at (trees_below w below) block)))
    ≡ expression_mentions w below test ++ all_mentions true w below block
tested w below test block =
    let body = block_events (typed_block_at (trees_below w below) block) in
    in_both (events_of (typed_at (trees_below w below) test)) (scope body)
    ∙ ap (λ (ms : Mentions). expression_mentions w below test ++ ms) (in_scope body ∙ in_block w below block)

pub if_gone : (w : StageState) (below : ℕ) (test : TermId) (block : List TermId) (others : Option (List TermId)) (new between old : Mentions)
    → others ≡ None → between ≡ all_mentions true w below block ++ old → new ≡ expression_mentions w below test ++ between
    → new ≡ doing_mentions w below (ts.If test block others) ++ old
if_gone w below test block others new between old none later sooner =
    joined_two (doing_mentions w below (ts.If test block others)) (expression_mentions w below test) (all_mentions true w below block)
    new between old
    (ap (λ (o : Option (List TermId)). doing_mentions w below (ts.If test block o)) none ∙ tested w below test block) later sooner

else_tested : (w : StageState) (below : ℕ) (test : TermId) (block others : List TermId)
    → doing_mentions w below (ts.If test block (Some others))
    ≡ expression_mentions w below test ++ (all_mentions true w below block ++ all_mentions true w below others)
else_tested w below test block others =
    let here = all_mentions true w below block in
    let there = all_mentions true w below others in
    let body = block_events (typed_block_at (trees_below w below) block) in
    let else_body = block_events (typed_block_at (trees_below w below) others) in
    in_both (events_of (typed_at (trees_below w below) test) ++ scope body) (scope else_body)
    ∙ ap (λ (ms : Mentions). ms ++ mentions_in (scope else_body)) (tested w below test block)
    ∙ ap (λ (ms : Mentions). expression_mentions w below test ++ here ++ ms) (in_scope else_body ∙ in_block w below others)
    ∙ append_assoc (expression_mentions w below test) here there

pub if_else_gone : (w : StageState) (below : ℕ) (test : TermId) (block : List TermId) (otherwise : Option (List TermId)) (others : List TermId)
    (new second first old : Mentions)
    → otherwise ≡ Some others → first ≡ all_mentions true w below others ++ old → second ≡ all_mentions true w below block ++ first
    → new ≡ expression_mentions w below test ++ second
    → new ≡ doing_mentions w below (ts.If test block otherwise) ++ old
if_else_gone w below test block otherwise others new second first old some last later sooner =
    let here = all_mentions true w below block in
    let there = all_mentions true w below others in
    joined_two (doing_mentions w below (ts.If test block otherwise)) (expression_mentions w below test) (here ++ there) new second old
    (ap (λ (o : Option (List TermId)). doing_mentions w below (ts.If test block o)) some ∙ else_tested w below test block others)
    (later ∙ ap (λ (ms : Mentions). here ++ ms) last ∙ sym (append_assoc here there old)) sooner

pub while_gone : (w : StageState) (below : ℕ) (test : TermId) (block : List TermId) (new between old : Mentions)
    → between ≡ all_mentions true w below block ++ old → new ≡ expression_mentions w below test ++ between
    → new ≡ doing_mentions w below (ts.While test block) ++ old
while_gone w below test block new between old later sooner =
    joined_two (doing_mentions w below (ts.While test block)) (expression_mentions w below test) (all_mentions true w below block)
    new between old (tested w below test block) later sooner

pub repeat_gone : (w : StageState) (below : ℕ) (block : List TermId) (test : TermId) (new between old : Mentions)
    → between ≡ expression_mentions w below test ++ old → new ≡ all_mentions true w below block ++ between
    → new ≡ doing_mentions w below (ts.Repeat block test) ++ old
repeat_gone w below block test new between old later sooner =
    let body = block_events (typed_block_at (trees_below w below) block) in
    let condition = events_of (typed_at (trees_below w below) test) in
    joined_two (doing_mentions w below (ts.Repeat block test)) (all_mentions true w below block) (expression_mentions w below test)
    new between old
    (in_scope (body ++ condition) ∙ in_both body condition ∙ ap (λ (ms : Mentions). ms ++ mentions_in condition) (in_block w below block))
    later sooner

pub for_gone : (w : StageState) (below : ℕ) (name : TypedName) (bounds block : List TermId) (new between old : Mentions)
    → between ≡ all_mentions true w below block ++ old → new ≡ all_mentions false w below bounds ++ between
    → new ≡ doing_mentions w below (ts.For name bounds block) ++ old
for_gone w below name bounds block new between old later sooner =
    let them = list_events (typed_list_at (trees_below w below) bounds) in
    let body = block_events (typed_block_at (trees_below w below) block) in
    let all = all_mentions false w below bounds in
    joined_two (doing_mentions w below (ts.For name bounds block)) all (all_mentions true w below block) new between old
    (in_both them (scope (declares name ++ body))
    ∙ ap (λ (ms : Mentions). ms ++ mentions_in (scope (declares name ++ body))) (in_list w below bounds)
    ∙ ap (λ (ms : Mentions). all ++ ms) (in_scope (declares name ++ body) ∙ in_block w below block))
    later sooner

pub do_gone : (w : StageState) (below : ℕ) (block : List TermId) (new old : Mentions)
    → new ≡ all_mentions true w below block ++ old → new ≡ doing_mentions w below (ts.Do block) ++ old
do_gone w below block new old is =
    joined (doing_mentions w below (ts.Do block)) (all_mentions true w below block) new old
    (in_scope (block_events (typed_block_at (trees_below w below) block)) ∙ in_block w below block) is
