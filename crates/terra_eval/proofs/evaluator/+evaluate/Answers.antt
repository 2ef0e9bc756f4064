use Rattle.std.proofs.Common.{◌≡◌, sym, ap, ◌∙◌, subst, ℕ, suc, ◌+◌, ◌-◌, true, List, drop, arith}
use Rattle.std.proofs.lemmas.Grind.{common_steps}
use Rattle.tl_base.specs.declared.ids.TermId.{TermId}
use Rattle.terra_words.specs.Runs.{Value, number, value_at}
use Rattle.terra_words.specs.Words.{wrapped}
use Rattle.terra_types.specs.declared.types.TypeForm.{TypeForm}
use Rattle.terra_term.specs.TypedTerms.{Statement}
use Rattle.terra_term.specs.declared.typed.TypedStatement.{TypedStatement}
use Rattle.terra_meaning.specs.Values.{width_of}
use Rattle.terra_meaning.specs.Running.{Got, Gives}
use Rattle.terra_meaning.specs.Meaning as meanings
use Rattle.terra_meaning.specs.Meaning.{Way, done_one, for_rounds, goes_on, in_list, meant_all, rounds, the_value}
use Rattle.terra_eval.specs.declared.call.Way as code_ways
use Rattle.terra_eval.specs.Trees.{list_before, statement_before, statement_tree}
use Rattle.terra_eval.specs.Rounds.{counted_round, round_of}
use Rattle.terra_eval.specs.Views.{Ended, GaveWay, call_of, want_of, way_of}
use Rattle.terra_eval.proofs.Counted.{counted-for}
use Rattle.terra_eval.proofs.Loops.{for-later, list-all, list-begins, list-later, list-stops, rounds-later, with_front}
use Rattle.terra_eval.proofs.evaluator.+evaluate.Goals as goal

pub do_counting-loop-counting-preserved : goal.do_counting-loop-counting-preserved
do_counting-loop-counting-preserved t c =
    let k = c.args.counting in
    let round = counted_round (call_of c.args.call.now) c.args.call.now.store.now c.args.below k c.args.from in
    let turns = c.loop-counting.turns in
    let i = c.loop-counting.i in
    let after = c.count.new.self in
    let some : turns ≡ suc (turns - 1) = omega (arith, c.if-turns-eq0.false) in
    let test : meanings.runs k.width i k.limit k.step ≡ true = sym c.runs.ensures ∙ c.loop-counting-test.true in
    let gave : round i c.loop-counting.state ≡ Gives goes_on c.do_round.new.state =
    c.in_ok-do_round.ensures ∙ ap (λ (w : code_ways.Way). Gives (way_of w) c.do_round.new.state) c.in-GoesOn.is in
    let whole = for_rounds (suc c.args.call.now.turns) k.width k.limit k.step round k.start c.args.state.now in
    for-later k.width k.limit k.step round turns i c.loop-counting.state whole c.loop-counting.invariant test c.do_round.new.state after gave
    c.in_ok-count-in-GoesOn.ensures.ok.0 c.in_ok-count-in-GoesOn.ensures.ok.1
    ∙ ap (λ (n : ℕ). for_rounds n k.width k.limit k.step round (wrapped k.width (i + k.step)) after) some
    ∙ ap (λ (n : ℕ). for_rounds (suc (turns - 1)) k.width k.limit k.step round n after) (sym c.stepped-i.ensures)

pub do_rounds-loop-state-preserved : goal.do_rounds-loop-state-preserved
do_rounds-loop-state-preserved t c =
    let round = round_of (call_of c.args.call.now) c.args.call.now.store.now c.args.below c.args.round c.args.from in
    let turns = c.loop-state.turns in
    let after = c.count.new.self in
    let some : turns ≡ suc (turns - 1) = omega (arith, c.if-turns-eq0.false) in
    let gave : round c.loop-state.state ≡ Gives goes_on c.do_round.new.state =
    c.in_ok-do_round.ensures ∙ ap (λ (w : code_ways.Way). Gives (way_of w) c.do_round.new.state) c.in-GoesOn.is in
    let whole = rounds (suc c.args.call.now.turns) round c.args.state.now in
    rounds-later round turns c.loop-state.state whole c.loop-state.invariant c.do_round.new.state after gave
    c.in_ok-count-in-GoesOn.ensures.ok.0 c.in_ok-count-in-GoesOn.ensures.ok.1
    ∙ ap (λ (n : ℕ). rounds n round after) some

pub do_statement-returns-in_ok-next-in-For : goal.do_statement-returns-in_ok-next-in-For
do_statement-returns-in_ok-next-in-For t c =
    let call = call_of c.args.call.now in
    let store = c.args.call.now.store.now in
    let node = c.args.node.0 in
    let from = c.args.from in
    let s = c.args.state.now in
    let name = c.in-For.name in
    let bounds = c.in-For.bounds in
    let body = c.in-For.body in
    let vs = c.in_ok-given-in-For.given.items in
    let k = c.counting_of-counting.result in
    let tree : statement_before store c.args.below c.args.node ≡ statement_tree store node c.in-Some.s.at c.in-Some.s.doing.now = c.in-Some.ensures.tree in
    let whole : done_one call (statement_tree store node c.in-Some.s.at (TypedStatement.For name bounds body)) from s ≡ done_one call (statement_before store c.args.below c.args.node) from s =
    ap (λ (st : Statement). done_one call st from s) (sym (tree ∙ ap (λ (d : TypedStatement). statement_tree store node c.in-Some.s.at d) c.in-For.is)) in
    let gave : meant_all call the_value (list_before store node bounds) from s ≡ Gives vs c.evaluate_list-in-For.new.state =
    ap (λ (l : List TermId). meant_all call the_value (list_before store node l) from s) (sym c.as_slice-nodes-in-For.ensures) ∙ c.in_ok-given-in-For.ensures in
    let number' : c.in_ok-next-in-For.next ≡ from + in_list (list_before store node bounds) =
    c.in_ok-next-in-For.ensures ∙ ap (λ (l : List TermId). from + in_list (list_before store node l)) c.as_slice-nodes-in-For.ensures in
    let ensured = c.counting_of-counting.ensures in
    let width : k.width ≡ width_of call.store.types name.of =
    ensured.width ∙ ap (λ (ts : List TypeForm). width_of ts name.of) c.types.ensures in
    let values = c.deref-in-For.ensures.value in
    let start : k.start ≡ number (value_at vs 0) = ensured.start ∙ ap (λ (l : List Value). number (value_at l 0)) values in
    let limit : k.limit ≡ number (value_at vs 1) = ensured.limit ∙ ap (λ (l : List Value). number (value_at l 1)) values in
    let step : k.step ≡ meanings.step_of (meanings.behind (meanings.behind vs)) =
    ensured.step ∙ ap (λ (l : List Value). meanings.step_of (meanings.behind (meanings.behind l))) values in
    let same = counted-for call store node c.in-Some.s.at name bounds body from s c.evaluate_list-in-For.new.state vs k c.in_ok-next-in-For.next gave
    ensured.place ensured.variable ensured.block number' width start limit step in
    subst (λ (g : Got Way). GaveWay c.do_counting.result c.do_counting.new.state g) (same ∙ whole) c.do_counting.ensures

pub do_statement-returns-in-While : goal.do_statement-returns-in-While
do_statement-returns-in-While t c =
    let call = call_of c.args.call.now in
    let store = c.args.call.now.store.now in
    let node = c.args.node.0 in
    let from = c.args.from in
    let s = c.args.state.now in
    let at = c.in-Some.s.at in
    let doing = TypedStatement.While c.in-While.test c.in-While.body in
    let tree : statement_before store c.args.below c.args.node ≡ statement_tree store node at c.in-Some.s.doing.now = c.in-Some.ensures.tree in
    let whole : done_one call (statement_tree store node at doing) from s ≡ done_one call (statement_before store c.args.below c.args.node) from s =
    ap (λ (st : Statement). done_one call st from s) (sym (tree ∙ ap (λ (d : TypedStatement). statement_tree store node at d) c.in-While.is)) in
    subst (λ (g : Got Way). GaveWay c.do_rounds.result c.do_rounds.new.state g) whole c.do_rounds.ensures

pub do_statement-returns-in-Repeat : goal.do_statement-returns-in-Repeat
do_statement-returns-in-Repeat t c =
    let call = call_of c.args.call.now in
    let store = c.args.call.now.store.now in
    let node = c.args.node.0 in
    let from = c.args.from in
    let s = c.args.state.now in
    let at = c.in-Some.s.at in
    let doing = TypedStatement.Repeat c.in-Repeat.body c.in-Repeat.test in
    let tree : statement_before store c.args.below c.args.node ≡ statement_tree store node at c.in-Some.s.doing.now = c.in-Some.ensures.tree in
    let whole : done_one call (statement_tree store node at doing) from s ≡ done_one call (statement_before store c.args.below c.args.node) from s =
    ap (λ (st : Statement). done_one call st from s) (sym (tree ∙ ap (λ (d : TypedStatement). statement_tree store node at d) c.in-Repeat.is)) in
    subst (λ (g : Got Way). GaveWay c.do_rounds-in-Repeat.result c.do_rounds-in-Repeat.new.state g) whole c.do_rounds-in-Repeat.ensures

pub evaluate_list-loop-node-init : goal.evaluate_list-loop-node-init
evaluate_list-loop-node-init t c =
    let call = call_of c.args.call.now in
    let want = want_of c.args.want in
    let store = c.args.call.now.store.now in
    let nodes = c.args.nodes.now in
    let s = c.args.state.now in
    list-begins call want store c.args.below nodes c.args.from s
    ∙ ap (λ (l : List Value). with_front l (meant_all call want (list_before store c.args.below (drop 0 nodes)) c.args.from s)) (sym c.new-values.ensures.items)

pub evaluate_list-returns-in_err-v : goal.evaluate_list-returns-in_err-v
evaluate_list-returns-in_err-v t c =
    let call = call_of c.args.call.now in
    let want = want_of c.args.want in
    let store = c.args.call.now.store.now in
    let nodes = c.args.nodes.now in
    let none : TermId = record { 0 = 0 } in
    let e = c.in_err-v.field-0.0 in
    let s1 = c.evaluate_expression.new.state in
    let stops : Ended e s1 (meant_all call want (list_before store c.args.below nodes) c.args.from c.args.state.now) =
    list-stops call want store c.args.below nodes c.loop-node.node-index none c.loop-node.next c.loop-node.state s1 c.loop-node.values.items e _
    c.loop-node-test.true c.loop-node.invariant c.in_err-v.ensures in
    grind (arith, common_steps, stops)

pub evaluate_list-loop-node-preserved : goal.evaluate_list-loop-node-preserved
evaluate_list-loop-node-preserved t c =
    let none : TermId = record { 0 = 0 } in
    list-later (call_of c.args.call.now) (want_of c.args.want) c.args.call.now.store.now c.args.below c.args.nodes.now c.loop-node.node-index none
    c.loop-node.next c.in_ok-next.next c.loop-node.state c.evaluate_expression.new.state c.loop-node.values.items c.push.new.self.items c.in_ok-v.v _
    c.loop-node-test.true c.loop-node.invariant c.in_ok-v.ensures c.in_ok-next.ensures c.in_ok-push.ensures.items

pub evaluate_list-returns : goal.evaluate_list-returns
evaluate_list-returns t c =
    list-all (call_of c.args.call.now) (want_of c.args.want) c.args.call.now.store.now c.args.below c.args.nodes.now c.loop-node.node-index
    c.loop-node.next c.loop-node.state c.loop-node.values.items _ (omega arith) c.loop-node.invariant
