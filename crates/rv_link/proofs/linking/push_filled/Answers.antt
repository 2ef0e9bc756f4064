use Rattle.std.proofs.Common.{◌≡◌, ◌+◌, ◌≤◌, get_or, length, arith}
use Rattle.std.proofs.lemmas.List.{get_or_default}
use Rattle.rv_select.specs.declared.selected.Call.{Call}
use Rattle.rv_link.specs.Filling.{entry_at}
use Rattle.rv_link.proofs.Pushes.{filled-turn, next-in, turn}
use Rattle.rv_link.proofs.linking.push_filled.Goals as goal

pub push_to_call-requires-clause-there : goal.push_to_call-requires-clause-there
push_to_call-requires-clause-there c =
    let i = c.loop-call.call-index in
    let cs = c.args.calls.now in
    let x : Call = get_or cs i (record { at = 0; callee = record { 0 = 0 } }) in
    (next-in c.loop-call.from (length c.args.words.now) i cs x
    (get_or_default cs i (record { at = 0; callee = record { 0 = 0 } }) x c.loop-call-test.true) c.loop-call-test.true c.loop-call.invariant.1).1.0

pub overflow_add-from : goal.overflow_add-from
overflow_add-from c =
    let i = c.loop-call.call-index in
    let cs = c.args.calls.now in
    let x : Call = get_or cs i (record { at = 0; callee = record { 0 = 0 } }) in
    let there : x.at + 2 ≤ length c.args.words.now =
    (next-in c.loop-call.from (length c.args.words.now) i cs x
    (get_or_default cs i (record { at = 0; callee = record { 0 = 0 } }) x c.loop-call-test.true) c.loop-call-test.true c.loop-call.invariant.1).1.0 in
    omega (arith, there, c.requires.near)

pub loop-call-preserved : goal.loop-call-preserved
loop-call-preserved c =
    let i = c.loop-call.call-index in
    let cs = c.args.calls.now in
    let x : Call = get_or cs i (record { at = 0; callee = record { 0 = 0 } }) in
    let is : x ≡ get_or cs i x = get_or_default cs i (record { at = 0; callee = record { 0 = 0 } }) x c.loop-call-test.true in
    let next = next-in c.loop-call.from (length c.args.words.now) i cs x is c.loop-call-test.true c.loop-call.invariant.1 in (
      turn c.loop-call.text.items _ _ _ _ _ c.in_ok-push_to_call.ensures c.loop-call.invariant.0
          (filled-turn (entry_at c.args.entries.now) c.args.base c.loop-call.from i cs x c.args.words.now is c.loop-call-test.true next.0),
      next.1.1,
    )
