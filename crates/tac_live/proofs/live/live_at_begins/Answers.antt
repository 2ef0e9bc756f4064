use Rattle.std.proofs.Common.{◌≡◌, ◌+◌, [], length, sym, ap, ◌∙◌, subst, arith}
use Rattle.std.proofs.lemmas.List.{get_or_default}
use Rattle.tac_live.specs.Flows.{group_at, all_put, AreBelow}
use Rattle.tac_live.specs.Rows.{AreLiveRows}
use Rattle.tac_live.proofs.Grouping.{none-marked}
use Rattle.tac_live.proofs.Reaching.{flow-of}
use Rattle.tac_live.proofs.Rising.{rows-none, rows-turn}
use Rattle.tac_live.proofs.live.live_at_begins.Goals as goal

pub loop-t-init : goal.loop-t-init
loop-t-init c =
    let n = length c.args.graph.now in (
      rows-none c.args.graph.now c.in_ok-rows.rows.items c.in_ok-rows.ensures,
      subst (λ v. AreBelow v n 1) (sym c.in_ok-marks.ensures) (none-marked n),
      subst (λ v. AreBelow v n 1) (sym c.in_ok-stops.ensures) (none-marked n),
    )

pub loop-t-preserved : goal.loop-t-preserved
loop-t-preserved c =
    let graph = c.args.graph.now in
    let count = c.args.count in
    let t = c.loop-t.t in
    let flow = c.in_ok-flow.flow in
    let old = c.loop-t.rows.items in
    let found = c.in_ok-found.found.items in
    let are = c.in_ok-flow.ensures in
    let l = c.loop-t-test.true in
    let xs : c.as_slice.result.now ≡ group_at flow.exposed.items t =
    c.as_slice.ensures ∙ (c.index.ensures ∙ get_or_default flow.exposed.items t c.index.result.now [] (omega (arith, are.exposed_are.long, l))) in
    let ws : c.as_slice-in-loop-t.result.now ≡ group_at flow.writers.items t =
    c.as_slice-in-loop-t.ensures
    ∙ (c.index-in-loop-t.ensures ∙ get_or_default flow.writers.items t c.index-in-loop-t.result.now [] (omega (arith, are.writers_are.long, l))) in
    let bs = c.deref.ensures.value in
    let long : length c.deref.result.now ≡ length graph = ap length bs ∙ are.before_are.long in
    let live = c.in_ok-found.ensures.live graph t
    (flow-of graph count t flow.exposed.items flow.writers.items flow.before.items c.as_slice.result.now c.as_slice-in-loop-t.result.now c.deref.result.now
    are l xs ws bs) in
    let made : c.put_live.new.rows.items ≡ all_put found t old =
    c.in_ok-put_live.ensures ∙ ap (λ v. all_put v t old) c.deref-in-loop-t.ensures.value in (
      subst (λ v. AreLiveRows graph (t + 1) v) (sym made) (rows-turn graph t found old live c.loop-t.invariant.0),
      subst (λ v. AreBelow c.live_blocks.new.marks.items v (t + 1 + 1)) long c.in_ok-found.ensures.marks,
      subst (λ v. AreBelow c.live_blocks.new.stops.items v (t + 1 + 1)) long c.in_ok-found.ensures.stops,
    )
