use Rattle.std.proofs.Common.{◌≡◌, ◌+◌, [], length, sym, ap, ◌∙◌, subst, arith}
use Rattle.std.proofs.lemmas.List.{get_or_default}
use Rattle.tac_live.specs.Flows.{group_at, AreBelow}
use Rattle.reg_alloc.specs.Noted.{live_noted, HasLive}
use Rattle.tac_live.proofs.Reaching.{flow-of}
use Rattle.reg_alloc.proofs.Covering.{live-turn, live-ends}
use Rattle.reg_alloc.proofs.spans.note_temps.Goals as goal

pub loop-t-preserved : goal.loop-t-preserved
loop-t-preserved c =
    let graph = c.args.graph.now in
    let count = c.args.count in
    let t = c.loop-t.t in
    let flow = c.args.flow.now in
    let places = c.args.places.now in
    let old = c.loop-t.spans.items in
    let found = c.in_ok-found.found.items in
    let are = c.requires.flow in
    let l = c.loop-t-test.true in
    let xs : c.as_slice.result.now ≡ group_at flow.exposed.items t =
    c.as_slice.ensures ∙ (c.index.ensures ∙ get_or_default flow.exposed.items t c.index.result.now [] (omega (arith, are.exposed_are.long, l))) in
    let ws : c.as_slice-in-loop-t.result.now ≡ group_at flow.writers.items t =
    c.as_slice-in-loop-t.ensures
    ∙ (c.index-in-loop-t.ensures ∙ get_or_default flow.writers.items t c.index-in-loop-t.result.now [] (omega (arith, are.writers_are.long, l))) in
    let bs = c.deref.ensures.value in
    let long : length c.deref.result.now ≡ length graph = ap length bs ∙ are.before_are.long in
    let live = c.in_ok-found.ensures.live graph t
    (flow-of graph count t flow.exposed.items flow.writers.items flow.before.items c.as_slice.result.now c.as_slice-in-loop-t.result.now c.deref.result.now
    are l xs ws bs) in
    let made : c.note_live.new.spans.items ≡ live_noted found t places.begins.items places.exits.items flow.before.items old =
    c.note_live.ensures
    ∙ (ap (λ v. live_noted v t c.deref-in-loop-t.result.now c.deref-in-loop-t-2.result.now c.deref-in-loop-t-3.result.now old) c.deref-in-loop-t-4.ensures.value
    ∙ (ap (λ v. live_noted found t v c.deref-in-loop-t-2.result.now c.deref-in-loop-t-3.result.now old) c.deref-in-loop-t.ensures.value
    ∙ (ap (λ v. live_noted found t places.begins.items v c.deref-in-loop-t-3.result.now old) c.deref-in-loop-t-2.ensures.value
    ∙ ap (λ v. live_noted found t places.begins.items places.exits.items v old) c.deref-in-loop-t-3.ensures.value))) in (
      subst (λ v. HasLive graph count (t + 1) v) (sym made)
          (live-turn graph count t places.count places.begins.items places.exits.items flow.before.items found old l c.requires.places are.before_are live
          c.loop-t.invariant.0),
      subst (λ v. AreBelow c.live_blocks.new.marks.items v (t + 1 + 1)) long c.in_ok-found.ensures.marks,
      subst (λ v. AreBelow c.live_blocks.new.stops.items v (t + 1 + 1)) long c.in_ok-found.ensures.stops,
    )

pub returns : goal.returns
returns c = live-ends c.args.graph.now c.args.count c.loop-t.t c.loop-t.spans.items c.loop-t-test.false c.loop-t.invariant.0
