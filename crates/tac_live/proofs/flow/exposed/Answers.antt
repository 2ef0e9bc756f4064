use Rattle.std.proofs.Common.{◌≡◌, ◌+◌, Some, sym, ap, ◌∙◌, subst, arith}
use Rattle.std.proofs.lemmas.Option.{slice_get-get_or}
use Rattle.tac_live.specs.Flows.{Seen, seen, exposes, block_exposed, AreBelow}
use Rattle.tac_live.proofs.Grouping.{Adds, block-adds, block-below, below-next, not-marked, grouped-turn, grouped-all}
use Rattle.tac_live.proofs.flow.exposed.Goals as goal

pub loop-b-preserved : goal.loop-b-preserved
loop-b-preserved c =
    let b = c.loop-b.b in
    let block = c.index-graph-b.result in
    let old = seen c.loop-b.marks.items c.loop-b.groups.items in
    let was = c.loop-b.invariant.0 in
    let low = c.loop-b.invariant.1 in
    let e : seen c.expose_block.new.marks.items c.expose_block.new.groups.items ≡ block_exposed block b (b + 1) old = c.in_ok-expose_block.ensures in (
      grouped-turn c.args.graph.now c.args.count b exposes block c.loop-b.groups.items c.expose_block.new.groups.items
          (slice_get-get_or c.args.graph.now b block c.loop-b-test.true ∙ ap Some (sym c.index-graph-b.is)) was
          (subst (λ (v : Seen). Adds b (λ t. exposes block t) c.loop-b.groups.items v.groups) (sym e)
          (block-adds block b (b + 1) old (omega (arith, was.long, low.long)) (λ k. not-marked c.loop-b.marks.items c.args.count (b + 1) low k))),
      subst (λ (v : Seen). AreBelow v.marks c.args.count (b + 1 + 1)) (sym e)
          (block-below block.steps b (b + 1) c.args.count old (below-next c.loop-b.marks.items c.args.count (b + 1) low)),
    )

pub returns : goal.returns
returns c = grouped-all c.args.graph.now c.args.count c.loop-b.b exposes c.loop-b.groups.items c.loop-b-test.false c.loop-b.invariant.0
