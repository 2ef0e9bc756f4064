use Rattle.std.proofs.Common.{Some, sym, ap, ◌∙◌, subst}
use Rattle.std.proofs.lemmas.Option.{slice_get-get_or}
use Rattle.tac_live.specs.Flows.{steps_put, writes}
use Rattle.tac_live.proofs.Grouping.{Adds, steps-add, grouped-turn, grouped-all}
use Rattle.tac_live.proofs.flow.writers.Goals as goal

pub loop-b-preserved : goal.loop-b-preserved
loop-b-preserved c =
    let b = c.loop-b.b in
    let block = c.index-graph-b.result in
    let old = c.loop-b.groups.items in
    grouped-turn c.args.graph.now c.args.count b writes block old c.put_steps.new.groups.items
    (slice_get-get_or c.args.graph.now b block c.loop-b-test.true ∙ ap Some (sym c.index-graph-b.is)) c.loop-b.invariant
    (subst (λ v. Adds b (λ t. writes block t) old v) (sym (c.in_ok-put_steps.ensures ∙ ap (λ ss. steps_put ss b old) c.as_slice.ensures)) (steps-add block.steps b old))

pub returns : goal.returns
returns c = grouped-all c.args.graph.now c.args.count c.loop-b.b writes c.loop-b.groups.items c.loop-b-test.false c.loop-b.invariant
