use Rattle.std.proofs.Common.{length, Some, sym, ap, ◌∙◌, subst}
use Rattle.std.proofs.lemmas.Option.{slice_get-get_or}
use Rattle.tac_live.specs.Flows.{all_put, leads}
use Rattle.tac_live.proofs.Grouping.{Adds, all-adds, grouped-turn, grouped-all}
use Rattle.tac_live.proofs.flow.before.Goals as goal

pub loop-b-preserved : goal.loop-b-preserved
loop-b-preserved c =
    let b = c.loop-b.b in
    let block = c.index-graph-b.result in
    let old = c.loop-b.groups.items in
    grouped-turn c.args.graph.now (length c.args.graph.now) b leads block old c.put_all.new.groups.items
    (slice_get-get_or c.args.graph.now b block c.loop-b-test.true ∙ ap Some (sym c.index-graph-b.is)) c.loop-b.invariant
    (subst (λ v. Adds b (λ t. leads block t) old v) (sym (c.in_ok-put_all.ensures ∙ ap (λ ks. all_put ks b old) c.as_slice.ensures)) (all-adds block.next b old))

pub returns : goal.returns
returns c = grouped-all c.args.graph.now (length c.args.graph.now) c.loop-b.b leads c.loop-b.groups.items c.loop-b-test.false c.loop-b.invariant
