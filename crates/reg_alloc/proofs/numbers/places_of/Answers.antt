use Rattle.std.proofs.Common.{◌+◌, ◌++◌, ◌∷◌, [], Some, sym, ap, ◌∙◌, subst}
use Rattle.std.proofs.lemmas.Option.{slice_get-get_or}
use Rattle.reg_alloc.specs.Noted.{ArePlacesTo}
use Rattle.reg_alloc.proofs.Covering.{places-turn}
use Rattle.reg_alloc.proofs.numbers.places_of.Goals as goal

pub loop-block-preserved : goal.loop-block-preserved
loop-block-preserved c =
    let l = c.loop-block in
    let i = l.block-index in
    let graph = c.args.graph.now in
    let block = c.block-item.result in
    let last = c.in_ok-last.last in
    subst (λ v. ArePlacesTo graph (i + 1) v c.push-in-loop-block.new.self.items (last + 1)) (sym c.in_ok-push.ensures.items)
    (subst (λ v. ArePlacesTo graph (i + 1) (l.begins.items ++ l.count ∷ []) v (last + 1)) (sym c.in_ok-push-2.ensures.items)
    (places-turn graph i block l.begins.items l.exits.items l.count last (slice_get-get_or graph i block c.loop-block-test.true ∙ ap Some (sym c.block-item.is))
    (c.in_ok-last.ensures.number ∙ ap (λ v. l.count + v) c.len.ensures) c.in_ok-last.ensures.small l.invariant))
