use Rattle.std.proofs.Common.{ap, ◌∙◌, ◌++◌, ◌∷◌, []}
use Rattle.tac_copies.specs.Kept.{told_once}
use Rattle.tac_copies.specs.Shortened.{named_in}
use Rattle.tac_copies.proofs.DirectedSteps.{goes-all, stays-all}
use Rattle.tac_copies.proofs.OwnNames.{own-in}
use Rattle.tac_copies.proofs.directing.directed_all.Goals as goal

pub loop-at-preserved : goal.loop-at-preserved
loop-at-preserved c =
    stays-all (told_once c.args.once.now) c.loop-at.made.items c.push-in-None.new.self.items c.args.instructions.now c.loop-at.at
    c.index-instructions-at.result c.in_ok-instruction.instruction c.copied_to.result c.loop-at-test.true c.index-instructions-at.is
    (c.in_ok-instruction.ensures ∙ ap (λ n. named_in n c.index-instructions-at.result) c.new-own.ensures
    ∙ own-in c.index-instructions-at.result)
    c.copied_to.ensures c.in-None.is c.in_ok-push-in-None.ensures.items c.loop-at.invariant

pub loop-at-preserved-in-Some : goal.loop-at-preserved-in-Some
loop-at-preserved-in-Some c =
    goes-all (told_once c.args.once.now) c.loop-at.made.items c.push.new.self.items c.args.instructions.now c.loop-at.at c.in-Some.x
    c.index-instructions-at.result c.in_ok-instruction.instruction c.copied_to.result c.loop-at-test.true c.index-instructions-at.is
    (c.in_ok-instruction.ensures ∙ ap (λ n. named_in n c.index-instructions-at.result) c.new-own.ensures
    ∙ own-in c.index-instructions-at.result)
    c.copied_to.ensures c.in-Some.is (c.in_ok-push-in-Some.ensures.items ∙ ap (λ i. c.loop-at.made.items ++ i ∷ []) c.redirected.ensures)
    c.loop-at.invariant
