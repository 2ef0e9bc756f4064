use Rattle.std.proofs.Common.{ap, ◌∙◌}
use Rattle.tac_copies.specs.Kept.{name_in, told_once}
use Rattle.tac_copies.specs.Shortened.{own_names, shortened}
use Rattle.tac_copies.proofs.ShortenedSteps.{leaves-all, stays-all}
use Rattle.tac_copies.proofs.shortening.shortened_block.Goals as goal
use Rattle.tac_copies.proofs.shortening.shortened_block.Goals.{in-Some+in_ok-put-in-Some+in-Call-1}
use Rattle.tac_copies.proofs.shortening.shortened_block.Goals.{in-Some+in_ok-put-in-Some+in-CallValue-1}
use Rattle.tac_copies.proofs.shortening.shortened_block.Goals.{in-Some+in_ok-put-in-Some+in-Compute-1, in-None+in_ok-push-in-None}

-- the three arms of a copy that goes differ in how the instruction is let go
pub loop-at-preserved : goal.loop-at-preserved
loop-at-preserved c =
    let once = told_once c.args.once.now in
    let whole = shortened once own_names c.args.block.now.instructions c.args.block.now.exit in
    let leaves = leaves-all once c.loop-at.made.items c.match-gone.made.items c.args.block.now.instructions
    c.as_slice-instructions.result.now (name_in c.loop-at.names) (name_in c.match-gone.names) c.args.block.now.exit c.loop-at.at
    c.index-instructions-at.result c.in_ok-instruction.instruction c.gone.result whole c.as_slice-instructions.ensures
    c.loop-at-test.true c.index-instructions-at.is c.in_ok-instruction.ensures c.gone.ensures c.loop-at.invariant in
    let stays = stays-all once c.loop-at.made.items c.match-gone.made.items c.args.block.now.instructions
    c.as_slice-instructions.result.now (name_in c.loop-at.names) (name_in c.match-gone.names) c.args.block.now.exit c.loop-at.at
    c.index-instructions-at.result c.in_ok-instruction.instruction c.gone.result whole c.as_slice-instructions.ensures
    c.loop-at-test.true c.index-instructions-at.is c.in_ok-instruction.ensures c.gone.ensures c.loop-at.invariant in
    elim c.match-gone.branch [
      | in-Some+in_ok-put-in-Some+in-Call-1 w ↦
          leaves w.in-Some.t w.in-Some.s w.in-Some.is (ap (λ v. v.items) w.made-is) (ap name_in w.names-is ∙ w.in_ok-put-in-Some.ensures)
      | in-Some+in_ok-put-in-Some+in-CallValue-1 w ↦
          leaves w.in-Some.t w.in-Some.s w.in-Some.is (ap (λ v. v.items) w.made-is) (ap name_in w.names-is ∙ w.in_ok-put-in-Some.ensures)
      | in-Some+in_ok-put-in-Some+in-Compute-1 w ↦
          leaves w.in-Some.t w.in-Some.s w.in-Some.is (ap (λ v. v.items) w.made-is) (ap name_in w.names-is ∙ w.in_ok-put-in-Some.ensures)
      | in-None+in_ok-push-in-None w ↦
          stays w.in-None.is (ap (λ v. v.items) w.made-is ∙ w.in_ok-push-in-None.ensures.items) (ap name_in w.names-is)
    ]
