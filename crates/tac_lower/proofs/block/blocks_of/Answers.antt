use Rattle.std.proofs.Common.{◌≡◌, ◌∙◌, ap, refl, ℕ, length, arith}
use Rattle.std.proofs.lemmas.Grind.{common_steps}
use Rattle.tac_lower.specs.Items.{exit_of}
use Rattle.tac_lower.specs.Data.{ending_of}
use Rattle.tac_lower.proofs.Lines.{draft-does, draft-ends}
use Rattle.tac_lower.proofs.block.blocks_of.Goals as goal

pub loop-item-preserved-in-Continue-1 : goal.loop-item-preserved-in-Continue-1
loop-item-preserved-in-Continue-1 c =
    draft-does c.loop-item.blocks.items c.loop-item.blocks.items c.loop-item.code.items c.push.new.self.items c.loop-item.yielded c.in-Some.item
    c.loop-item.invariant c.in-Does.instruction c.in-Does.is refl c.in_ok-push-in-Does.ensures.items

pub loop-item-preserved : goal.loop-item-preserved
loop-item-preserved c =
    let count : c.len.result ≡ length c.loop-item.blocks.items = grind (arith, common_steps, c.len.ensures) in
    draft-ends c.loop-item.blocks.items c.push-in-Ends.new.self.items c.loop-item.code.items c.replace-ended.new.dest.items c.loop-item.yielded
    c.in-Some.item c.loop-item.invariant c.in-Ends.ending _ c.in-Ends.is c.in_ok-push-in-Ends.ensures.items (cc)
    (c.in_ok-exit-in-Ends.ensures ∙ ap (λ (n : ℕ). exit_of 0 n (ending_of c.in-Ends.ending)) count) (cc)
