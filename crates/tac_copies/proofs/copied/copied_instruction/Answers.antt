use Rattle.std.proofs.Common.{ap, ◌∙◌}
use Rattle.tac_copies.specs.Shortened.{named_in}
use Rattle.tac_copies.proofs.OwnNames.{own-in}
use Rattle.tac_copies.proofs.copied.copied_instruction.Goals as goal

pub returns : goal.returns
returns c =
    c.in_ok-copied.ensures ∙ ap (λ n. named_in n c.args.instruction.now) c.new-own.ensures ∙ own-in c.args.instruction.now
