use Rattle.std.proofs.Common.{◌≡◌, ◌++◌, drop}
use Rattle.stage_model.specs.Texts.{checks_text}
use Rattle.stage_loop.proofs.texts.check_lines.Given as goal

abbrev pub invariant-loop-check : goal.invariant-loop-check
invariant-loop-check l = l.out ++ checks_text l.world (drop l.check-index l.checks) ≡ checks_text l.world l.checks
