use Rattle.std.proofs.Common.{◌≡◌, ◌++◌}
use Rattle.terra_term.specs.TermText.{type_text}
use Rattle.stage_text.specs.Types.{text_in}
use Rattle.stage_text.proofs.types.type_text.Given as goal

abbrev pub invariant-loop : goal.invariant-loop
invariant-loop l = l.out ++ text_in l.types l.work.items ≡ type_text l.types l.fn.of
