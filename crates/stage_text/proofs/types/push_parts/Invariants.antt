use Rattle.std.proofs.Common.{◌≡◌, ◌++◌}
use Rattle.stage_text.specs.Types.{text_in}
use Rattle.stage_text.proofs.types.push_parts.Given as goal

abbrev pub invariant-loop : goal.invariant-loop
invariant-loop l = l.out ++ text_in l.types l.work.items ≡ l.fn.out ++ text_in l.types l.fn.parts.items
