use Rattle.std.proofs.Common.{◌≡◌, ◌++◌, drop}
use Rattle.stage_text.specs.Types.{comma_types}
use Rattle.stage_text.proofs.types.push_comma_types.Given as goal

abbrev pub invariant-loop-of : goal.invariant-loop-of
invariant-loop-of l = l.parts.items ++ comma_types l.below (drop l.of-index l.types) ≡ l.initial.parts.items ++ comma_types l.below l.types
