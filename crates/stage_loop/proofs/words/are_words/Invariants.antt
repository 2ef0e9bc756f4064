use Rattle.std.proofs.Common.{◌≡◌, drop}
use Rattle.stage_model.specs.Words.{are_words}
use Rattle.stage_loop.proofs.words.are_words.Given as goal

-- what is left of the parameters comes to what all of them come to
abbrev pub invariant-loop-parameter : goal.invariant-loop-parameter
invariant-loop-parameter l = are_words l.types (drop l.parameter-index l.parameters) ≡ are_words l.types l.parameters
