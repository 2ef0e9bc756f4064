use Rattle.std.proofs.Common.{◌≡◌, ◌+◌, drop}
use Rattle.stage_model.specs.Words.{taken}
use Rattle.stage_loop.proofs.Passing.{joined}
use Rattle.stage_loop.proofs.words.take.Given as goal

-- what is left of the arguments comes to what all of them come to, behind the words so far
abbrev pub invariant-loop-place : goal.invariant-loop-place
invariant-loop-place l =
    taken l.types 1 l.parameters l.values ≡ joined l.words (taken l.types (l.place + 1) (drop l.place l.parameters) (drop l.place l.values))
