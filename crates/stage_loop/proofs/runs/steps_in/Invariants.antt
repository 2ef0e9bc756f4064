use Rattle.std.proofs.Common.{◌≡◌, ◌++◌, map, drop}
use Rattle.stage_loop.specs.Kept.{steps_of}
use Rattle.stage_loop.proofs.runs.steps_in.Given as goal

-- the numbers so far and those of the runs that are left are all numbers
abbrev pub invariant-loop-run : goal.invariant-loop-run
invariant-loop-run l = l.steps ++ map steps_of (drop l.run-index l.runs) ≡ map steps_of l.runs
