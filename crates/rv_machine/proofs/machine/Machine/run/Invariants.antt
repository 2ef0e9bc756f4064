use Rattle.std.proofs.Common.{◌≡◌, ◌+◌, ◌-◌, ◌≤◌, ℕ, List, []}
use Rattle.tl_base.specs.Outside.{with_back}
use Rattle.rv_machine.specs.Machine.{after_output, run_of}
use Rattle.rv_machine.specs.Count.{StepsBetween}
use Rattle.rv_machine.specs.Shown.{program_of, heap_of, state_of, taken_of}
use Rattle.rv_machine.proofs.machine.Machine.run.Given as goal

-- the run from the start goes on as the run from here, after what was written so far
abbrev pub invariant-loop-left : goal.invariant-loop-left
invariant-loop-left g l =
    (program_of l.self ≡ program_of l.fn.self)
    × (heap_of l.self ≡ heap_of l.fn.self)
    × (g.K.Sink.faults l.out ≡ g.K.Sink.faults l.fn.out)
    × ((output : List ℕ) × (g.K.Sink.taken l.out ≡ with_back (g.K.Sink.taken l.fn.out) output)
    × ((k : ℕ) → run_of (program_of l.fn.self) (state_of l.fn.self) (l.fn.steps - l.left + k) ≡ after_output output (run_of (program_of l.fn.self) (state_of l.self) k))
    × (output ≡ [] → l.out ≡ l.fn.out))
    × (l.left ≤ l.fn.steps)
    × (taken_of l.self ≡ taken_of l.fn.self)
    × StepsBetween (program_of l.fn.self) (state_of l.fn.self) (state_of l.self) (l.fn.steps - l.left)

abbrev pub decreases-loop-left : goal.decreases-loop-left
decreases-loop-left g l = l.left
