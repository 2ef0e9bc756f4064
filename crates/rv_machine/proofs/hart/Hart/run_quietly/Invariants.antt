use Rattle.std.proofs.Common.{◌≡◌, ◌+◌, ◌-◌, ◌≤◌, ℕ, map}
use Rattle.rv_machine.specs.Decoded.{found_of}
use Rattle.rv_machine.specs.Machine.{run_of}
use Rattle.rv_machine.specs.Count.{StepsBetween}
use Rattle.rv_machine.specs.Place.{address_at}
use Rattle.rv_machine.specs.Shown.{hart_state, stands_at}
use Rattle.rv_machine.proofs.hart.Hart.run_quietly.Given as goal

-- the run goes on from this place
abbrev pub invariant-loop-left : goal.invariant-loop-left
invariant-loop-left l =
    (l.left ≤ l.fn.steps)
    × StepsBetween (map found_of l.fn.text) (hart_state l.fn.self) (stands_at l.self (address_at l.at)) (l.fn.steps - l.left)
    × ((rest : ℕ) → run_of (map found_of l.fn.text) (hart_state l.fn.self) (l.fn.steps - l.left + rest) ≡ run_of (map found_of l.fn.text) (stands_at l.self (address_at l.at)) rest)

abbrev pub decreases-loop-left : goal.decreases-loop-left
decreases-loop-left l = l.left
