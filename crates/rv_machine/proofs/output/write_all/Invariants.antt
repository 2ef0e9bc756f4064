use Rattle.std.proofs.Common.{◌≡◌, ◌-◌, ◌≤◌, length, take}
use Rattle.tl_base.specs.Outside.{with_back}
use Rattle.rv_machine.proofs.output.write_all.Given as goal

-- the bytes before `done` were taken
abbrev pub invariant-loop-done : goal.invariant-loop-done
invariant-loop-done g l =
    (l.done ≤ length l.bytes)
    × (g.K.Sink.taken l.out ≡ with_back (g.K.Sink.taken l.fn.out) (take l.done l.bytes))
    × (g.K.Sink.faults l.out ≡ g.K.Sink.faults l.fn.out)

abbrev pub decreases-loop-done : goal.decreases-loop-done
decreases-loop-done g l = length l.bytes - l.done
