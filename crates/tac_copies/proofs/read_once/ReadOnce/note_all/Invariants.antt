use Rattle.std.proofs.Common.{take}
use Rattle.tac_copies.specs.Kept.{Told}
use Rattle.tac_copies.proofs.read_once.ReadOnce.note_all.Given as goal

abbrev pub invariant-loop-t : goal.invariant-loop-t
invariant-loop-t l = Told l.self (take l.t-index l.temps)
