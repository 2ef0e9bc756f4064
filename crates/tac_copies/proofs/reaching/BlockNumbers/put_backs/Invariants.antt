use Rattle.std.proofs.Common.{◌≡◌, drop}
use Rattle.tac_copies.specs.Kept.{with_backs}
use Rattle.tac_copies.proofs.reaching.BlockNumbers.put_backs.Given as goal

abbrev pub invariant-loop-from : goal.invariant-loop-from
invariant-loop-from l = with_backs l.from l.self (drop l.from l.blocks) ≡ with_backs 0 l.fn.self l.blocks
