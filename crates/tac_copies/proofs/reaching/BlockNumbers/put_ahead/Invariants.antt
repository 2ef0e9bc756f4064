use Rattle.std.proofs.Common.{◌≡◌, drop}
use Rattle.tac_copies.specs.Kept.{with_ahead}
use Rattle.tac_copies.proofs.reaching.BlockNumbers.put_ahead.Given as goal

abbrev pub invariant-loop-from : goal.invariant-loop-from
invariant-loop-from l = with_ahead l.from l.self (drop l.from l.blocks) ≡ with_ahead 0 l.fn.self l.blocks
