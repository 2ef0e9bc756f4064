use Rattle.std.proofs.Common.{◌≡◌, ◌≤◌}
use Rattle.tac_copies.specs.Kept.{is_among}
use Rattle.tac_copies.specs.Reached.{up_to_last}
use Rattle.tac_copies.proofs.reaching.BlockNumbers.up_to_last.Given as goal

abbrev pub invariant-loop-at : goal.invariant-loop-at
invariant-loop-at l = record {
  last : l.last ≡ up_to_last (is_among l.self) l.at;
  most : l.last ≤ l.at;
}
