use Rattle.std.proofs.Common.{◌≡◌, drop}
use Rattle.tac_copies.specs.Kept.{behind, name_in, told_once}
use Rattle.tac_copies.specs.Shortened.{own_names, shortened}
use Rattle.tac_copies.proofs.shortening.shortened_block.Given as goal

-- with what becomes of the instructions that are left, all are there
abbrev pub invariant-loop-at : goal.invariant-loop-at
invariant-loop-at l =
    behind l.made.items (shortened (told_once l.once) (name_in l.names) (drop l.at l.block.instructions) l.block.exit)
    ≡ shortened (told_once l.once) own_names l.block.instructions l.block.exit
