use Rattle.std.proofs.Common.{◌≡◌, drop}
use Rattle.tac_copies.specs.Kept.{is_among}
use Rattle.tac_copies.specs.Taken.{is_needed}
use Rattle.tac_copies.proofs.taking.is_needed.Given as goal

-- it is so of all if it is so of those that are left
abbrev pub invariant-loop-instruction : goal.invariant-loop-instruction
invariant-loop-instruction l =
    is_needed l.t (drop l.instruction-index l.instructions) l.exit (is_among l.behind)
    ≡ is_needed l.t l.instructions l.exit (is_among l.behind)
