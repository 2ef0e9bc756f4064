use Rattle.std.proofs.Common.{ℕ, ◌<◌, ◌≤◌, length}
use Rattle.reg_alloc.specs.Scans.{last_of, holder_at}
use Rattle.reg_alloc.proofs.scan.latest.Given as goal

abbrev pub invariant-loop-r : goal.invariant-loop-r
invariant-loop-r l =
    (l.best < length l.holders) × ((k : ℕ) → k < l.r → last_of (holder_at l.holders k) ≤ last_of (holder_at l.holders l.best))
