use Rattle.std.proofs.Common.{◌≡◌, ℕ, ◌<◌, false}
use Rattle.reg_alloc.specs.Scans.{holder_at, is_free}
use Rattle.reg_alloc.proofs.scan.free_register.Given as goal

abbrev pub invariant-loop-r : goal.invariant-loop-r
invariant-loop-r l = (k : ℕ) → k < l.r → is_free (holder_at l.holders k) l.place ≡ false
