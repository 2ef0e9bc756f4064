-- Counts of functions that are defined.
use Rattle.std.proofs.Common.{ℕ, zero, suc, ◌≤◌, Bool, true, false, arith}
use Rattle.std.specs.Prelude.{if◌then◌else◌}
use Rattle.terra_term.specs.Held.{Held}
use Rattle.stage_image.specs.Emitted.{defined_below, is_defined}

one_more : (b : Bool) (k n : ℕ) → k ≤ n → (if b then suc k else k) ≤ suc n
one_more true k n le = omega (arith, le)
one_more false k n le = omega (arith, le)

-- no more are defined than there are
pub few_defined : (store : Held) (n : ℕ) → defined_below store n ≤ n
few_defined store zero = omega arith
few_defined store (suc n) = one_more (is_defined store (record { 0 = n })) (defined_below store n) n (few_defined store n)
