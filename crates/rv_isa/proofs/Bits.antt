-- Laws of the bits of words.
use Rattle.std.proofs.Common.{◌≡◌, ◌∙◌, ℕ, ◌+◌, ◌*◌, ◌/◌, ◌%◌, ◌^◌, ◌<◌, sym, ap, arith}
use Rattle.std.proofs.lemmas.Nat.{or_shifted, div-add-mod'}
use Rattle.std.specs.Prelude.{bit_or}

-- Low bits join a number that has none of them by a sum.
or_low : (n k b : ℕ) → n % 2 ^ k ≡ 0 → b < 2 ^ k → bit_or n b ≡ n + b
or_low n k b clear low =
    let whole : n / 2 ^ k * 2 ^ k ≡ n = omega (arith, div-add-mod' n (2 ^ k)) in
    ap (λ m. bit_or m b) (sym whole) ∙ (or_shifted (n / 2 ^ k) k b low ∙ ap (λ m. m + b) whole)

-- The same where both sides are computed.
pub or_joins : (m n k a b : ℕ) → m ≡ n → a ≡ b → n % 2 ^ k ≡ 0 → b < 2 ^ k → bit_or m a ≡ n + b
or_joins m n k a b high low clear below = ap (λ x. bit_or x a) high ∙ (ap (bit_or n) low ∙ or_low n k b clear below)
