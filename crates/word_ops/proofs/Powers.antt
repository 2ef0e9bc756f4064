-- Powers of two up to the word's, and numbers below them.
use Rattle.std.proofs.Common.{◌≡◌, refl, ℕ, ◌*◌, ◌<◌, ◌≤◌, ◌%◌, ◌^◌, Bool, true, false, lit<}
use Rattle.std.proofs.Math.Nat.{pow-le-pow_right, mod-lt, mod-one}
use Rattle.std.proofs.lemmas.Nat.{pow_pos}
use Rattle.terra_words.specs.declared.words.BinaryOperator.TheVariants.{ShiftLeft, ShiftRight}
use Rattle.terra_words.specs.declared.words.Width.{Width}
use Rattle.terra_words.specs.Words.{applied, wrapped}

pub power_below : (bits : ℕ) → bits ≤ 64 → 2 ^ bits ≤ 2 ^ 64
power_below bits h = pow-le-pow_right {n = 2} (lit< tt) h

pub low_below : (n bits : ℕ) → n % 2 ^ bits < 2 ^ bits
low_below n bits = mod-lt n (pow_pos bits)

pub ruleset powers = (power_below, low_below)

-- a word of no bits is zero
none : (s : Bool) (n : ℕ) → 0 ≡ wrapped (record { signed = s; bits = 0 }) n
unfolding wrapped
none true n = rw mod-one refl
none false n = rw mod-one refl

pub left-none : (w : Width) (x y : ℕ) → w.bits ≡ 0 → 0 ≡ applied w ShiftLeft x y
unfolding applied wrapped
left-none w x y e = rw e (none w.signed (x * 2 ^ (y % 0)))

pub right-none : (w : Width) (x y : ℕ) → w.bits ≡ 0 → 0 ≡ applied w ShiftRight x y
unfolding applied wrapped
right-none w x y e = rw e (none w.signed _)
