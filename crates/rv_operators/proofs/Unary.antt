-- The operators of one operand, as operators of two.
use Rattle.std.proofs.Common.{◌≡◌, ℕ, ◌+◌, ◌-◌, ◌*◌, ◌%◌, ◌^◌, ◌<◌, not, sym, ap, ◌∙◌, ⊎_elim, arith}
use Rattle.std.specs.Prelude.{nat_lt, bit_and, bit_xor}
use Rattle.std.proofs.lemmas.Bool.{cases_eq, eq-eqb, ne_eqb, lt-ltb, le-ltb}
use Rattle.std.proofs.lemmas.Nat.{and_mask}
use Rattle.std.specs.Int.Bits.{xor_add_and}
use Rattle.terra_words.specs.declared.words.Width.{Width}
use Rattle.terra_words.specs.declared.words.BinaryOperator.TheVariants.{Add, Subtract, Xor, NotEqual}
use Rattle.terra_words.specs.Words.{wrapped, applied, negated, complemented, flag}

pub negated-is : (w : Width) (x : ℕ) → applied w Subtract 0 x ≡ negated w x
unfolding applied negated
negated-is w x = let e : 0 + (2 ^ 64 - x) ≡ 2 ^ 64 - x = omega arith in ap (wrapped w) e

others : (x : ℕ) → x < 2 ^ 64 → bit_xor x (2 ^ 64 - 1) ≡ 2 ^ 64 - 1 - x
others x h =
    let m : bit_and x (2 ^ 64 - 1) ≡ x % 2 ^ 64 = and_mask x 64 in
    let s : bit_xor x (2 ^ 64 - 1) + bit_and x (2 ^ 64 - 1) * 2 ≡ x + (2 ^ 64 - 1) = xor_add_and x (2 ^ 64 - 1) in
    omega (arith, m, s)

pub complemented-is : (w : Width) (x : ℕ) → x < 2 ^ 64 → applied w Xor x (2 ^ 64 - 1) ≡ complemented w x
unfolding applied complemented
complemented-is w x h = ap (wrapped w) (others x h)

pub wrapped-is : (w : Width) (x : ℕ) → applied w Add x 0 ≡ wrapped w x
unfolding applied
wrapped-is w x = let e : x + 0 ≡ x = omega arith in ap (wrapped w) e

pub truth-is : (w : Width) (x : ℕ) → applied w NotEqual x 0 ≡ flag (nat_lt 0 x)
unfolding applied
truth-is w x =
    ⊎_elim
    (λ e. let l : x < 1 = omega arith in ap (λ b. flag (not b)) (eq-eqb x 0 e) ∙ ap flag (sym (le-ltb 0 x (omega arith))))
    (λ n. let l : 0 < x = omega (arith, n) in ap (λ b. flag (not b)) (ne_eqb x 0 n) ∙ ap flag (sym (lt-ltb 0 x l)))
    (cases_eq x 0)
