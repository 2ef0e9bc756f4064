-- The least count that passes a test.
use Rattle.std.proofs.Common.{◌≡◌, ℕ, zero, suc, ◌+◌, ◌≤◌, ◌<◌, Bool, true, false, List, Option, refl, arith, subst}
use Rattle.std.specs.Prelude.{if◌then◌else◌}
use Rattle.tl_base.specs.declared.ids.FnId.{FnId}
use Rattle.terra_words.specs.Runs.{End, Run, Over, More}
use Rattle.back_end.specs.Units.{Needs}
use Rattle.stage_model.specs.Calls.{is_over, least_of}

module _ (test : ℕ → Bool) where
  pub passes : (from many : ℕ) → test (from + many) ≡ true → test (least_of test from many) ≡ true
  unfolding least_of
  passes from zero last =
      let e : from + zero ≡ from = omega arith in
      subst (λ (n : ℕ). test n ≡ true) e last
  passes from (suc many) last = by (test from) refl (λ later. passes (suc from) many later)
    where
      by : (b : Bool) → test from ≡ b → (test (suc from + many) ≡ true → test (least_of test (suc from) many) ≡ true) →
          test (if b then from else least_of test (suc from) many) ≡ true
      by true e behind = e
      by false e behind =
          let same : from + suc many ≡ suc from + many = omega arith in
          behind (subst (λ (n : ℕ). test n ≡ true) same last)

  before-by : (from many k : ℕ) → from + k < least_of test from many → test (from + k) ≡ false
  unfolding least_of
  before-by from zero k less = absurd (omega (arith, less))
  before-by from (suc many) k less = by (test from) refl k less (λ j below. before-by (suc from) many j below)
    where
      by : (b : Bool) → test from ≡ b → (k : ℕ) → from + k < (if b then from else least_of test (suc from) many) →
          ((j : ℕ) → suc from + j < least_of test (suc from) many → test (suc from + j) ≡ false) → test (from + k) ≡ false
      by true e k less behind = absurd (omega (arith, less))
      by false e zero less behind =
          let same : from ≡ from + zero = omega arith in
          subst (λ (n : ℕ). test n ≡ false) same e
      by false e (suc k) less behind =
          let same : suc from + k ≡ from + suc k = omega arith in
          let below : suc from + k < least_of test (suc from) many = omega (arith, less) in
          subst (λ (n : ℕ). test n ≡ false) same (behind k below)

  pub before : (many n : ℕ) → n < least_of test 0 many → test n ≡ false
  before many n less =
      let same : 0 + n ≡ n = omega arith in
      let below : 0 + n < least_of test 0 many = omega (arith, less) in
      subst (λ (m : ℕ). test m ≡ false) same (before-by 0 many n below)

  pub at-most : (from many : ℕ) → least_of test from many ≤ from + many
  unfolding least_of
  at-most from zero = omega arith
  at-most from (suc many) = by (test from) (at-most (suc from) many)
    where
      by : (b : Bool) → least_of test (suc from) many ≤ suc from + many → (if b then from else least_of test (suc from) many) ≤ from + suc many
      by true behind = omega arith
      by false behind = omega (arith, behind)

-- ---- the counts that a run needs

over-has : (r : Run) → is_over r ≡ true → (e : End) × (out : List ℕ) × (r ≡ Over e out)
over-has (Over e out) h = (e, out, refl)
over-has (More out) h = absurd cc

more-has : (r : Run) → is_over r ≡ false → (out : List ℕ) × (r ≡ More out)
more-has (Over e out) h = absurd cc
more-has (More out) h = (out, refl)

-- a run that is over at a count needs the least one at which it is
pub needs-least : (run : ℕ → Run) (units : ℕ) (e : End) (out : List ℕ) → run units ≡ Over e out →
    Needs run (least_of (λ n. is_over (run n)) 0 units)
needs-least run units e out is =
    let test : ℕ → Bool = λ n. is_over (run n) in
    let same : units ≡ 0 + units = omega arith in
    let last : test (0 + units) ≡ true = subst (λ (n : ℕ). test n ≡ true) same (rw is refl) in
    let at = over-has (run (least_of test 0 units)) (passes test 0 units last) in
    record {
      end = at.0;
      out = at.1;
      ends = at.2;
      fewer = λ n less. more-has (run n) (before test units n less);
    }
