-- Two parts are apart where no byte is in both.
use Rattle.std.proofs.Common.{◌≡◌, ℕ, ◌+◌, ◌<◌, Bool, true, false, ◌||◌, eqb, leb, refl, arith, max}
use Rattle.std.specs.Prelude.{IsTrue, ◌↔◌}
use Rattle.std.proofs.lemmas.Bool.{leb-true, leb-false, eqb-true, eqb-false}
use Rattle.elf_image.specs.declared.layout.Part.{Part}
use Rattle.elf_image.specs.Tests.{is_apart, IsIn}

or_false : (a b : Bool) → (a || b) ≡ false → (a ≡ false) × (b ≡ false)
or_false true b e = absurd cc
or_false false b e = (refl, e)

-- a byte is in both where the test fails
shared : (p q : Part) → is_apart p q ≡ false → (k : ℕ) × IsIn k p × IsIn k q
shared p q e =
    let a = or_false (eqb p.size 0) _ e in
    let b = or_false (eqb q.size 0) _ a.1 in
    let c = or_false (leb (p.offset + p.size) q.offset) (leb (q.offset + q.size) p.offset) b.1 in
    let p_full = eqb-false p.size 0 a.0 in
    let q_full = eqb-false q.size 0 b.0 in
    let left : q.offset < p.offset + p.size = leb-false _ _ c.0 in
    let right : p.offset < q.offset + q.size = leb-false _ _ c.1 in
    (max p.offset q.offset, (omega arith, omega arith), (omega arith, omega arith))

-- none is where it passes
apart : (p q : Part) → is_apart p q ≡ true → (k : ℕ) → IsIn k p → IsIn k q → ⊥
apart p q e k hp hq =
    or_cases (eqb p.size 0) _ e (λ h. let z = eqb-true p.size 0 h in omega arith)
    (λ e2. or_cases (eqb q.size 0) _ e2 (λ h. let z = eqb-true q.size 0 h in omega arith)
    (λ e3. or_cases (leb (p.offset + p.size) q.offset) _ e3 (λ h. let z = leb-true (p.offset + p.size) q.offset h in omega arith)
    (λ h. let z = leb-true (q.offset + q.size) p.offset h in omega arith)))
  where
    or_cases : (a b : Bool) → (a || b) ≡ true → (a ≡ true → ⊥) → (b ≡ true → ⊥) → ⊥
    or_cases true b e f g = f refl
    or_cases false b e f g = g e

test_is : (b : Bool) (P : Type 0) → (b ≡ true → P) → (b ≡ false → P → ⊥) → (b ≡ true) ↔ P
test_is true P f g = (f, λ _. refl)
test_is false P f g = (f, λ p. absurd (g refl p))

pub apart_iff : (p q : Part) → IsTrue (is_apart p q) ↔ ((k : ℕ) → IsIn k p → IsIn k q → ⊥)
apart_iff p q = test_is (is_apart p q) ((k : ℕ) → IsIn k p → IsIn k q → ⊥) (apart p q) (λ e none. let s = shared p q e in none s.0 s.1 s.2)
