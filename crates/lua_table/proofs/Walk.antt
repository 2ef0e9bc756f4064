-- A walk passes over what is empty.
use Rattle.std.proofs.Common.{ℕ, zero, suc, ◌+◌, ◌≡◌, Bool, true, false, cond, [], ◌∷◌, drop, slice_get, Some, refl, ◌∙◌, ap, arith}
use Rattle.lua_value.specs.Values.{is_nil}
use Rattle.lua_value.specs.declared.value.Value.{Value}
use Rattle.lua_table.specs.declared.next.Next.TheVariants.{Entry}
use Rattle.lua_table.specs.Pairs.{Pairs, first_in}

head_by : (p : Value × Value) (ps : Pairs) (t : Bool) → is_nil p.1 ≡ t → first_in (p ∷ ps) ≡ cond t (first_in ps) (Entry p.0 p.1)
head_by p ps true e = rw e refl
head_by p ps false e = rw e refl

passed_by : (ps : Pairs) (place : ℕ) (pair : Value × Value) → slice_get ps place ≡ Some pair → is_nil pair.1 ≡ true → first_in (drop place ps) ≡ first_in (drop (suc place) ps)
passed_by [] place pair at e = absurd (cc at)
passed_by (p ∷ ps) zero pair at e =
    let same : p ≡ pair = cc at in
    head_by p ps true (ap (λ (q : Value × Value). is_nil q.1) same ∙ e)
passed_by (p ∷ ps) (suc place) pair at e = passed_by ps place pair at e

found_by : (ps : Pairs) (place : ℕ) (pair : Value × Value) → slice_get ps place ≡ Some pair → is_nil pair.1 ≡ false → first_in (drop place ps) ≡ Entry pair.0 pair.1
found_by [] place pair at e = absurd (cc at)
found_by (p ∷ ps) zero pair at e =
    let same : p ≡ pair = cc at in
    head_by p ps false (ap (λ (q : Value × Value). is_nil q.1) same ∙ e) ∙ ap (λ (q : Value × Value). Entry q.0 q.1) same
found_by (p ∷ ps) (suc place) pair at e = found_by ps place pair at e

pub passed : (ps : Pairs) (place : ℕ) (pair : Value × Value) → slice_get ps place ≡ Some pair → is_nil pair.1 ≡ true → first_in (drop place ps) ≡ first_in (drop (place + 1) ps)
passed ps place pair at e = let next : suc place ≡ place + 1 = omega arith in passed_by ps place pair at e ∙ ap (λ n. first_in (drop n ps)) next

pub found : (ps : Pairs) (place : ℕ) (pair : Value × Value) → slice_get ps place ≡ Some pair → is_nil pair.1 ≡ false → first_in (drop place ps) ≡ Entry pair.0 pair.1
found = found_by
