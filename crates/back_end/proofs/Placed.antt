-- Where functions begin, by the places of their ids.
use Rattle.std.proofs.Common.{◌≡◌, ℕ, zero, suc, ◌<◌, Bool, true, false, List, [], ◌∷◌, length, get_or, refl, sym, ap, ◌∙◌, arith}
use Rattle.std.specs.Prelude.{◌||◌, nat_eq, if◌then◌else◌}
use Rattle.std.specs.List.{list_any}
use Rattle.std.proofs.lemmas.Bool.{eq-eqb, eqb-false, eqb-true}
use Rattle.tl_base.specs.declared.ids.FnId.{FnId}
use Rattle.back_end.specs.Symbols.{start_among}
use Rattle.back_end.specs.Worklist.{is_id}

turned : (a b : ℕ) (c : Bool) → nat_eq b a ≡ c → nat_eq a b ≡ c
turned a b true q = eq-eqb a b (sym (eqb-true b a q))
turned a b false q = by (nat_eq a b) refl
  where
    by : (c : Bool) → nat_eq a b ≡ c → nat_eq a b ≡ false
    by true p = absurd (eqb-false b a q (sym (eqb-true a b p)))
    by false p = p

-- at the place of the first id that is the function's
pub start-at : (ids : List FnId) (starts : List ℕ) (f d : FnId) (i : ℕ) → i < length ids → is_id f (get_or ids i d) ≡ true →
    ((k : ℕ) → k < i → is_id f (get_or ids k d) ≡ false) → start_among ids starts f ≡ get_or starts i 0
start-at [] starts f d i below here before = absurd (omega (arith, below))
start-at (g ∷ gs) [] f d i below here before = refl
start-at (g ∷ gs) (s ∷ ss) f d zero below here before =
    ap (λ b. if b then s else start_among gs ss f) (turned g.0 f.0 true here)
start-at (g ∷ gs) (s ∷ ss) f d (suc i) below here before =
    ap (λ b. if b then s else start_among gs ss f) (turned g.0 f.0 false (before 0 (omega arith)))
    ∙ start-at gs ss f d i (omega (arith, below)) here (λ k h. before (suc k) (omega (arith, h)))

-- nowhere where no id is
pub no-start : (ids : List FnId) (starts : List ℕ) (f : FnId) → list_any (is_id f) ids ≡ false → start_among ids starts f ≡ 0
no-start [] starts f e = refl
no-start (g ∷ gs) [] f e = refl
no-start (g ∷ gs) (s ∷ ss) f e = by (nat_eq f.0 g.0) refl (λ later. no-start gs ss f later)
  where
    by : (b : Bool) → nat_eq f.0 g.0 ≡ b → (list_any (is_id f) gs ≡ false → start_among gs ss f ≡ 0) →
        start_among (g ∷ gs) (s ∷ ss) f ≡ 0
    by true q later =
        let w : true ≡ false = sym (ap (λ b. b || list_any (is_id f) gs) q) ∙ e in absurd (grind (arith, w))
    by false q later =
        ap (λ b. if b then s else start_among gs ss f) (turned g.0 f.0 false q)
        ∙ later (sym (ap (λ b. b || list_any (is_id f) gs) q) ∙ e)
