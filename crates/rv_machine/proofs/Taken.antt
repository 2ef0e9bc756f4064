-- What a sink took, front by front.
use Rattle.std.proofs.Common.{◌≡◌, ℕ, zero, suc, ◌+◌, List, [], ◌∷◌, ◌++◌, take, drop, Option, Some, None, refl, sym, ap, ◌∙◌, append_assoc}
use Rattle.std.proofs.Common.{append-nil, arith}
use Rattle.tl_base.specs.Outside.{with_back}

-- a sink takes nothing
pub with_back-none : (taken : Option (List ℕ)) → taken ≡ with_back taken []
with_back-none None = refl
with_back-none (Some bytes) = ap Some (sym (append-nil bytes))

-- a sink takes one front and then another
pub with_back-both : (taken : Option (List ℕ)) (a b : List ℕ) → with_back (with_back taken a) b ≡ with_back taken (a ++ b)
with_back-both None a b = refl
with_back-both (Some bytes) a b = ap Some (append_assoc bytes a b)

take-both : (a b : ℕ) (xs : List ℕ) → take a xs ++ take b (drop a xs) ≡ take (a + b) xs
take-both zero b xs = let e : b ≡ 0 + b = omega arith in ap (λ n. take n xs) e
take-both (suc a) b [] = nothing b (suc a + b)
  where
    nothing : (n m : ℕ) → take {A = ℕ} n [] ≡ take m []
    nothing zero zero = refl
    nothing zero (suc m) = refl
    nothing (suc n) zero = refl
    nothing (suc n) (suc m) = refl
take-both (suc a) b (x ∷ xs) = let e : suc (a + b) ≡ suc a + b = omega arith in ap (λ r. x ∷ r) (take-both a b xs) ∙ ap (λ n. take n (x ∷ xs)) e

-- it took the bytes before `done`, and then so many of those that are left
pub took_more : (old middle new : Option (List ℕ)) (bytes : List ℕ) (done count : ℕ) → middle ≡ with_back old (take done bytes) → new ≡ with_back middle (take count (drop done bytes)) → new ≡ with_back old (take (done + count) bytes)
took_more old middle new bytes done count before now =
    now
    ∙ ap (λ t. with_back t (take count (drop done bytes))) before
    ∙ with_back-both old (take done bytes) (take count (drop done bytes))
    ∙ ap (with_back old) (take-both done count bytes)
