-- A block that is reached stands where it stood, and what stands for another leads to a block that stays.
use Rattle.std.proofs.Common.{◌≡◌, ◌<◌, ◌≤◌, ℕ, zero, suc, ◌+◌, Bool, true, false, List, [], ◌∷◌, length, take, Some, None, refl, sym, ap}
use Rattle.std.proofs.Common.{◌∙◌, subst, ⊎_elim, arith}
use Rattle.std.specs.Prelude.{if◌then◌else◌, slice_get}
use Rattle.std.specs.List.{list_all}
use Rattle.std.proofs.lemmas.Bool.{and_from, cases_lt, false≢true}
use Rattle.std.proofs.lemmas.Option.{slice_get_past}
use Rattle.tac_form.specs.declared.tac.Block.{Block}
use Rattle.tac_copies.specs.Reached.{passed, passed_where, reached_blocks, up_to_last}
use Rattle.tac_copies.proofs.ReachedNext.{none-more, one-later}

-- ---- the front of a list

take-at : (bs : List Block) (m c : ℕ) → c < m → slice_get (take m bs) c ≡ slice_get bs c
take-at bs zero c l = absurd (omega (arith, l))
take-at [] (suc m) c l = refl
take-at (b ∷ bs) (suc m) zero l = refl
take-at (b ∷ bs) (suc m) (suc c) l = take-at bs m c (less c m l)
  where
    less : (n m : ℕ) → suc n < suc m → n < m
    less n m l = omega (arith, l)

take-none : (bs : List Block) (m c : ℕ) → slice_get bs c ≡ None → slice_get (take m bs) c ≡ None
take-none bs zero c e = refl
take-none [] (suc m) c e = refl
take-none (b ∷ bs) (suc m) zero e = cc
take-none (b ∷ bs) (suc m) (suc c) e = take-none bs m c e

take-length : (bs : List Block) (m : ℕ) → m ≤ length bs → length (take m bs) ≡ m
take-length bs zero l = refl
take-length [] (suc m) l = absurd (omega (arith, l))
take-length (b ∷ bs) (suc m) l = ap suc (take-length bs m (less m (length bs) l))
  where
    less : (n m : ℕ) → suc n ≤ suc m → n ≤ m
    less n m l = omega (arith, l)

module _ (reached : ℕ → Bool) where
  -- ---- up to the last that is reached

  pub last_next : (n : ℕ) → up_to_last reached (n + 1) ≡ (if reached n then n + 1 else up_to_last reached n)
  last_next n = let e : n + 1 ≡ suc n = omega arith in
      ap (up_to_last reached) e ∙ ap (λ m. if reached n then m else up_to_last reached n) (sym e)

  -- by whether the last of them is
  last-most : (n : ℕ) → up_to_last reached n ≤ n
  last-most zero = omega arith
  last-most (suc n) = by (reached n) (last-most n)
    where
      by : (b : Bool) → up_to_last reached n ≤ n → (if b then suc n else up_to_last reached n) ≤ suc n
      by true h = omega arith
      by false h = omega (arith, h)

  pub reached-before : (n c : ℕ) → reached c ≡ true → c < n → c < up_to_last reached n
  reached-before zero c r l = absurd (omega (arith, l))
  reached-before (suc n) c r l = by (reached n) refl (reached-before n c r)
    where
      here : c < suc n → n ≤ c → c ≡ n
      here l h = omega (arith, l, h)

      by : (b : Bool) → reached n ≡ b → (c < n → c < up_to_last reached n) → c < (if b then suc n else up_to_last reached n)
      by true e f = l
      by false e f =
          ⊎_elim f (λ h. absurd (false≢true (sym e ∙ ap reached (sym (here l h)) ∙ r))) (cases_lt c n)

  -- behind one before them that isn't reached, there is another before them
  pub another-before : (n c : ℕ) → reached c ≡ false → c < up_to_last reached n → suc c < up_to_last reached n
  another-before zero c r l = absurd (omega (arith, l))
  another-before (suc n) c r l = by (reached n) refl (another-before n c r) l
    where
      here : (m : ℕ) → c < suc m → m ≤ c → c ≡ m
      here m l h = omega (arith, l, h)

      more : (m : ℕ) → c < m → suc c < suc m
      more m l = omega (arith, l)

      by : (b : Bool) → reached n ≡ b → (c < up_to_last reached n → suc c < up_to_last reached n) →
          c < (if b then suc n else up_to_last reached n) → suc c < (if b then suc n else up_to_last reached n)
      by true e f l =
          ⊎_elim (more n) (λ h. absurd (false≢true (sym r ∙ ap reached (here n l h) ∙ e))) (cases_lt c n)
      by false e f l = f l

  -- ---- the blocks

  kept-at : (bs : List Block) (from c : ℕ) → reached (from + c) ≡ true → slice_get (passed_where reached from bs) c ≡ slice_get bs c
  kept-at [] from c h = refl
  kept-at (b ∷ bs) from zero h =
      ap (λ r. Some (if r then b else passed from)) (subst (λ m. reached m ≡ true) (none-more from) h)
  kept-at (b ∷ bs) from (suc c) h = kept-at bs (suc from) c (subst (λ m. reached m ≡ true) (one-later from c) h)

  as-many : (bs : List Block) (from : ℕ) → length (passed_where reached from bs) ≡ length bs
  as-many [] from = refl
  as-many (b ∷ bs) from = ap suc (as-many bs (suc from))

  pub count-is : (bs : List Block) → length (reached_blocks reached bs) ≡ up_to_last reached (length bs)
  count-is bs =
      let m = up_to_last reached (length bs) in
      as-many (take m bs) 0 ∙ take-length bs m (last-most (length bs))

  pub same-block : (bs : List Block) (c : ℕ) → reached c ≡ true → slice_get (reached_blocks reached bs) c ≡ slice_get bs c
  same-block bs c r =
      let m = up_to_last reached (length bs) in
      kept-at (take m bs) 0 c (subst (λ k. reached k ≡ true) (all c) r)
      ∙ ⊎_elim (λ l. take-at bs m c (reached-before (length bs) c r l))
      (λ l. let e = slice_get_past bs c l in take-none bs m c e ∙ sym e) (cases_lt c (length bs))
    where
      all : (n : ℕ) → n ≡ 0 + n
      all n = omega arith

  -- what holds of the blocks that are reached, and of what stands for the others, holds of all
  module _ (P : Block → Bool) where
    all-hold : (bs : List Block) (from : ℕ) →
        ((c : ℕ) (b : Block) → slice_get bs c ≡ Some b → reached (from + c) ≡ true → P b ≡ true) →
        ((c : ℕ) → c < length bs → reached (from + c) ≡ false → P (passed (from + c)) ≡ true) →
        list_all P (passed_where reached from bs) ≡ true
    all-hold [] from h g = refl
    all-hold (b ∷ bs) from h g =
        and_from (P (if reached from then b else passed from)) (list_all P (passed_where reached (suc from) bs)) (by (reached from) refl)
        (all-hold bs (suc from)
        (λ c d e r. h (suc c) d e (subst (λ m. reached m ≡ true) (sym (one-later from c)) r))
        (λ c l r. subst (λ m. P (passed m) ≡ true) (one-later from c)
        (g (suc c) (more c (length bs) l) (subst (λ m. reached m ≡ false) (sym (one-later from c)) r))))
      where
        more : (n m : ℕ) → n < m → suc n < suc m
        more n m l = omega (arith, l)

        some : (n : ℕ) → 0 < suc n
        some n = omega arith

        by : (r : Bool) → reached from ≡ r → P (if r then b else passed from) ≡ true
        by true e = h 0 b refl (subst (λ m. reached m ≡ true) (sym (none-more from)) e)
        by false e =
            subst (λ m. P (passed m) ≡ true) (none-more from)
            (g 0 (some (length bs)) (subst (λ m. reached m ≡ false) (sym (none-more from)) e))

    pub hold-of-all : (bs : List Block) →
        ((c : ℕ) (b : Block) → slice_get bs c ≡ Some b → reached c ≡ true → P b ≡ true) →
        ((c : ℕ) → c < up_to_last reached (length bs) → reached c ≡ false → P (passed c) ≡ true) →
        list_all P (reached_blocks reached bs) ≡ true
    hold-of-all bs h g =
        let m = up_to_last reached (length bs) in
        let long : length (take m bs) ≡ m = take-length bs m (last-most (length bs)) in
        all-hold (take m bs) 0
        (λ c b e r.
        let k : reached c ≡ true = subst (λ n. reached n ≡ true) (all c) r in
        h c b (sym (take-at bs m c (front c b m e long)) ∙ e) k)
        (λ c l r. subst (λ n. P (passed n) ≡ true) (sym (all c))
        (g c (subst (λ n. c < n) long l) (subst (λ n. reached n ≡ false) (all c) r)))
      where
        all : (n : ℕ) → 0 + n ≡ n
        all n = omega arith

        front : (c : ℕ) (b : Block) (m : ℕ) → slice_get (take m bs) c ≡ Some b → length (take m bs) ≡ m → c < m
        front c b m e long =
            ⊎_elim (λ l. subst (λ n. c < n) long l) (λ l. absurd (nothing (sym (slice_get_past (take m bs) c l) ∙ e)))
            (cases_lt c (length (take m bs)))
          where
            nothing : None ≡ Some b → ⊥
            nothing q = cc
