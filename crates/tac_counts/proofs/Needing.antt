-- How many counts a run needs: all that it has but those that are left.
use Rattle.std.proofs.Common.{◌≡◌, ℕ, zero, suc, ◌+◌, ◌-◌, ◌≤◌, Bool, true, false, List, refl, sym, ap, ◌∙◌, subst, arith, inl, inr}
use Rattle.std.specs.Prelude.{if◌then◌else◌, ◌⊎◌}
use Rattle.terra_words.specs.Runs.{End, Over, More}
use Rattle.tac_form.specs.Flow.{Program, State, Moved, Goes, Stops, step, steps}
use Rattle.tac_counts.specs.Counts.{Needs, counting, left_after, left_behind, left_in, takes}
use Rattle.tac_counts.proofs.Lifting.{Lifts, Taken, lift, fewer, none, step-does, stops-stay}

-- ---- one step

pub goes : (p : Program) (s t : State) → step p s ≡ Goes t → t.left ≡ left_behind p s
goes p s t is = by (takes p s) (subst (λ m. Taken (takes p s) s m) is (step-does p s).0)
  where
    by : (b : Bool) → Taken b s (Goes t) → t.left ≡ (if b then s.left - 1 else s.left)
    by true q = omega (arith, q)
    by false q = q

pub more : (p : Program) (s : State) (out : List ℕ) → step p s ≡ Stops (More out) → (takes p s ≡ true) × (s.left ≡ 0)
more p s out is = subst (λ m. Taken (takes p s) s m) is (step-does p s).0

pub without : (p : Program) (s : State) → takes p s ≡ true → s.left ≡ 0 → (out : List ℕ) × (step p s ≡ Stops (More out))
without p s e z = by (step p s) (subst (λ b. Taken b s (step p s)) e (step-does p s).0)
  where
    by : (m : Moved) → Taken true s m → (out : List ℕ) × (m ≡ Stops (More out))
    by (Goes t) q = absurd (omega (arith, q, z))
    by (Stops (Over e out)) q = absurd (omega (arith, q, z))
    by (Stops (More out)) q = (out, refl)

-- ---- runs

-- what is left never rises
at-most : (p : Program) (k : ℕ) (s : State) → left_in p k s ≤ s.left
at-most p zero s = omega arith
at-most p (suc k) s = by (λ t. at-most p k t) (step p s) refl
  where
    behind : left_behind p s ≤ s.left
    behind = one (takes p s)
      where
        one : (b : Bool) → (if b then s.left - 1 else s.left) ≤ s.left
        one true = omega arith
        one false = omega arith

    by : ((t : State) → left_in p k t ≤ t.left) → (m : Moved) → step p s ≡ m →
        left_after (step p s) (left_in p k) (left_behind p s) ≤ s.left
    by again (Goes t) is = rw is (omega (arith, again t, goes p s t is, behind))
    by again (Stops r) is = rw is behind

-- what needs more needs more with one count fewer
still-more : (p : Program) (k : ℕ) (s : State) (out : List ℕ) → steps p k (Goes (lift s)) ≡ Stops (More out) →
    (less : List ℕ) × (steps p k (Goes s) ≡ Stops (More less))
still-more p zero s out h = absurd (cc h)
still-more p (suc k) s out h = by (λ t q. still-more p k t out q) (step p s) refl
  where
    lifted : (m : Moved) → step p s ≡ m → Lifts m (step p (lift s))
    lifted m is = subst (λ z. Lifts z (step p (lift s))) is (step-does p s).1

    by : ((t : State) → steps p k (Goes (lift t)) ≡ Stops (More out) → (less : List ℕ) × (steps p k (Goes t) ≡ Stops (More less))) →
        (m : Moved) → step p s ≡ m → (less : List ℕ) × (steps p k (step p s) ≡ Stops (More less))
    by again (Goes t) is =
        let up : step p (lift s) ≡ Goes (lift t) = lifted (Goes t) is in
        rw is (again t (sym (ap (λ m. steps p k m) up) ∙ h))
    by again (Stops (Over e out')) is =
        let up : step p (lift s) ≡ Stops (Over e out') = lifted (Stops (Over e out')) is in
        let both : Stops (Over e out') ≡ Stops (More out) = sym (stops-stay p k (Over e out')) ∙ (sym (ap (λ m. steps p k m) up) ∙ h) in
        absurd (cc both)
    by again (Stops (More less)) is = rw is (less, stops-stay p k (More less))

same-or-less : (n l : ℕ) → n ≤ suc l → (n ≡ suc l) ⊎ (n ≤ l)
same-or-less zero l lt = inr (omega arith)
same-or-less (suc n) zero lt = inl (omega (arith, lt))
same-or-less (suc n) (suc l) lt = up (same-or-less n l (omega (arith, lt)))
  where
    up : (n ≡ suc l) ⊎ (n ≤ l) → (suc n ≡ suc (suc l)) ⊎ (suc n ≤ suc l)
    up (inl e) = inl (omega (arith, e))
    up (inr e) = inr (omega (arith, e))

-- and with any that are fewer
all-more : (p : Program) (k n l : ℕ) (s : State) (out : List ℕ) → steps p k (Goes (counting l s)) ≡ Stops (More out) → n ≤ l →
    (less : List ℕ) × (steps p k (Goes (counting n s)) ≡ Stops (More less))
all-more p k zero zero s out h lt = (out, h)
all-more p k (suc n) zero s out h lt = absurd (omega (arith, lt))
all-more p k n (suc l) s out h lt =
    by (same-or-less n l lt)
    (λ e. let m = still-more p k (counting l s) out h in all-more p k n l s m.0 m.1 e)
  where
    by : (n ≡ suc l) ⊎ (n ≤ l) → (n ≤ l → (less : List ℕ) × (steps p k (Goes (counting n s)) ≡ Stops (More less))) →
        (less : List ℕ) × (steps p k (Goes (counting n s)) ≡ Stops (More less))
    by (inl e) fewer = (out, ap (λ j. steps p k (Goes (counting j s))) e ∙ h)
    by (inr e) fewer = fewer e

needed : (p : Program) (k c n m : ℕ) (s : State) (e : End) (out : List ℕ) → steps p k (Goes (counting n s)) ≡ Stops (Over e out) →
    left_in p k (counting n s) ≡ c → n ≡ m + c → Needs p k s e out m
needed p k zero n m s e out h l sum = by m (subst (λ j. steps p k (Goes (counting j s)) ≡ Stops (Over e out)) same h)
    (subst (λ j. left_in p k (counting j s) ≡ 0) same l)
  where
    same : n ≡ m
    same = omega (arith, sum)

    by : (m : ℕ) → steps p k (Goes (counting m s)) ≡ Stops (Over e out) → left_in p k (counting m s) ≡ 0 → Needs p k s e out m
    by zero h l = record { ends = h; fewer = λ j lt. absurd (omega (arith, lt)) }
    by (suc m) h l =
        let f = none p k (counting m s) e out h l in
        record { ends = h; fewer = λ j lt. all-more p k j m s f.0 f.1 (omega (arith, lt)) }
needed p k (suc c) zero m s e out h l sum = absurd (omega (arith, sum))
needed p k (suc c) (suc n) m s e out h l sum =
    let f = fewer p k c (counting n s) e out h l in needed p k c n m s e out f.0 f.1 (omega (arith, sum))

pub needs : (p : Program) (k n : ℕ) (s : State) (e : End) (out : List ℕ) → steps p k (Goes (counting n s)) ≡ Stops (Over e out) →
    (left_in p k (counting n s) ≤ n) × Needs p k s e out (n - left_in p k (counting n s))
needs p k n s e out h =
    let l = at-most p k (counting n s) in
    (l, needed p k (left_in p k (counting n s)) n (n - left_in p k (counting n s)) s e out h refl (omega (arith, l)))
