-- What is kept as uses of temporaries are noted, in any order.
use Rattle.std.proofs.Common.{◌≡◌, ◌≢◌, ℕ, zero, suc, ◌+◌, ◌<◌, ◌≤◌, Bool, true, false, eqb, ltb, List, [], ◌∷◌, length, get_or, replicate}
use Rattle.std.proofs.Common.{set, Option, Some, None, refl, sym, ap, ◌∙◌, subst, ◌⊎◌, ⊎_elim, inl, inr, arith}
use Rattle.std.specs.Prelude.{slice_get, if◌then◌else◌}
use Rattle.std.proofs.lemmas.List.{length-set, get_or-set_same, get_or-set_other, get_or_past, get_or-replicate, length-replicate, set_past}
use Rattle.std.proofs.lemmas.Bool.{cases_eq, cases_lt, or_cases, or_left, or_right, eqb-true, eq-eqb, false≢true, ltb-true, ltb-false}
use Rattle.tac_form.specs.declared.graph.Step.{Step}
use Rattle.tac_form.specs.Live.{has, is_written}
use Rattle.reg_alloc.specs.declared.spans.Span.{Span}
use Rattle.reg_alloc.specs.Noted.{span_at, widened, noted, all_noted, write_noted, step_noted, steps_noted, noted_at, all_noted_at, Covers}

-- the ends of each interval are uses
pub record IsNoted (P : ℕ → ℕ → Type 0) (count : ℕ) (n : List (Option Span)) : Type 0 where
  pub long : length n ≡ count
  pub sane : (t : ℕ) (s : Span) → span_at n t ≡ Some s → s.first ≤ s.last
  pub begins : (t : ℕ) (s : Span) → span_at n t ≡ Some s → P t s.first
  pub ends : (t : ℕ) (s : Span) → span_at n t ≡ Some s → P t s.last

-- from one to a later
pub record Goes (P : ℕ → ℕ → Type 0) (count : ℕ) (old new : List (Option Span)) : Type 0 where
  pub is : IsNoted P count new
  pub keeps : (u q : ℕ) → Covers old u q → Covers new u q

pub then-goes : (P : ℕ → ℕ → Type 0) (count : ℕ) (a b c : List (Option Span)) → Goes P count a b → Goes P count b c → Goes P count a c
then-goes P count a b c g h = record { is = h.is; keeps = λ u r k. h.keeps u r (g.keeps u r k) }

pub stays : (P : ℕ → ℕ → Type 0) (count : ℕ) (n : List (Option Span)) → IsNoted P count n → Goes P count n n
stays P count n i = record { is = i; keeps = λ u q k. k }

-- a temporary's interval after one was put in
set-cases : (spans : List (Option Span)) (t u : ℕ) (x s : Span) → t < length spans → span_at (set spans t (Some x)) u ≡ Some s →
    ((u ≡ t) × (x ≡ s)) ⊎ ((u ≢ t) × (span_at spans u ≡ Some s))
set-cases spans t u x s h e =
    ⊎_elim
    (λ y.
    let p : Some x ≡ Some s = sym (get_or-set_same spans t (Some x) None h) ∙ (ap (λ v. get_or (set spans t (Some x)) v None) (sym y) ∙ e) in
    let q : x ≡ s = cc in
    inl (y, q))
    (λ n. inr (n, sym (get_or-set_other spans t u (Some x) None n) ∙ e))
    (cases_eq u t)

set-here : (spans : List (Option Span)) (t : ℕ) (x : Span) → t < length spans → span_at (set spans t (Some x)) t ≡ Some x
set-here spans t x h = get_or-set_same spans t (Some x) None h

set-there : (spans : List (Option Span)) (t u : ℕ) (x s : Span) → u ≢ t → span_at spans u ≡ Some s → span_at (set spans t (Some x)) u ≡ Some s
set-there spans t u x s n e = get_or-set_other spans t u (Some x) None n ∙ e

eq-here : (d : ℕ) → eqb d d ≡ true
eq-here d = eq-eqb d d refl

pub or-here : (u : ℕ) (us : List ℕ) → has (u ∷ us) u ≡ true
or-here u us = or_left (eqb u u) (has us u) (eq-here u)

pub or-there : (u : ℕ) (us : List ℕ) (t : ℕ) → has us t ≡ true → has (u ∷ us) t ≡ true
or-there u us t h = or_right (eqb u t) (has us t) h

plus-none : (p : ℕ) → p + 0 ≡ p
plus-none p = omega arith

pub one-more : (p j : ℕ) → p + suc j ≡ p + 1 + j
one-more p j = omega arith

-- what an interval with a place more reaches
pub record IsWider (o : Option Span) (p : ℕ) (x : Span) : Type 0 where
  pub first : (x.first ≡ p) ⊎ ((s : Span) × (o ≡ Some s) × (x.first ≡ s.first))
  pub last : (x.last ≡ p) ⊎ ((s : Span) × (o ≡ Some s) × (x.last ≡ s.last))
  pub from : x.first ≤ p
  pub to : p ≤ x.last
  pub more_from : (s : Span) → o ≡ Some s → x.first ≤ s.first
  pub more_to : (s : Span) → o ≡ Some s → s.last ≤ x.last

pub wider : (o : Option Span) (p : ℕ) → IsWider o p (widened o p)
wider None p = record {
  first = inl refl;
  last = inl refl;
  from = omega arith;
  to = omega arith;
  more_from = λ s e. cc;
  more_to = λ s e. cc;
}
wider (Some s) p = by-tests (ltb p s.first) (ltb s.last p) refl refl
  where
    by-tests : (a b : Bool) → ltb p s.first ≡ a → ltb s.last p ≡ b →
        IsWider (Some s) p (record { first = if a then p else s.first; last = if b then p else s.last })
    by-tests true true e f = record {
      first = inl refl;
      last = inl refl;
      from = omega arith;
      to = omega arith;
      more_from = λ r g. let k : s ≡ r = cc in let l = ltb-true p s.first e in let m : s.first ≡ r.first = ap (λ (v : Span). v.first) k in omega arith;
      more_to = λ r g. let k : s ≡ r = cc in let l = ltb-true s.last p f in let m : s.last ≡ r.last = ap (λ (v : Span). v.last) k in omega arith;
    }
    by-tests true false e f = record {
      first = inl refl;
      last = inr (s, refl, refl);
      from = omega arith;
      to = ltb-false s.last p f;
      more_from = λ r g. let k : s ≡ r = cc in let l = ltb-true p s.first e in let m : s.first ≡ r.first = ap (λ (v : Span). v.first) k in omega arith;
      more_to = λ r g. let k : s ≡ r = cc in let m : s.last ≡ r.last = ap (λ (v : Span). v.last) k in omega arith;
    }
    by-tests false true e f = record {
      first = inr (s, refl, refl);
      last = inl refl;
      from = ltb-false p s.first e;
      to = omega arith;
      more_from = λ r g. let k : s ≡ r = cc in let m : s.first ≡ r.first = ap (λ (v : Span). v.first) k in omega arith;
      more_to = λ r g. let k : s ≡ r = cc in let l = ltb-true s.last p f in let m : s.last ≡ r.last = ap (λ (v : Span). v.last) k in omega arith;
    }
    by-tests false false e f = record {
      first = inr (s, refl, refl);
      last = inr (s, refl, refl);
      from = ltb-false p s.first e;
      to = ltb-false s.last p f;
      more_from = λ r g. let k : s ≡ r = cc in let m : s.first ≡ r.first = ap (λ (v : Span). v.first) k in omega arith;
      more_to = λ r g. let k : s ≡ r = cc in let m : s.last ≡ r.last = ap (λ (v : Span). v.last) k in omega arith;
    }

put-goes : (P : ℕ → ℕ → Type 0) (count p t : ℕ) (x : Span) (n : List (Option Span)) → IsNoted P count n → t < length n → P t p →
    IsWider (span_at n t) p x → Goes P count n (set n t (Some x))
put-goes P count p t x n i h here w = record {
  is = record {
    long = length-set n t (Some x) ∙ i.long;
    sane = λ u s e.
        ⊎_elim
        (λ y.
        let a : x.first ≡ s.first = ap (λ (v : Span). v.first) y.1 in
        let b : x.last ≡ s.last = ap (λ (v : Span). v.last) y.1 in
        let c = w.from in
        let d = w.to in
        omega arith)
        (λ m. i.sane u s m.1)
        (set-cases n t u x s h e);
    begins = λ u s e.
        ⊎_elim
        (λ y. subst (λ a. P a s.first) (sym y.0) (subst (λ v. P t v) (ap (λ (v : Span). v.first) y.1) begun))
        (λ m. i.begins u s m.1)
        (set-cases n t u x s h e);
    ends = λ u s e.
        ⊎_elim
        (λ y. subst (λ a. P a s.last) (sym y.0) (subst (λ v. P t v) (ap (λ (v : Span). v.last) y.1) ended))
        (λ m. i.ends u s m.1)
        (set-cases n t u x s h e);
  };
  keeps = λ u q c.
      ⊎_elim
      (λ y.
      let g : span_at n t ≡ Some c.0 = ap (λ v. span_at n v) (sym y) ∙ c.1 in
      let a = w.more_from c.0 g in
      let b = w.more_to c.0 g in
      let k = c.2 in
      let l = c.3 in
      (x, ap (λ v. span_at (set n t (Some x)) v) y ∙ set-here n t x h, omega arith, omega arith))
      (λ m. (c.0, set-there n t u x c.0 m c.1, c.2, c.3))
      (cases_eq u t);
}
  where
    begun : P t x.first
    begun = ⊎_elim (λ e. subst (λ v. P t v) (sym e) here) (λ r. subst (λ v. P t v) (sym r.2) (i.begins t r.0 r.1)) w.first

    ended : P t x.last
    ended = ⊎_elim (λ e. subst (λ v. P t v) (sym e) here) (λ r. subst (λ v. P t v) (sym r.2) (i.ends t r.0 r.1)) w.last

pub noted-goes : (P : ℕ → ℕ → Type 0) (count p t : ℕ) (n : List (Option Span)) → IsNoted P count n → (t < count → P t p) → Goes P count n (noted t p n)
noted-goes P count p t n i here =
    ⊎_elim
    (λ l. put-goes P count p t (widened (span_at n t) p) n i l (here (omega (arith, i.long))) (wider (span_at n t) p))
    (λ g. subst (λ v. Goes P count n v) (sym (set_past n t (Some (widened (span_at n t) p)) g)) (stays P count n i))
    (cases_lt t (length n))

pub noted-covers : (P : ℕ → ℕ → Type 0) (count p t : ℕ) (n : List (Option Span)) → IsNoted P count n → t < count → Covers (noted t p n) t p
noted-covers P count p t n i h =
    let w = wider (span_at n t) p in
    (widened (span_at n t) p, set-here n t (widened (span_at n t) p) (omega (arith, i.long)), w.from, w.to)

-- several temporaries at one place
pub all-goes : (P : ℕ → ℕ → Type 0) (count p : ℕ) (ts : List ℕ) (n : List (Option Span)) → IsNoted P count n →
    ((t : ℕ) → has ts t ≡ true → t < count → P t p) → Goes P count n (all_noted ts p n)
all-goes P count p [] n i here = stays P count n i
all-goes P count p (u ∷ us) n i here =
    let g = noted-goes P count p u n i (λ k. here u (or-here u us) k) in
    then-goes P count n (noted u p n) (all_noted us p (noted u p n)) g
    (all-goes P count p us (noted u p n) g.is (λ t w k. here t (or-there u us t w) k))

pub all-covers : (P : ℕ → ℕ → Type 0) (count p : ℕ) (ts : List ℕ) (n : List (Option Span)) → IsNoted P count n →
    ((t : ℕ) → has ts t ≡ true → t < count → P t p) → (t : ℕ) → t < count → has ts t ≡ true → Covers (all_noted ts p n) t p
all-covers P count p [] n i here t k h = absurd (false≢true h)
all-covers P count p (u ∷ us) n i here t k h =
    let g = noted-goes P count p u n i (λ m. here u (or-here u us) m) in
    let rest : (v : ℕ) → has us v ≡ true → v < count → P v p = λ v w m. here v (or-there u us v w) m in
    ⊎_elim
    (λ e.
    let y : u ≡ t = eqb-true u t e in
    let c : Covers (noted u p n) t p = subst (λ v. Covers (noted u p n) v p) y (noted-covers P count p u n i (omega arith)) in
    (all-goes P count p us (noted u p n) g.is rest).keeps t p c)
    (λ w. all-covers P count p us (noted u p n) g.is rest t k w)
    (or_cases (eqb u t) (has us t) h)

write-goes : (P : ℕ → ℕ → Type 0) (count p : ℕ) (w : Option ℕ) (n : List (Option Span)) → IsNoted P count n →
    ((t : ℕ) → is_written w t ≡ true → t < count → P t p) → Goes P count n (write_noted w p n)
write-goes P count p None n i here = stays P count n i
write-goes P count p (Some d) n i here = noted-goes P count p d n i (λ k. here d (eq-here d) k)

write-covers : (P : ℕ → ℕ → Type 0) (count p : ℕ) (w : Option ℕ) (n : List (Option Span)) → IsNoted P count n →
    (t : ℕ) → t < count → is_written w t ≡ true → Covers (write_noted w p n) t p
write-covers P count p None n i t k h = absurd (false≢true h)
write-covers P count p (Some d) n i t k h =
    let y : d ≡ t = eqb-true d t h in
    subst (λ v. Covers (noted d p n) v p) y (noted-covers P count p d n i (omega arith))

-- what the steps of a block read and write are uses
pub record AreUses (P : ℕ → ℕ → Type 0) (count p : ℕ) (steps : List Step) : Type 0 where
  pub reads : (j : ℕ) (s : Step) → slice_get steps j ≡ Some s → (t : ℕ) → has s.reads t ≡ true → t < count → P t (p + j)
  pub writes : (j : ℕ) (s : Step) → slice_get steps j ≡ Some s → (t : ℕ) → is_written s.write t ≡ true → t < count → P t (p + j + 1)

-- and are covered
pub record AreCovered (count p : ℕ) (steps : List Step) (n : List (Option Span)) : Type 0 where
  pub reads : (j : ℕ) (s : Step) → slice_get steps j ≡ Some s → (t : ℕ) → has s.reads t ≡ true → t < count → Covers n t (p + j)
  pub writes : (j : ℕ) (s : Step) → slice_get steps j ≡ Some s → (t : ℕ) → is_written s.write t ≡ true → t < count → Covers n t (p + j + 1)

first-reads : (P : ℕ → ℕ → Type 0) (count p : ℕ) (s : Step) (ss : List Step) → AreUses P count p (s ∷ ss) → (t : ℕ) → has s.reads t ≡ true → t < count → P t p
first-reads P count p s ss a t h k = subst (λ q. P t q) (plus-none p) (a.reads 0 s refl t h k)

first-writes : (P : ℕ → ℕ → Type 0) (count p : ℕ) (s : Step) (ss : List Step) → AreUses P count p (s ∷ ss) → (t : ℕ) → is_written s.write t ≡ true → t < count → P t (p + 1)
first-writes P count p s ss a t h k = subst (λ q. P t (q + 1)) (plus-none p) (a.writes 0 s refl t h k)

rest-uses : (P : ℕ → ℕ → Type 0) (count p : ℕ) (s : Step) (ss : List Step) → AreUses P count p (s ∷ ss) → AreUses P count (p + 1) ss
rest-uses P count p s ss a = record {
  reads = λ j r e t h k. subst (λ q. P t q) (one-more p j) (a.reads (suc j) r e t h k);
  writes = λ j r e t h k. subst (λ q. P t (q + 1)) (one-more p j) (a.writes (suc j) r e t h k);
}

step-goes : (P : ℕ → ℕ → Type 0) (count p : ℕ) (s : Step) (n : List (Option Span)) → IsNoted P count n →
    ((t : ℕ) → has s.reads t ≡ true → t < count → P t p) → ((t : ℕ) → is_written s.write t ≡ true → t < count → P t (p + 1)) →
    Goes P count n (step_noted s p n)
step-goes P count p s n i reads writes =
    let g = all-goes P count p s.reads n i reads in
    then-goes P count n (all_noted s.reads p n) (step_noted s p n) g
    (write-goes P count (p + 1) s.write (all_noted s.reads p n) g.is writes)

pub steps-goes : (P : ℕ → ℕ → Type 0) (count : ℕ) (steps : List Step) (p : ℕ) (n : List (Option Span)) → IsNoted P count n →
    AreUses P count p steps → Goes P count n (steps_noted steps p n)
steps-goes P count [] p n i a = stays P count n i
steps-goes P count (s ∷ ss) p n i a =
    let m = step_noted s p n in
    let g = step-goes P count p s n i (first-reads P count p s ss a) (first-writes P count p s ss a) in
    let r = steps-goes P count ss (p + 1) m g.is (rest-uses P count p s ss a) in
    then-goes P count n m (steps_noted ss (p + 1) m) g r

pub steps-covers : (P : ℕ → ℕ → Type 0) (count : ℕ) (steps : List Step) (p : ℕ) (n : List (Option Span)) → IsNoted P count n →
    AreUses P count p steps → AreCovered count p steps (steps_noted steps p n)
steps-covers P count [] p n i a = record { reads = λ j s e. cc; writes = λ j s e. cc }
steps-covers P count (s ∷ ss) p n i a =
    more
    (steps-covers P count ss (p + 1) (step_noted s p n) (step-goes P count p s n i (first-reads P count p s ss a) (first-writes P count p s ss a)).is
    (rest-uses P count p s ss a))
  where
    begun : Goes P count n (all_noted s.reads p n)
    begun = all-goes P count p s.reads n i (first-reads P count p s ss a)

    wrote : Goes P count (all_noted s.reads p n) (step_noted s p n)
    wrote = write-goes P count (p + 1) s.write (all_noted s.reads p n) begun.is (first-writes P count p s ss a)

    rest : Goes P count (step_noted s p n) (steps_noted ss (p + 1) (step_noted s p n))
    rest = steps-goes P count ss (p + 1) (step_noted s p n) wrote.is (rest-uses P count p s ss a)

    more : AreCovered count (p + 1) ss (steps_noted ss (p + 1) (step_noted s p n)) →
        AreCovered count p (s ∷ ss) (steps_noted ss (p + 1) (step_noted s p n))
    more behind = record { reads = reads-at; writes = writes-at }
      where
        reads-at : (j : ℕ) (r : Step) → slice_get (s ∷ ss) j ≡ Some r → (t : ℕ) → has r.reads t ≡ true → t < count →
            Covers (steps_noted ss (p + 1) (step_noted s p n)) t (p + j)
        reads-at zero r e t h k =
            let y : s ≡ r = cc in
            let w = all-covers P count p s.reads n i (first-reads P count p s ss a) t k (ap (λ (v : Step). has v.reads t) y ∙ h) in
            subst (λ q. Covers (steps_noted ss (p + 1) (step_noted s p n)) t q) (sym (plus-none p)) (rest.keeps t p (wrote.keeps t p w))
        reads-at (suc j) r e t h k =
            subst (λ q. Covers (steps_noted ss (p + 1) (step_noted s p n)) t q) (sym (one-more p j)) (behind.reads j r e t h k)

        writes-at : (j : ℕ) (r : Step) → slice_get (s ∷ ss) j ≡ Some r → (t : ℕ) → is_written r.write t ≡ true → t < count →
            Covers (steps_noted ss (p + 1) (step_noted s p n)) t (p + j + 1)
        writes-at zero r e t h k =
            let y : s ≡ r = cc in
            let w = write-covers P count (p + 1) s.write (all_noted s.reads p n) begun.is t k (ap (λ (v : Step). is_written v.write t) y ∙ h) in
            subst (λ q. Covers (steps_noted ss (p + 1) (step_noted s p n)) t (q + 1)) (sym (plus-none p)) (rest.keeps t (p + 1) w)
        writes-at (suc j) r e t h k =
            subst (λ q. Covers (steps_noted ss (p + 1) (step_noted s p n)) t (q + 1)) (sym (one-more p j)) (behind.writes j r e t h k)

-- one temporary at places of blocks
pub at-goes : (P : ℕ → ℕ → Type 0) (count t : ℕ) (o : Option ℕ) (n : List (Option Span)) → IsNoted P count n →
    ((p : ℕ) → o ≡ Some p → t < count → P t p) → Goes P count n (noted_at o t n)
at-goes P count t None n i here = stays P count n i
at-goes P count t (Some p) n i here = noted-goes P count p t n i (λ k. here p refl k)

pub at-covers : (P : ℕ → ℕ → Type 0) (count t p : ℕ) (o : Option ℕ) (n : List (Option Span)) → IsNoted P count n → t < count → o ≡ Some p →
    Covers (noted_at o t n) t p
at-covers P count t p None n i k e = cc
at-covers P count t p (Some q) n i k e =
    let y : q ≡ p = cc in
    subst (λ v. Covers (noted t q n) t v) y (noted-covers P count q t n i k)

pub all-at-goes : (P : ℕ → ℕ → Type 0) (count t : ℕ) (places bs : List ℕ) (n : List (Option Span)) → IsNoted P count n →
    ((b p : ℕ) → has bs b ≡ true → slice_get places b ≡ Some p → t < count → P t p) → Goes P count n (all_noted_at bs t places n)
all-at-goes P count t places [] n i here = stays P count n i
all-at-goes P count t places (b ∷ bs) n i here =
    let m = noted_at (slice_get places b) t n in
    let g = at-goes P count t (slice_get places b) n i (λ p e k. here b p (or-here b bs) e k) in
    then-goes P count n m (all_noted_at bs t places m) g
    (all-at-goes P count t places bs m g.is (λ c p w e k. here c p (or-there b bs c w) e k))

pub all-at-covers : (P : ℕ → ℕ → Type 0) (count t : ℕ) (places bs : List ℕ) (n : List (Option Span)) → IsNoted P count n →
    ((b p : ℕ) → has bs b ≡ true → slice_get places b ≡ Some p → t < count → P t p) → t < count →
    (b p : ℕ) → has bs b ≡ true → slice_get places b ≡ Some p → Covers (all_noted_at bs t places n) t p
all-at-covers P count t places [] n i here k b p h e = absurd (false≢true h)
all-at-covers P count t places (c ∷ cs) n i here k b p h e =
    let m = noted_at (slice_get places c) t n in
    let g = at-goes P count t (slice_get places c) n i (λ p e k. here c p (or-here c cs) e k) in
    let rest : (d p : ℕ) → has cs d ≡ true → slice_get places d ≡ Some p → t < count → P t p = λ d p w e k. here d p (or-there c cs d w) e k in
    ⊎_elim
    (λ s.
    let y : c ≡ b = eqb-true c b s in
    (all-at-goes P count t places cs m g.is rest).keeps t p
    (at-covers P count t p (slice_get places c) n i k (ap (λ v. slice_get places v) y ∙ e)))
    (λ w. all-at-covers P count t places cs m g.is rest k b p w e)
    (or_cases (eqb c b) (has cs b) h)

-- nothing is noted
no-span : (count t : ℕ) (s : Span) → span_at (replicate count None) t ≡ Some s → ⊥
no-span count t s e =
    ⊎_elim
    (λ l. let w : ◌≡◌ {A = Option Span} None (Some s) = sym (get_or-replicate count t None None l) ∙ e in cc)
    (λ l.
    let k : length {A = Option Span} (replicate count None) ≤ t = omega (arith, length-replicate {A = Option Span} count None) in
    let w : ◌≡◌ {A = Option Span} None (Some s) = sym (get_or_past (replicate count None) t None k) ∙ e in cc)
    (cases_lt t count)

pub none-noted : (P : ℕ → ℕ → Type 0) (count : ℕ) → IsNoted P count (replicate count None)
none-noted P count = record {
  long = length-replicate count None;
  sane = λ t s e. absurd (no-span count t s e);
  begins = λ t s e. absurd (no-span count t s e);
  ends = λ t s e. absurd (no-span count t s e);
}
