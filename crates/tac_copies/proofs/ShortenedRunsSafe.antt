-- How the temporaries of the two codes agree: each but for those whose copies go, and what a read finds is always the same.
use Rattle.std.proofs.Common.{◌≡◌, ℕ, zero, suc, ◌+◌, ◌≤◌, Bool, true, false, not, ◌&&◌, ◌||◌, List, [], ◌∷◌, ◌++◌, Option, Some, None}
use Rattle.std.proofs.Common.{refl, sym, ap, ◌∙◌, subst, ⊎_elim, inl, inr, true≢false, arith}
use Rattle.std.specs.Prelude.{if◌then◌else◌, nat_eq, ◌⊎◌}
use Rattle.std.proofs.lemmas.Bool.{and_right, eqb-true, eq-eqb, or_left, or_right}
use Rattle.tac_form.specs.declared.tac.Operand.TheVariants.{Temp}
use Rattle.tac_form.specs.declared.tac.Instruction.{Instruction}
use Rattle.tac_form.specs.declared.tac.Instruction.TheVariants.{Copy}
use Rattle.tac_form.specs.declared.tac.Exit.{Exit}
use Rattle.tac_form.specs.declared.tac.Tac.{Tac}
use Rattle.tac_form.specs.Flow.{Temps, put}
use Rattle.tac_form.specs.Graph.{exit_reads, instruction_reads, instruction_write}
use Rattle.tac_form.specs.Live.{has, is_written}
use Rattle.tac_copies.specs.Once.{is_once, times}
use Rattle.tac_copies.specs.Shortened.{goes, named_in, reads_first, shortened, with_first}
use Rattle.tac_copies.proofs.ShortenedRunsCounts.{Hidden, after, and-left, and-right, by_value, carries, clash, exposed, exposed-times}
use Rattle.tac_copies.proofs.ShortenedRunsCounts.{false-true, has-times, not-is, or-false_left, or-false_right, or-rest, times_from}
use Rattle.tac_copies.proofs.ShortenedRunsCounts.{too-many}

-- ---- a kept instruction, and a copy that goes

abbrev pub removes : (once : ℕ → Bool) → (names : ℕ → ℕ) → Instruction → List Instruction → Exit → Bool
removes once names (Copy d (Temp u)) is e = goes once d (names u) is e
removes once names _ is e = false

pub kept-carries : (once : ℕ → Bool) (names : ℕ → ℕ) (t : ℕ) (i : Instruction) (is : List Instruction) (e : Exit) →
    removes once names i is e ≡ false → carries once names t i is e ≡ false
kept-carries once names t (Copy d (Temp u)) is e h = and_right (nat_eq d t) (goes once d (names u) is e) h
kept-carries once names t _ is e h = refl

pub kept-after : (once : ℕ → Bool) (names : ℕ → ℕ) (i : Instruction) (is : List Instruction) (e : Exit) →
    removes once names i is e ≡ false → after once names i is e ≡ names
kept-after once names (Copy d (Temp u)) is e h = not-then (goes once d (names u) is e) h
  where
    not-then : (b : Bool) → b ≡ false → (if b then put names d (names u) else names) ≡ names
    not-then true g = absurd (true≢false g)
    not-then false g = refl
kept-after once names _ is e h = refl

pub gone-after : (once : ℕ → Bool) (names : ℕ → ℕ) (d u : ℕ) (is : List Instruction) (e : Exit) →
    goes once d (names u) is e ≡ true → after once names (Copy d (Temp u)) is e ≡ put names d (names u)
gone-after once names d u is e h = taken (goes once d (names u) is e) h
  where
    taken : (b : Bool) → b ≡ true → (if b then put names d (names u) else names) ≡ put names d (names u)
    taken true g = refl
    taken false g = absurd (false-true g)

pub kept-shortened : (once : ℕ → Bool) (names : ℕ → ℕ) (i : Instruction) (is : List Instruction) (e : Exit) →
    removes once names i is e ≡ false →
    shortened once names (i ∷ is) e ≡ with_first (named_in names i) (shortened once (after once names i is e) is e)
kept-shortened once names (Copy d (Temp u)) is e h = stays (goes once d (names u) is e) h
  where
    stays : (b : Bool) → b ≡ false →
        (if b then shortened once (put names d (names u)) is e else with_first (Copy d (Temp (names u))) (shortened once names is e)) ≡
        with_first (Copy d (Temp (names u))) (shortened once (if b then put names d (names u) else names) is e)
    stays true g = absurd (true≢false g)
    stays false g = refl
kept-shortened once names _ is e h = refl

pub gone-shortened : (once : ℕ → Bool) (names : ℕ → ℕ) (d u : ℕ) (is : List Instruction) (e : Exit) →
    goes once d (names u) is e ≡ true →
    shortened once names (Copy d (Temp u) ∷ is) e ≡ shortened once (after once names (Copy d (Temp u)) is e) is e
gone-shortened once names d u is e h = falls (goes once d (names u) is e) h
  where
    falls : (b : Bool) → b ≡ true →
        (if b then shortened once (put names d (names u)) is e else with_first (Copy d (Temp (names u))) (shortened once names is e)) ≡
        shortened once (if b then put names d (names u) else names) is e
    falls true g = refl
    falls false g = absurd (false-true g)

-- ---- writes

pub put-same : {A : Type 0} (f : ℕ → A) (d : ℕ) (x : A) → put f d x d ≡ x
put-same f d x = subst (λ b. (if b then x else f d) ≡ x) (sym (eq-eqb d d refl)) refl

pub put-other : {A : Type 0} (f : ℕ → A) (d t : ℕ) (x : A) → nat_eq d t ≡ false → put f d x t ≡ f t
put-other f d t x h = by_value (nat_eq t d)
    (λ e. clash (nat_eq d t) (eq-eqb d t (sym (eqb-true t d e))) h)
    (λ e. subst (λ b. (if b then x else f t) ≡ f t) (sym e) refl)

abbrev pub put_if : Option ℕ → ℕ → Temps → Temps
put_if None x f = f
put_if (Some d) x f = put f d x

pub put_if-same : (w : Option ℕ) (x : ℕ) (f : Temps) (t : ℕ) → is_written w t ≡ true → put_if w x f t ≡ x
put_if-same None x f t h = absurd (false-true h)
put_if-same (Some d) x f t h = subst (λ u. put f d x u ≡ x) (eqb-true d t h) (put-same f d x)

pub put_if-other : (w : Option ℕ) (x : ℕ) (f : Temps) (t : ℕ) → is_written w t ≡ false → put_if w x f t ≡ f t
put_if-other None x f t h = refl
put_if-other (Some d) x f t h = put-other f d t x h

-- ---- what is known of a temporary

-- it is read by another name before it or what it was copied from is written
pub record Pending (names : ℕ → ℕ) (is : List Instruction) (e : Exit) (old new : Temps) (t : ℕ) : Type 0 where
  pub same : old t ≡ new (names t)
  pub count : ℕ
  pub first : reads_first count t (names t) is e ≡ true

-- its copy goes
pub record Moves (code : Tac) (names : ℕ → ℕ) (is : List Instruction) (e : Exit) (old new : Temps) (t : ℕ) : Type 0 where
  pub hidden : Hidden code t
  pub once : is_once code t ≡ true
  pub now : Pending names is e old new t ⊎ (exposed (is_once code) names t is e ≡ false)

abbrev pub Safe : (code : Tac) → (names : ℕ → ℕ) → List Instruction → Exit → (old new : Temps) → ℕ → Type 0
Safe code names is e old new t = ((names t ≡ t) × (old t ≡ new t)) ⊎ Moves code names is e old new t

-- what is read is the same
pub read-same : (code : Tac) (names : ℕ → ℕ) (i : Instruction) (is : List Instruction) (e : Exit) (old new : Temps) (t : ℕ) →
    Safe code names (i ∷ is) e old new t → has (instruction_reads i) t ≡ true → old t ≡ new (names t)
read-same code names i is e old new t safe h = ⊎_elim
    (λ k. k.1 ∙ ap new (sym k.0))
    (λ m. ⊎_elim (λ w. w.same)
    (λ x. clash (has (instruction_reads i) t) h
    (or-false_left (has (instruction_reads i) t)
    (not (carries (is_once code) names t i is e) && exposed (is_once code) (after (is_once code) names i is e) t is e) x)) m.now)
    safe

pub exit-same : (code : Tac) (names : ℕ → ℕ) (e : Exit) (old new : Temps) (t : ℕ) →
    Safe code names [] e old new t → has (exit_reads e) t ≡ true → old t ≡ new (names t)
exit-same code names e old new t safe h = ⊎_elim
    (λ k. k.1 ∙ ap new (sym k.0))
    (λ m. ⊎_elim (λ w. w.same) (λ x. clash (has (exit_reads e) t) h x) m.now)
    safe

-- ---- behind an instruction

module _ (code : Tac) (names : ℕ → ℕ) (i : Instruction) (is : List Instruction) (e : Exit) (old new old' new' : Temps) (t : ℕ) where
  -- what the instruction leaves of each temporary but that of a copy that goes
  pub record Leaves : Type 0 where
    pub name : after (is_once code) names i is e t ≡ names t
    pub stays : carries (is_once code) names t i is e ≡ false
    pub few : is_once code t ≡ true → times_from t (i ∷ is) e ≤ 1
    pub old_same : is_written (instruction_write i) t ≡ false → old' t ≡ old t
    pub new_same : (u : ℕ) → is_written (instruction_write i) u ≡ false → new' u ≡ new u
    pub written : is_written (instruction_write i) t ≡ true → old' t ≡ new' t

  abbrev next : ℕ → ℕ
  next = after (is_once code) names i is e

  waits : Leaves → (s count : ℕ) → names t ≡ s → old t ≡ new s → reads_first (suc count) t s (i ∷ is) e ≡ true →
      has (instruction_reads i) t ≡ false → Pending next is e old' new' t
  waits l s count named same first unread = record {
    same = l.old_same free ∙ same ∙ sym (l.new_same s kept) ∙ ap new' (sym (l.name ∙ named));
    count = count;
    first = subst (λ z. reads_first count t z is e ≡ true) (sym (l.name ∙ named))
        (and-right (not (is_written (instruction_write i) t || is_written (instruction_write i) s)) (reads_first count t s is e) later);
  }
    where
      later : (not (is_written (instruction_write i) t || is_written (instruction_write i) s) && reads_first count t s is e) ≡ true
      later = or-rest (has (instruction_reads i) t)
          (not (is_written (instruction_write i) t || is_written (instruction_write i) s) && reads_first count t s is e) unread first

      none : (is_written (instruction_write i) t || is_written (instruction_write i) s) ≡ false
      none = not-is (is_written (instruction_write i) t || is_written (instruction_write i) s)
          (and-left (not (is_written (instruction_write i) t || is_written (instruction_write i) s)) (reads_first count t s is e) later)

      free : is_written (instruction_write i) t ≡ false
      free = or-false_left (is_written (instruction_write i) t) (is_written (instruction_write i) s) none

      kept : is_written (instruction_write i) s ≡ false
      kept = or-false_right (is_written (instruction_write i) t) (is_written (instruction_write i) s) none

  read_now : Leaves → is_once code t ≡ true → has (instruction_reads i) t ≡ true → exposed (is_once code) next t is e ≡ false
  read_now l once h = by_value (exposed (is_once code) next t is e)
      (λ g. too-many (times_from t (i ∷ is) e) (l.few once)
      (two (times t (instruction_reads i)) (times_from t is e) (has-times t (instruction_reads i) h)
      (exposed-times (is_once code) next t is e g)))
      (λ g. g)
    where
      two : (n m : ℕ) → 1 ≤ n → 1 ≤ m → 2 ≤ n + m
      two n m a b = omega (arith, a, b)

  pends : Leaves → is_once code t ≡ true → (count : ℕ) → old t ≡ new (names t) → reads_first count t (names t) (i ∷ is) e ≡ true →
      Pending next is e old' new' t ⊎ (exposed (is_once code) next t is e ≡ false)
  pends l once zero same first = absurd (false-true first)
  pends l once (suc count) same first = by_value (has (instruction_reads i) t)
      (λ h. inr (read_now l once h))
      (λ h. inl (waits l (names t) count refl same first h))

  hides : Leaves → exposed (is_once code) names t (i ∷ is) e ≡ false → exposed (is_once code) next t is e ≡ false
  hides l x = rest (carries (is_once code) names t i is e) (exposed (is_once code) next t is e) l.stays
      (or-false_right (has (instruction_reads i) t)
      (not (carries (is_once code) names t i is e) && exposed (is_once code) next t is e) x)
    where
      rest : (a b : Bool) → a ≡ false → (not a && b) ≡ false → b ≡ false
      rest true b h g = absurd (true≢false h)
      rest false b h g = g

  pub next-safe : Leaves → Safe code names (i ∷ is) e old new t → Safe code next is e old' new' t
  next-safe l safe = ⊎_elim
      (λ k. inl (
        l.name ∙ k.0,
        by_value (is_written (instruction_write i) t)
            (λ h. l.written h)
            (λ h. l.old_same h ∙ k.1 ∙ sym (l.new_same t h)),
      ))
      (λ m. inr (record {
        hidden = m.hidden;
        once = m.once;
        now = ⊎_elim (λ w. pends l m.once w.count w.same w.first) (λ x. inr (hides l x)) m.now;
      }))
      safe

-- ---- what several temporaries hold

abbrev pub Agrees : (names : ℕ → ℕ) → (old new : Temps) → List ℕ → Type 0
Agrees names old new [] = Unit {0}
Agrees names old new (t ∷ ts) = (old t ≡ new (names t)) × Agrees names old new ts

pub agrees-all : (names : ℕ → ℕ) (old new : Temps) (ts : List ℕ) → ((t : ℕ) → has ts t ≡ true → old t ≡ new (names t)) →
    Agrees names old new ts
agrees-all names old new [] h = tt
agrees-all names old new (u ∷ us) h =
    (h u (or_left (nat_eq u u) (has us u) (eq-eqb u u refl)), agrees-all names old new us (λ t g. h t (or_right (nat_eq u t) (has us t) g)))

pub agrees-left : (names : ℕ → ℕ) (old new : Temps) (ts us : List ℕ) → Agrees names old new (ts ++ us) → Agrees names old new ts
agrees-left names old new [] us h = tt
agrees-left names old new (t ∷ ts) us h = (h.0, agrees-left names old new ts us h.1)

pub agrees-right : (names : ℕ → ℕ) (old new : Temps) (ts us : List ℕ) → Agrees names old new (ts ++ us) → Agrees names old new us
agrees-right names old new [] us h = h
agrees-right names old new (t ∷ ts) us h = agrees-right names old new ts us h.1
