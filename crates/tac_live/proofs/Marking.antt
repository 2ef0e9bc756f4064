-- What is in a set after temporaries went in or out.
use Rattle.std.proofs.Common.{◌≡◌, ℕ, ◌+◌, ◌<◌, Bool, true, false, not, ◌&&◌, ◌||◌, eqb, List, [], ◌∷◌, length, get_or}
use Rattle.std.proofs.Common.{set, drop, Option, Some, None, refl, sym, ap, ◌∙◌, ⊎_elim, arith}
use Rattle.std.proofs.lemmas.List.{length-set, get_or-set_same, get_or-set_other, drop_more}
use Rattle.std.proofs.lemmas.Bool.{or_right}
use Rattle.std.proofs.lemmas.Bool.Decides.{eqb_tells}
use Rattle.tac_form.specs.declared.graph.Step.{Step}
use Rattle.tac_form.specs.Live.{has, is_written, before_step}
use Rattle.tac_live.specs.Sets.{at, marked, unmarked, with_written, set_before, IsSet, before_steps}

pub at-mark : (xs : List Bool) (u t : ℕ) → t < length xs → at (set xs u true) t ≡ (eqb u t || at xs t)
at-mark xs u t h =
    ⊎_elim
    (λ y. rw (y.0, y.1) (get_or-set_same xs t true false h))
    (λ n. rw (n.0) (get_or-set_other xs u t true false (λ e. n.1 (sym e))))
    (eqb_tells u t)

pub at-unmark : (xs : List Bool) (u t : ℕ) → t < length xs → at (set xs u false) t ≡ (not (eqb u t) && at xs t)
at-unmark xs u t h =
    ⊎_elim
    (λ y. rw (y.0, y.1) (get_or-set_same xs t false false h))
    (λ n. rw (n.0) (get_or-set_other xs u t false false (λ e. n.1 (sym e))))
    (eqb_tells u t)

pub marked-long : (ts : List ℕ) (xs : List Bool) → length (marked ts xs) ≡ length xs
marked-long [] xs = refl
marked-long (u ∷ us) xs = marked-long us (set xs u true) ∙ length-set xs u true

or-turn : (a b c : Bool) → (b || (a || c)) ≡ ((a || b) || c)
or-turn true b c = or_right b true refl
or-turn false b c = refl

pub marked-at : (ts : List ℕ) (xs : List Bool) (t : ℕ) → t < length xs → at (marked ts xs) t ≡ (has ts t || at xs t)
marked-at [] xs t h = refl
marked-at (u ∷ us) xs t h =
    let l : t < length (set xs u true) = omega (arith, length-set xs u true) in
    marked-at us (set xs u true) t l ∙ ap (λ b. has us t || b) (at-mark xs u t h) ∙ or-turn (eqb u t) (has us t) (at xs t)

pub unmarked-long : (w : Option ℕ) (xs : List Bool) → length (unmarked w xs) ≡ length xs
unmarked-long None xs = refl
unmarked-long (Some d) xs = length-set xs d false

pub unmarked-at : (w : Option ℕ) (xs : List Bool) (t : ℕ) → t < length xs → at (unmarked w xs) t ≡ (not (is_written w t) && at xs t)
unmarked-at None xs t h = refl
unmarked-at (Some d) xs t h = at-unmark xs d t h

pub with_written-long : (w : Option ℕ) (xs : List Bool) → length (with_written w xs) ≡ length xs
with_written-long None xs = refl
with_written-long (Some d) xs = length-set xs d true

pub with_written-at : (w : Option ℕ) (xs : List Bool) (t : ℕ) → t < length xs → at (with_written w xs) t ≡ (is_written w t || at xs t)
with_written-at None xs t h = refl
with_written-at (Some d) xs t h = at-mark xs d t h

pub set_before-long : (s : Step) (xs : List Bool) → length (set_before s xs) ≡ length xs
set_before-long s xs = marked-long s.reads (unmarked s.write xs) ∙ unmarked-long s.write xs

pub set_before-at : (s : Step) (xs : List Bool) (t : ℕ) → t < length xs → at (set_before s xs) t ≡ before_step s (at xs t) t
set_before-at s xs t h =
    let l : t < length (unmarked s.write xs) = omega (arith, unmarked-long s.write xs) in
    marked-at s.reads (unmarked s.write xs) t l ∙ ap (λ b. has s.reads t || b) (unmarked-at s.write xs t h)

-- the turns of the loop that puts temporaries in
pub marked-turn : (ts : List ℕ) (i t : ℕ) (xs ys zs : List Bool) → i < length ts → get_or ts i 0 ≡ t → ys ≡ set xs t true →
    marked (drop i ts) xs ≡ zs → marked (drop (i + 1) ts) ys ≡ zs
marked-turn ts i t xs ys zs h e w f =
    let d : drop i ts ≡ t ∷ drop (i + 1) ts = drop_more ts i 0 h ∙ ap (λ u. u ∷ drop (i + 1) ts) e in
    ap (λ v. marked (drop (i + 1) ts) v) w ∙ (ap (λ us. marked us xs) (sym d) ∙ f)

-- a step back in a block
pub stepped-back : (steps : List Step) (i : ℕ) (s : Step) (xs ys : List Bool) (count : ℕ) (after : ℕ → Bool) →
    i < length steps → get_or steps i s ≡ s → ys ≡ set_before s xs →
    IsSet xs count (λ t. before_steps (drop (i + 1) steps) (after t) t) →
    IsSet ys count (λ t. before_steps (drop i steps) (after t) t)
stepped-back steps i s xs ys count after h e w old = record {
  long = ap length w ∙ set_before-long s xs ∙ old.long;
  holds = λ t k.
      let l : t < length xs = omega (arith, old.long) in
      let d : drop i steps ≡ s ∷ drop (i + 1) steps = drop_more steps i s h ∙ ap (λ u. u ∷ drop (i + 1) steps) e in
      ap (λ v. at v t) w ∙ set_before-at s xs t l ∙ ap (λ b. before_step s b t) (old.holds t k)
      ∙ ap (λ ss. before_steps ss (after t) t) (sym d);
}
