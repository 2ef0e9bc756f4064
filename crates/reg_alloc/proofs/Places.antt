-- Homes at the places of a block, from the last to the first.
use Rattle.std.proofs.Common.{◌≡◌, ℕ, zero, suc, ◌+◌, ◌<◌, ◌≤◌, ◌↔◌, Bool, true, false, not, ◌&&◌, ◌||◌, List, ◌∷◌, length, get_or}
use Rattle.std.proofs.Common.{drop, Option, Some, Result, Ok, Err, IfOk, refl, sym, ap, ◌∙◌, subst, ⊎_elim, arith}
use Rattle.std.specs.Prelude.{slice_get}
use Rattle.std.proofs.lemmas.List.{drop_more}
use Rattle.std.proofs.lemmas.Option.{slice_get-get_or}
use Rattle.std.proofs.lemmas.Bool.{cases_eq, false≢true}
use Rattle.reg_alloc.specs.declared.assignment.Home.{Home}
use Rattle.tac_form.specs.declared.graph.Step.{Step}
use Rattle.tac_form.specs.declared.graph.FlowBlock.{FlowBlock}
use Rattle.tac_form.specs.Live.{has, is_written, before_step, before_exit, step_writes}
use Rattle.tac_live.specs.Rows.{in_rows}
use Rattle.tac_live.specs.Sets.{at, with_written, set_before, before_steps, before_from, IsSet}
use Rattle.reg_alloc.specs.Homes.{AreRightBelow, IsRightSet, used_from, IsBlockRight, AreBlocksRight}
use Rattle.tac_live.proofs.Marking.{with_written-long, with_written-at, set_before-long, set_before-at}

pub right-along : (homes : List (Option Home)) (n : ℕ) (p q : ℕ → Bool) → ((t : ℕ) → t < n → p t ≡ q t) → AreRightBelow homes n p → AreRightBelow homes n q
right-along homes n p q e r = record {
  homes_are = λ t l a. r.homes_are t l (e t l ∙ a);
  apart = λ t u l k a b. r.apart t u l k (e t l ∙ a) (e u k ∙ b);
}

pub right-set : (homes : List (Option Home)) (xs : List Bool) (n : ℕ) (p : ℕ → Bool) → n ≡ length homes → IsSet xs n p → IsRightSet homes xs → AreRightBelow homes (length homes) p
right-set homes xs n p e s r = right-along homes (length homes) (λ t. at xs t) p (λ t l. s.holds t (omega (arith, e))) r

pub set-right : (homes : List (Option Home)) (xs : List Bool) (n : ℕ) (p : ℕ → Bool) → n ≡ length homes → IsSet xs n p → AreRightBelow homes (length homes) p → IsRightSet homes xs
set-right homes xs n p e s r = right-along homes (length homes) p (λ t. at xs t) (λ t l. sym (s.holds t (omega (arith, e)))) r

-- what a step has written goes in, for the place behind it
pub written-set : (rows : List (List ℕ)) (block : FlowBlock) (i n : ℕ) (s : Step) (xs ys : List Bool) → i < length block.steps → get_or block.steps i s ≡ s →
    ys ≡ with_written s.write xs → IsSet xs n (λ t. before_from block (i + 1) (λ c. in_rows rows c t) t) →
    IsSet ys n (λ t. used_from rows block (suc i) t)
written-set rows block i n s xs ys h e w old = record {
  long = ap length w ∙ with_written-long s.write xs ∙ old.long;
  holds = λ t k.
      let l : t < length xs = omega (arith, old.long) in
      let g : slice_get block.steps i ≡ Some s = slice_get-get_or block.steps i s h ∙ ap Some e in
      let j : i + 1 ≡ suc i = omega arith in
      ap (λ v. at v t) w ∙ with_written-at s.write xs t l
      ∙ ap (λ b. is_written s.write t || b) (old.holds t k ∙ ap (λ m. before_from block m (λ c. in_rows rows c t) t) j)
      ∙ ap (λ o. step_writes o t || before_from block (suc i) (λ c. in_rows rows c t) t) (sym g);
}

-- and is taken out again before it
pub unwritten-set : (rows : List (List ℕ)) (block : FlowBlock) (i n : ℕ) (s : Step) (xs ys zs : List Bool) → i < length block.steps → get_or block.steps i s ≡ s →
    ys ≡ with_written s.write xs → zs ≡ set_before s ys → IsSet xs n (λ t. before_from block (i + 1) (λ c. in_rows rows c t) t) →
    IsSet zs n (λ t. before_from block i (λ c. in_rows rows c t) t)
unwritten-set rows block i n s xs ys zs h e w z old = record {
  long = ap length z ∙ set_before-long s ys ∙ (ap length w ∙ with_written-long s.write xs ∙ old.long);
  holds = λ t k.
      let l : t < length xs = omega (arith, old.long) in
      let m : t < length ys = omega (arith, ap length w, with_written-long s.write xs) in
      let d : drop i block.steps ≡ s ∷ drop (i + 1) block.steps = drop_more block.steps i s h ∙ ap (λ u. u ∷ drop (i + 1) block.steps) e in
      ap (λ v. at v t) z ∙ set_before-at s ys t m
      ∙ ap (λ b. before_step s b t) (ap (λ v. at v t) w ∙ with_written-at s.write xs t l)
      ∙ ap (λ b. has s.reads t || b) (once (is_written s.write t) (at xs t))
      ∙ ap (λ b. before_step s b t) (old.holds t k)
      ∙ ap (λ ss. before_steps ss (before_exit block (λ c. in_rows rows c t) t) t) (sym d);
}
  where
    once : (a b : Bool) → (not a && (a || b)) ≡ (not a && b)
    once true b = refl
    once false b = refl

-- the places behind one more step are right
pub places-more : (homes : List (Option Home)) (rows : List (List ℕ)) (block : FlowBlock) (m i : ℕ) → m ≡ i + 1 →
    AreRightBelow homes (length homes) (λ t. used_from rows block (suc i) t) →
    ((k : ℕ) → m < k → k ≤ length block.steps → AreRightBelow homes (length homes) (λ t. used_from rows block k t)) →
    (k : ℕ) → i < k → k ≤ length block.steps → AreRightBelow homes (length homes) (λ t. used_from rows block k t)
places-more homes rows block m i e here behind k l h =
    ⊎_elim
    (λ s. subst (λ n. AreRightBelow homes (length homes) (λ t. used_from rows block n t)) (sym s) here)
    (λ o. behind k (omega (arith, o)) h)
    (cases_eq k (suc i))

pub places-all : (homes : List (Option Home)) (rows : List (List ℕ)) (block : FlowBlock) →
    AreRightBelow homes (length homes) (λ t. before_from block 0 (λ c. in_rows rows c t) t) →
    ((k : ℕ) → 0 < k → k ≤ length block.steps → AreRightBelow homes (length homes) (λ t. used_from rows block k t)) → IsBlockRight homes rows block
places-all homes rows block first behind zero h = first
places-all homes rows block first behind (suc i) h = behind (suc i) (omega arith) h

pub blocks-more : (homes : List (Option Home)) (rows : List (List ℕ)) (graph : List FlowBlock) (i : ℕ) (block : FlowBlock) → i < length graph → get_or graph i block ≡ block →
    IsBlockRight homes rows block → AreBlocksRight homes rows graph i → AreBlocksRight homes rows graph (i + 1)
blocks-more homes rows graph i block h e here before c other l g =
    ⊎_elim
    (λ s.
    let p : Some other ≡ Some block = sym g ∙ (ap (λ n. slice_get graph n) s ∙ (slice_get-get_or graph i block h ∙ ap Some e)) in
    let q : other ≡ block = cc in
    subst (λ b. IsBlockRight homes rows b) (sym q) here)
    (λ o. before c other (omega (arith, o)) g)
    (cases_eq c i)

pub blocks-fail : (homes : List (Option Home)) (rows : List (List ℕ)) (graph : List FlowBlock) (i : ℕ) (block : FlowBlock) → i < length graph → get_or graph i block ≡ block →
    (IsBlockRight homes rows block → ⊥) → AreBlocksRight homes rows graph (length graph) → ⊥
blocks-fail homes rows graph i block h e never all =
    never (all i block h (slice_get-get_or graph i block h ∙ ap Some e))

-- what a call on a set behind a step says of the place there
pub place-holds : (homes : List (Option Home)) (rows : List (List ℕ)) (block : FlowBlock) (i m : ℕ) (s : Step) (xs ys zs : List Bool) (right : Bool) →
    m ≡ i + 1 → i < length block.steps → get_or block.steps i s ≡ s → ys ≡ with_written s.write xs → zs ≡ ys →
    IsSet xs (length homes) (λ t. before_from block m (λ c. in_rows rows c t) t) → ((right ≡ true) ↔ IsRightSet homes zs) → right ≡ true →
    AreRightBelow homes (length homes) (λ t. used_from rows block (suc i) t)
place-holds homes rows block i m s xs ys zs right e h g w z set answer holds =
    right-set homes ys (length homes) (λ t. used_from rows block (suc i) t) refl
    (written-set rows block i (length homes) s xs ys h g w (subst (λ n. IsSet xs (length homes) (λ t. before_from block n (λ c. in_rows rows c t) t)) e set))
    (subst (λ v. IsRightSet homes v) z (answer.0 holds))

pub place-fails : (homes : List (Option Home)) (rows : List (List ℕ)) (block : FlowBlock) (i m : ℕ) (s : Step) (xs ys zs : List Bool) (right : Bool) →
    m ≡ i + 1 → i < length block.steps → get_or block.steps i s ≡ s → ys ≡ with_written s.write xs → zs ≡ ys →
    IsSet xs (length homes) (λ t. before_from block m (λ c. in_rows rows c t) t) → ((right ≡ true) ↔ IsRightSet homes zs) → right ≡ false →
    IsBlockRight homes rows block → ⊥
place-fails homes rows block i m s xs ys zs right e h g w z set answer wrong all =
    let here = all (suc i) (omega arith) in
    let seen : IsRightSet homes zs = subst (λ v. IsRightSet homes v) (sym z)
    (set-right homes ys (length homes) (λ t. used_from rows block (suc i) t) refl
    (written-set rows block i (length homes) s xs ys h g w (subst (λ n. IsSet xs (length homes) (λ t. before_from block n (λ c. in_rows rows c t) t)) e set)) here) in
    false≢true (sym wrong ∙ answer.1 seen)

-- the first place of a block is the last that is looked at
pub block-ends : (homes : List (Option Home)) (rows : List (List ℕ)) (block : FlowBlock) (at : ℕ) (xs ys : List Bool) → at ≡ 0 → ys ≡ xs →
    IsSet xs (length homes) (λ t. before_from block at (λ c. in_rows rows c t) t) →
    ((k : ℕ) → at < k → k ≤ length block.steps → AreRightBelow homes (length homes) (λ t. used_from rows block k t)) →
    (right : Bool) → ((right ≡ true) ↔ IsRightSet homes ys) → ((right ≡ true) ↔ IsBlockRight homes rows block)
block-ends homes rows block at xs ys z e set behind right answer =
    let set' : IsSet ys (length homes) (λ t. before_from block 0 (λ c. in_rows rows c t) t) =
    subst (λ v. IsSet v (length homes) (λ t. before_from block 0 (λ c. in_rows rows c t) t)) (sym e)
    (subst (λ n. IsSet xs (length homes) (λ t. before_from block n (λ c. in_rows rows c t) t)) z set) in (
      λ y. places-all homes rows block (right-set homes ys (length homes) (λ t. before_from block 0 (λ c. in_rows rows c t) t) refl set' (answer.0 y))
          (λ k l h. behind k (omega (arith, z)) h),
      λ r. answer.1 (set-right homes ys (length homes) (λ t. before_from block 0 (λ c. in_rows rows c t) t) refl set' (r 0 (omega arith))),
    )

pub ok-along : {A E : Type 0} (P Q : A → Type 0) (r : Result A E) → ((a : A) → P a → Q a) → IfOk r P → IfOk r Q
ok-along P Q (Ok a) f h = f a h
ok-along P Q (Err e) f h = tt
