-- Ways to reads, and sets that are closed under what is live.
use Rattle.std.proofs.Common.{◌≡◌, ℕ, zero, suc, Bool, true, not, ◌&&◌, eqb, List, [], ◌∷◌, drop}
use Rattle.std.proofs.Common.{Option, Some, None, refl, sym, ap, ◌∙◌, subst, ⊎_elim}
use Rattle.std.specs.Prelude.{slice_get}
use Rattle.std.specs.List.{list_any}
use Rattle.std.proofs.lemmas.Bool.{or_cases, or_left, or_right, and_parts, and_from, false≢true, eqb-true, eq-eqb}
use Rattle.tac_form.specs.declared.graph.Step.{Step}
use Rattle.tac_form.specs.declared.graph.FlowBlock.{FlowBlock}
use Rattle.tac_form.specs.Live.{has, is_written, before_exit, at_step, at_place, read_within, IsLive}
use Rattle.tac_live.specs.Sets.{before_steps, before_from}

-- the place of a block's step, and its exit
pub get-drop : {X : Type 0} (xs : List X) (i : ℕ) (x : X) → slice_get xs i ≡ Some x → drop i xs ≡ x ∷ drop (suc i) xs
get-drop [] i x e = cc
get-drop (y ∷ ys) zero x e = cc
get-drop (y ∷ ys) (suc i) x e = get-drop ys i x e

pub none-drop : {X : Type 0} (xs : List X) (i : ℕ) → slice_get xs i ≡ None → drop i xs ≡ []
none-drop [] zero e = refl
none-drop [] (suc i) e = refl
none-drop (y ∷ ys) zero e = cc
none-drop (y ∷ ys) (suc i) e = none-drop ys i e

-- what a block that follows has
pub any-pick : (p : ℕ → Bool) (ns : List ℕ) → list_any p ns ≡ true → (n : ℕ) × (has ns n ≡ true) × (p n ≡ true)
any-pick p [] e = absurd (false≢true e)
any-pick p (n ∷ ns) e =
    ⊎_elim
    (λ h. (n, or_left (eqb n n) (has ns n) (eq-eqb n n refl), h))
    (λ t. let r = any-pick p ns t in (r.0, or_right (eqb n r.0) (has ns r.0) r.1, r.2))
    (or_cases (p n) (list_any p ns) e)

pub any-from : (p : ℕ → Bool) (ns : List ℕ) (n : ℕ) → has ns n ≡ true → p n ≡ true → list_any p ns ≡ true
any-from p [] n h e = absurd (false≢true h)
any-from p (m ∷ ms) n h e =
    ⊎_elim
    (λ s. or_left (p m) (list_any p ms) (ap p (eqb-true m n s) ∙ e))
    (λ t. or_right (p m) (list_any p ms) (any-from p ms n t e))
    (or_cases (eqb m n) (has ms n) h)

any-map : (p q : ℕ → Bool) (ns : List ℕ) → ((n : ℕ) → p n ≡ true → q n ≡ true) → list_any p ns ≡ true → list_any q ns ≡ true
any-map p q ns f e = let r = any-pick p ns e in any-from q ns r.0 r.1 (f r.0 r.2)

-- a way one step longer
pub live-here : (graph : List FlowBlock) (b at t k : ℕ) (block : FlowBlock) → slice_get graph b ≡ Some block →
    at_step block (slice_get block.steps at) (λ c. read_within graph k c 0 t) (read_within graph k b (suc at) t) t ≡ true →
    IsLive graph b at t
live-here graph b at t k block e h =
    (suc k, ap (λ o. at_place o at (λ c. read_within graph k c 0 t) (read_within graph k b (suc at) t) t) e ∙ h)

-- Sound: if what a table has is live, so is what it makes live before the steps of a block
pub before-live : (graph : List FlowBlock) (b t : ℕ) (block : FlowBlock) (begins : ℕ → Bool) → slice_get graph b ≡ Some block →
    ((c : ℕ) → begins c ≡ true → IsLive graph c 0 t) → (steps : List Step) (at : ℕ) → drop at block.steps ≡ steps →
    before_steps steps (before_exit block begins t) t ≡ true → IsLive graph b at t
before-live graph b t block begins e sound [] at d h =
    let n : slice_get block.steps at ≡ None = at-end block.steps at d in
    ⊎_elim
    (λ r. live-here graph b at t 0 block e (subst (λ o. at_step block o (λ c. read_within graph 0 c 0 t) (read_within graph 0 b (suc at) t) t ≡ true) (sym n) (or_left (has block.reads t) _ r)))
    (λ a.
    let p = any-pick begins block.next a in
    let l = sound p.0 p.2 in
    live-here graph b at t l.0 block e (subst (λ o. at_step block o (λ c. read_within graph l.0 c 0 t) (read_within graph l.0 b (suc at) t) t ≡ true) (sym n)
    (or_right (has block.reads t) _ (any-from (λ c. read_within graph l.0 c 0 t) block.next p.0 p.1 l.1))))
    (or_cases (has block.reads t) (list_any begins block.next) h)
  where
    at-end : (xs : List Step) (i : ℕ) → drop i xs ≡ [] → slice_get xs i ≡ None
    at-end [] i e = refl
    at-end (x ∷ xs) zero e = cc
    at-end (x ∷ xs) (suc i) e = at-end xs i e
before-live graph b t block begins e sound (s ∷ ss) at d h =
    let g : slice_get block.steps at ≡ Some s = at-step block.steps at s ss d in
    ⊎_elim
    (λ r. live-here graph b at t 0 block e (subst (λ o. at_step block o (λ c. read_within graph 0 c 0 t) (read_within graph 0 b (suc at) t) t ≡ true) (sym g) (or_left (has s.reads t) _ r)))
    (λ a.
    let p = and_parts (not (is_written s.write t)) (before_steps ss (before_exit block begins t) t) a in
    let l = before-live graph b t block begins e sound ss (suc at) (rest block.steps at s ss d) p.1 in
    live-here graph b at t l.0 block e (subst (λ o. at_step block o (λ c. read_within graph l.0 c 0 t) (read_within graph l.0 b (suc at) t) t ≡ true) (sym g)
    (or_right (has s.reads t) _ (and_from _ _ p.0 l.1))))
    (or_cases (has s.reads t) (not (is_written s.write t) && before_steps ss (before_exit block begins t) t) h)
  where
    at-step : (xs : List Step) (i : ℕ) (x : Step) (ys : List Step) → drop i xs ≡ x ∷ ys → slice_get xs i ≡ Some x
    at-step [] zero x ys e = cc
    at-step [] (suc i) x ys e = cc
    at-step (z ∷ zs) zero x ys e = cc
    at-step (z ∷ zs) (suc i) x ys e = at-step zs i x ys e

    rest : (xs : List Step) (i : ℕ) (x : Step) (ys : List Step) → drop i xs ≡ x ∷ ys → drop (suc i) xs ≡ ys
    rest [] zero x ys e = cc
    rest [] (suc i) x ys e = cc
    rest (z ∷ zs) zero x ys e = cc
    rest (z ∷ zs) (suc i) x ys e = rest zs i x ys e

-- Complete: a table that is closed has all that is live
abbrev Reached : List FlowBlock → (ℕ → Bool) → ℕ → ℕ → Type 0
Reached graph begins t k =
    (b at : ℕ) → read_within graph k b at t ≡ true → (block : FlowBlock) → slice_get graph b ≡ Some block → before_from block at begins t ≡ true

pub nothing-there : (graph : List FlowBlock) (k b at t : ℕ) → slice_get graph b ≡ None → read_within graph k b at t ≡ true → ⊥
nothing-there graph zero b at t g r = false≢true r
nothing-there graph (suc k) b at t g r =
    false≢true (sym (ap (λ o. at_place o at (λ n. read_within graph k n 0 t) (read_within graph k b (suc at) t) t) g) ∙ r)

behind : (graph : List FlowBlock) (t : ℕ) (begins : ℕ → Bool) →
    ((c : ℕ) (block : FlowBlock) → slice_get graph c ≡ Some block → before_from block 0 begins t ≡ true → begins c ≡ true) →
    (k : ℕ) → Reached graph begins t k → (c : ℕ) (o : Option FlowBlock) → slice_get graph c ≡ o → read_within graph k c 0 t ≡ true → begins c ≡ true
behind graph t begins closed k ih c (Some block) g r = closed c block g (ih c 0 r block g)
behind graph t begins closed k ih c None g r = absurd (nothing-there graph k c 0 t g r)

reached-at : (graph : List FlowBlock) (t : ℕ) (begins : ℕ → Bool) →
    ((c : ℕ) (block : FlowBlock) → slice_get graph c ≡ Some block → before_from block 0 begins t ≡ true → begins c ≡ true) →
    (k : ℕ) → Reached graph begins t k → (b at : ℕ) (block : FlowBlock) → slice_get graph b ≡ Some block → (o : Option Step) → slice_get block.steps at ≡ o →
    at_step block o (λ c. read_within graph k c 0 t) (read_within graph k b (suc at) t) t ≡ true → before_from block at begins t ≡ true
reached-at graph t begins closed k ih b at block e None g r =
    let d = none-drop block.steps at g in
    ap (λ ss. before_steps ss (before_exit block begins t) t) d
    ∙ ⊎_elim
    (λ x. or_left (has block.reads t) (list_any begins block.next) x)
    (λ x. or_right (has block.reads t) (list_any begins block.next)
    (any-map (λ c. read_within graph k c 0 t) begins block.next (λ c q. behind graph t begins closed k ih c (slice_get graph c) refl q) x))
    (or_cases (has block.reads t) (list_any (λ c. read_within graph k c 0 t) block.next) r)
reached-at graph t begins closed k ih b at block e (Some s) g r =
    let d = get-drop block.steps at s g in
    ap (λ ss. before_steps ss (before_exit block begins t) t) d
    ∙ ⊎_elim
    (λ x. or_left (has s.reads t) (not (is_written s.write t) && before_from block (suc at) begins t) x)
    (λ x.
    let p = and_parts (not (is_written s.write t)) (read_within graph k b (suc at) t) x in
    or_right (has s.reads t) (not (is_written s.write t) && before_from block (suc at) begins t)
    (and_from (not (is_written s.write t)) (before_from block (suc at) begins t) p.0 (ih b (suc at) p.1 block e)))
    (or_cases (has s.reads t) (not (is_written s.write t) && read_within graph k b (suc at) t) r)

pub live-before : (graph : List FlowBlock) (t : ℕ) (begins : ℕ → Bool) →
    ((c : ℕ) (block : FlowBlock) → slice_get graph c ≡ Some block → before_from block 0 begins t ≡ true → begins c ≡ true) →
    (k b at : ℕ) → read_within graph k b at t ≡ true →
    (block : FlowBlock) → slice_get graph b ≡ Some block → before_from block at begins t ≡ true
live-before graph t begins closed zero b at h block e = absurd (false≢true h)
live-before graph t begins closed (suc k) b at h block e =
    reached-at graph t begins closed k (λ c i r other g. live-before graph t begins closed k c i r other g) b at block e (slice_get block.steps at) refl
    (ap (λ o. at_place o at (λ c. read_within graph k c 0 t) (read_within graph k b (suc at) t) t) (sym e) ∙ h)
