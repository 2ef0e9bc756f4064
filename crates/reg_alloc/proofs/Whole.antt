-- Right at every place of every block is right.
use Rattle.std.proofs.Common.{◌≡◌, ℕ, zero, suc, ◌<◌, ◌≤◌, ◌↔◌, Bool, true, false, not, ◌&&◌, ◌||◌, ltb, eqb, List, [], ◌∷◌}
use Rattle.std.proofs.Common.{length, drop, Option, Some, None, refl, sym, ap, ◌∙◌, subst, ⊎_elim, inl, inr, arith}
use Rattle.std.specs.Prelude.{slice_get}
use Rattle.std.specs.List.{list_any, list_all}
use Rattle.std.proofs.lemmas.List.{drop_all}
use Rattle.std.proofs.lemmas.Option.{slice_get_within, slice_get_past}
use Rattle.std.proofs.lemmas.Bool.{cases_lt, or_cases, or_left, or_right, and_parts, and_cases, eqb-true, eq-eqb}
use Rattle.std.proofs.lemmas.Bool.{ltb-true, ltb-false, true≢false, false≢true}
use Rattle.tac_form.specs.declared.tac.Tac.{Tac}
use Rattle.reg_alloc.specs.declared.assignment.Home.{Home}
use Rattle.tac_form.specs.declared.graph.Step.{Step}
use Rattle.tac_form.specs.declared.graph.FlowBlock.{FlowBlock}
use Rattle.tac_form.specs.Graph.{graph_of}
use Rattle.tac_form.specs.Live.{has, is_written, before_exit, at_step, at_place, read_within, IsLive, step_writes, written_in}
use Rattle.tac_form.specs.Live.{is_just_written, InUse}
use Rattle.reg_alloc.specs.Right.{is_some_home, IsRight}
use Rattle.tac_live.specs.Rows.{in_rows, AreLiveRows}
use Rattle.tac_live.specs.Sets.{before_steps, before_from}
use Rattle.reg_alloc.specs.Homes.{AreRightBelow, just_written, used_from, IsBlockRight, AreBlocksRight, all_below, write_below, step_below}
use Rattle.reg_alloc.specs.Homes.{steps_below, block_below, are_below}
use Rattle.tac_live.proofs.Ways.{before-live, live-before}

-- tests of all, at one
all-at : {X : Type 0} (p : X → Bool) (xs : List X) (i : ℕ) (x : X) → list_all p xs ≡ true → slice_get xs i ≡ Some x → p x ≡ true
all-at p [] i x h e = cc
all-at p (y ∷ ys) zero x h e =
    let s : y ≡ x = cc in ap p (sym s) ∙ (and_parts (p y) (list_all p ys) h).0
all-at p (y ∷ ys) (suc i) x h e = all-at p ys i x (and_parts (p y) (list_all p ys) h).1 e

one-fails : {X : Type 0} (p : X → Bool) (xs : List X) → list_all p xs ≡ false → (i : ℕ) × (x : X) × (slice_get xs i ≡ Some x) × (p x ≡ false)
one-fails p [] h = absurd (true≢false h)
one-fails p (y ∷ ys) h =
    ⊎_elim
    (λ a. (0, y, refl, a))
    (λ b. let r = one-fails p ys b in (suc r.0, r.1, r.2, r.3))
    (and_cases (p y) (list_all p ys) h)

has-below : (n : ℕ) (ts : List ℕ) (t : ℕ) → all_below n ts ≡ true → has ts t ≡ true → t < n
has-below n [] t a h = absurd (false≢true h)
has-below n (u ∷ us) t a h =
    let p = and_parts (ltb u n) (all_below n us) a in
    ⊎_elim
    (λ s. let e = eqb-true u t s in let l = ltb-true u n p.0 in omega (arith, e, l))
    (λ r. has-below n us t p.1 r)
    (or_cases (eqb u t) (has us t) h)

one-above : (n : ℕ) (ts : List ℕ) → all_below n ts ≡ false → (t : ℕ) × (has ts t ≡ true) × (n ≤ t)
one-above n [] a = absurd (true≢false a)
one-above n (u ∷ us) a =
    ⊎_elim
    (λ f. (u, or_left (eqb u u) (has us u) (eq-eqb u u refl), ltb-false u n f))
    (λ g. let r = one-above n us g in (r.0, or_right (eqb u r.0) (has us r.0) r.1, r.2))
    (and_cases (ltb u n) (all_below n us) a)

-- all that is in use is below
abbrev ReadsBelow : ℕ → List FlowBlock → ℕ → ℕ → Type 0
ReadsBelow n graph t k = (b at : ℕ) → read_within graph k b at t ≡ true → t < n

any-below : (n : ℕ) (graph : List FlowBlock) (t k : ℕ) → ReadsBelow n graph t k → (ns : List ℕ) → list_any (λ c. read_within graph k c 0 t) ns ≡ true → t < n
any-below n graph t k ih [] e = absurd (false≢true e)
any-below n graph t k ih (c ∷ cs) e =
    ⊎_elim (λ x. ih c 0 x) (λ y. any-below n graph t k ih cs y)
    (or_cases (read_within graph k c 0 t) (list_any (λ m. read_within graph k m 0 t) cs) e)

step-reads : (n : ℕ) (graph : List FlowBlock) (t k b at : ℕ) → ReadsBelow n graph t k → (block : FlowBlock) → block_below n block ≡ true →
    (o : Option Step) → slice_get block.steps at ≡ o → at_step block o (λ c. read_within graph k c 0 t) (read_within graph k b (suc at) t) t ≡ true → t < n
step-reads n graph t k b at ih block w None g r =
    ⊎_elim
    (λ x. has-below n block.reads t (and_parts (steps_below n block.steps) (all_below n block.reads) w).1 x)
    (λ y. any-below n graph t k ih block.next y)
    (or_cases (has block.reads t) (list_any (λ c. read_within graph k c 0 t) block.next) r)
step-reads n graph t k b at ih block w (Some s) g r =
    let p = all-at (step_below n) block.steps at s (and_parts (steps_below n block.steps) (all_below n block.reads) w).0 g in
    ⊎_elim
    (λ x. has-below n s.reads t (and_parts (write_below n s.write) (all_below n s.reads) p).1 x)
    (λ y. ih b (suc at) (and_parts (not (is_written s.write t)) (read_within graph k b (suc at) t) y).1)
    (or_cases (has s.reads t) (not (is_written s.write t) && read_within graph k b (suc at) t) r)

block-reads : (n : ℕ) (graph : List FlowBlock) (t k b at : ℕ) → are_below n graph ≡ true → ReadsBelow n graph t k → (o : Option FlowBlock) → slice_get graph b ≡ o →
    at_place o at (λ c. read_within graph k c 0 t) (read_within graph k b (suc at) t) t ≡ true → t < n
block-reads n graph t k b at a ih None g r = absurd (false≢true r)
block-reads n graph t k b at a ih (Some block) g r =
    step-reads n graph t k b at ih block (all-at (block_below n) graph b block a g) (slice_get block.steps at) refl r

read-below : (n : ℕ) (graph : List FlowBlock) (t : ℕ) → are_below n graph ≡ true → (k b at : ℕ) → read_within graph k b at t ≡ true → t < n
read-below n graph t a zero b at h = absurd (false≢true h)
read-below n graph t a (suc k) b at h =
    block-reads n graph t k b at a (λ c i r. read-below n graph t a k c i r) (slice_get graph b) refl h

written-below : (n : ℕ) (graph : List FlowBlock) (t : ℕ) → are_below n graph ≡ true → (b at : ℕ) → is_just_written graph b at t ≡ true → t < n
written-below n graph t a b zero h = absurd (false≢true h)
written-below n graph t a b (suc at) h = in-block (slice_get graph b) refl h
  where
    by-write : (w : Option ℕ) → write_below n w ≡ true → is_written w t ≡ true → t < n
    by-write None w e = absurd (false≢true e)
    by-write (Some d) w e = let s = eqb-true d t e in let l = ltb-true d n w in omega (arith, s, l)

    in-step : (block : FlowBlock) → block_below n block ≡ true → (o : Option Step) → slice_get block.steps at ≡ o → step_writes o t ≡ true → t < n
    in-step block w None g r = absurd (false≢true r)
    in-step block w (Some s) g r =
        let p = all-at (step_below n) block.steps at s (and_parts (steps_below n block.steps) (all_below n block.reads) w).0 g in
        by-write s.write (and_parts (write_below n s.write) (all_below n s.reads) p).0 r

    in-block : (o : Option FlowBlock) → slice_get graph b ≡ o → written_in o at t ≡ true → t < n
    in-block None g r = absurd (false≢true r)
    in-block (Some block) g r = in-step block (all-at (block_below n) graph b block a g) (slice_get block.steps at) refl r

pub used-below : (n : ℕ) (graph : List FlowBlock) (b at t : ℕ) → are_below n graph ≡ true → InUse graph b at t → t < n
used-below n graph b at t a u =
    ⊎_elim (λ l. read-below n graph t a l.0 b at l.1) (λ w. written-below n graph t a b at w) u

-- one that isn't below is in use somewhere
pub one-used : (n : ℕ) (graph : List FlowBlock) → are_below n graph ≡ false → (b : ℕ) × (at : ℕ) × (t : ℕ) × (n ≤ t) × InUse graph b at t
one-used n graph a = in-block (one-fails (block_below n) graph a)
  where
    in-step : (b : ℕ) (block : FlowBlock) → slice_get graph b ≡ Some block → (i : ℕ) (s : Step) → slice_get block.steps i ≡ Some s → (step_below n s ≡ false) →
        (c : ℕ) × (at : ℕ) × (t : ℕ) × (n ≤ t) × InUse graph c at t
    in-step b block g i s h f =
        ⊎_elim
        (λ w. by-write s.write refl w)
        (λ r.
        let o = one-above n s.reads r in (
          b,
          i,
          o.0,
          o.2,
          inl (
            1,
            ap (λ m. at_place m i (λ c. read_within graph 0 c 0 o.0) (read_within graph 0 b (suc i) o.0) o.0) g
                ∙ (ap (λ m. at_step block m (λ c. read_within graph 0 c 0 o.0) (read_within graph 0 b (suc i) o.0) o.0) h ∙ or_left (has s.reads o.0) _ o.1),
          ),
        ))
        (and_cases (write_below n s.write) (all_below n s.reads) f)
      where
        by-write : (w : Option ℕ) → s.write ≡ w → write_below n w ≡ false → (c : ℕ) × (at : ℕ) × (t : ℕ) × (n ≤ t) × InUse graph c at t
        by-write None e q = absurd (true≢false q)
        by-write (Some d) e q =
            (b, suc i, d, ltb-false d n q, inr (ap (λ m. written_in m i d) g ∙ (ap (λ m. step_writes m d) h ∙ (ap (λ m. is_written m d) e ∙ eq-eqb d d refl))))

    at-exit : (b : ℕ) (block : FlowBlock) → slice_get graph b ≡ Some block → all_below n block.reads ≡ false → (c : ℕ) × (at : ℕ) × (t : ℕ) × (n ≤ t) × InUse graph c at t
    at-exit b block g f =
        let o = one-above n block.reads f in
        let i = length block.steps in (
          b,
          i,
          o.0,
          o.2,
          inl (
            1,
            ap (λ m. at_place m i (λ c. read_within graph 0 c 0 o.0) (read_within graph 0 b (suc i) o.0) o.0) g
                ∙ (ap (λ m. at_step block m (λ c. read_within graph 0 c 0 o.0) (read_within graph 0 b (suc i) o.0) o.0) (slice_get_past block.steps i (omega arith)) ∙ or_left (has block.reads o.0) _ o.1),
          ),
        )

    in-block : (b : ℕ) × (block : FlowBlock) × (slice_get graph b ≡ Some block) × (block_below n block ≡ false) → (c : ℕ) × (at : ℕ) × (t : ℕ) × (n ≤ t) × InUse graph c at t
    in-block w =
        ⊎_elim
        (λ s. let r = one-fails (step_below n) w.1.steps s in in-step w.0 w.1 w.2 r.0 r.1 r.2 r.3)
        (λ e. at-exit w.0 w.1 w.2 e)
        (and_cases (steps_below n w.1.steps) (all_below n w.1.reads) w.3)

pub not-right : (code : Tac) (homes : List (Option Home)) → are_below (length homes) (graph_of code) ≡ false → IsRight code homes → ⊥
not-right code homes a r =
    let o = one-used (length homes) (graph_of code) a in
    false≢true (sym (ap (is_some_home (length homes)) (slice_get_past homes o.2 o.3)) ∙ r.homes_are o.0 o.1 o.2 o.4)

-- what is in use, by the rows
pub live-from : (graph : List FlowBlock) (n : ℕ) (rows : List (List ℕ)) → AreLiveRows graph n rows → (b : ℕ) (block : FlowBlock) → slice_get graph b ≡ Some block →
    (i t : ℕ) → t < n → before_from block i (λ c. in_rows rows c t) t ≡ true → IsLive graph b i t
live-from graph n rows live b block g i t l h =
    before-live graph b t block (λ c. in_rows rows c t) g (λ c k. (live.exact c t l).0 k) (drop i block.steps) i refl h

from-live : (graph : List FlowBlock) (n : ℕ) (rows : List (List ℕ)) → AreLiveRows graph n rows → (b : ℕ) (block : FlowBlock) → slice_get graph b ≡ Some block →
    (i t : ℕ) → t < n → IsLive graph b i t → before_from block i (λ c. in_rows rows c t) t ≡ true
from-live graph n rows live b block g i t l h =
    live-before graph t (λ c. in_rows rows c t)
    (λ c other e k. (live.exact c t l).1 (live-from graph n rows live c other e 0 t l k)) h.0 b i h.1 block g

written-is : (graph : List FlowBlock) (b : ℕ) (block : FlowBlock) → slice_get graph b ≡ Some block → (i t : ℕ) → is_just_written graph b i t ≡ just_written block.steps i t
written-is graph b block g zero t = refl
written-is graph b block g (suc i) t = ap (λ o. written_in o i t) g

used-from : (graph : List FlowBlock) (n : ℕ) (rows : List (List ℕ)) → AreLiveRows graph n rows → (b : ℕ) (block : FlowBlock) → slice_get graph b ≡ Some block →
    (i t : ℕ) → t < n → used_from rows block i t ≡ true → InUse graph b i t
used-from graph n rows live b block g i t l h =
    ⊎_elim
    (λ w. inr (written-is graph b block g i t ∙ w))
    (λ f. inl (live-from graph n rows live b block g i t l f))
    (or_cases (just_written block.steps i t) (before_from block i (λ c. in_rows rows c t) t) h)

pub from-used : (graph : List FlowBlock) (n : ℕ) (rows : List (List ℕ)) → AreLiveRows graph n rows → (b : ℕ) (block : FlowBlock) → slice_get graph b ≡ Some block →
    (i t : ℕ) → t < n → InUse graph b i t → used_from rows block i t ≡ true
from-used graph n rows live b block g i t l u =
    ⊎_elim
    (λ f. or_right (just_written block.steps i t) _ (from-live graph n rows live b block g i t l f))
    (λ w. or_left (just_written block.steps i t) _ (sym (written-is graph b block g i t) ∙ w))
    u

-- behind a block's exit nothing is in use but what is so before it
right-anywhere : (homes : List (Option Home)) (rows : List (List ℕ)) (block : FlowBlock) → IsBlockRight homes rows block →
    (i : ℕ) → AreRightBelow homes (length homes) (λ t. used_from rows block i t)
right-anywhere homes rows block r i =
    ⊎_elim
    (λ past. let last = r (length block.steps) (omega arith) in record {
      homes_are = λ t l h. last.homes_are t l (moved i t past h);
      apart = λ t u l k h j. last.apart t u l k (moved i t past h) (moved i u past j);
    })
    (λ within. r i within)
    (cases_lt (length block.steps) i)
  where
    moved : (i t : ℕ) → length block.steps < i → used_from rows block i t ≡ true → used_from rows block (length block.steps) t ≡ true
    moved zero t p h = absurd (omega arith)
    moved (suc i) t p h =
        let e : slice_get block.steps i ≡ None = slice_get_past block.steps i (omega arith) in
        let d : drop (suc i) block.steps ≡ drop (length block.steps) block.steps =
        drop_all (suc i) block.steps (omega arith) ∙ sym (drop_all (length block.steps) block.steps (omega arith)) in
        let h' : before_from block (suc i) (λ c. in_rows rows c t) t ≡ true = sym (ap (λ o. step_writes o t || before_from block (suc i) (λ c. in_rows rows c t) t) e) ∙ h in
        or_right (just_written block.steps (length block.steps) t) _
        (sym (ap (λ ss. before_steps ss (before_exit block (λ c. in_rows rows c t) t) t) d) ∙ h')

pub blocks-right : (code : Tac) (homes : List (Option Home)) (rows : List (List ℕ)) → are_below (length homes) (graph_of code) ≡ true →
    AreLiveRows (graph_of code) (length homes) rows → AreBlocksRight homes rows (graph_of code) (length (graph_of code)) → IsRight code homes
blocks-right code homes rows a live all = record {
  homes_are = λ b i t u.
      let p = in-block b i t u in
      let l = used-below (length homes) (graph_of code) b i t a u in
      (right-anywhere homes rows p.0 (all b p.0 (slice_get_within (graph_of code) b p.0 p.1) p.1) i).homes_are t l
      (from-used (graph_of code) (length homes) rows live b p.0 p.1 i t l u);
  apart = λ b i t v u w ne.
      let p = in-block b i t u in
      let l = used-below (length homes) (graph_of code) b i t a u in
      let k = used-below (length homes) (graph_of code) b i v a w in
      (right-anywhere homes rows p.0 (all b p.0 (slice_get_within (graph_of code) b p.0 p.1) p.1) i).apart t v l k
      (from-used (graph_of code) (length homes) rows live b p.0 p.1 i t l u)
      (from-used (graph_of code) (length homes) rows live b p.0 p.1 i v k w) ne;
}
  where
    in-block : (b i t : ℕ) → InUse (graph_of code) b i t → (block : FlowBlock) × (slice_get (graph_of code) b ≡ Some block)
    in-block b i t u = found (slice_get (graph_of code) b) refl u
      where
        no-read : slice_get (graph_of code) b ≡ None → (k : ℕ) → read_within (graph_of code) k b i t ≡ true → ⊥
        no-read g zero h = false≢true h
        no-read g (suc k) h = false≢true (sym (ap (λ o. at_place o i (λ c. read_within (graph_of code) k c 0 t) (read_within (graph_of code) k b (suc i) t) t) g) ∙ h)

        no-write : slice_get (graph_of code) b ≡ None → (j : ℕ) → is_just_written (graph_of code) b j t ≡ true → ⊥
        no-write g zero h = false≢true h
        no-write g (suc j) h = false≢true (sym (ap (λ o. written_in o j t) g) ∙ h)

        found : (o : Option FlowBlock) → slice_get (graph_of code) b ≡ o → InUse (graph_of code) b i t → (block : FlowBlock) × (slice_get (graph_of code) b ≡ Some block)
        found (Some block) g v = (block, g)
        found None g v = absurd (⊎_elim (λ r. no-read g r.0 r.1) (λ w. no-write g i w) v)

pub right-blocks : (code : Tac) (homes : List (Option Home)) (rows : List (List ℕ)) →
    AreLiveRows (graph_of code) (length homes) rows → IsRight code homes → AreBlocksRight homes rows (graph_of code) (length (graph_of code))
right-blocks code homes rows live r b block l g i h = record {
  homes_are = λ t k u. r.homes_are b i t (used-from (graph_of code) (length homes) rows live b block g i t k u);
  apart = λ t v k m u w. r.apart b i t v (used-from (graph_of code) (length homes) rows live b block g i t k u) (used-from (graph_of code) (length homes) rows live b block g i v m w);
}

-- what the blocks say, if the graph is that of the code and the rows have what is live
pub check-ends : (code : Tac) (homes given : List (Option Home)) (first second third : List FlowBlock) (rows row : List (List ℕ)) (right : Bool) →
    given ≡ homes → first ≡ graph_of code → second ≡ graph_of code → third ≡ graph_of code → row ≡ rows →
    are_below (length given) first ≡ true → AreLiveRows second (length given) rows → ((right ≡ true) ↔ AreBlocksRight given row third (length third)) →
    ((right ≡ true) ↔ IsRight code homes)
check-ends code homes given first second third rows row right eh e1 e2 e3 et a live answer =
    let a' : are_below (length homes) (graph_of code) ≡ true =
    ap (λ h. are_below (length h) (graph_of code)) (sym eh) ∙ (ap (λ g. are_below (length given) g) (sym e1) ∙ a) in
    let live' : AreLiveRows (graph_of code) (length homes) rows =
    subst (λ h. AreLiveRows (graph_of code) (length h) rows) eh (subst (λ g. AreLiveRows g (length given) rows) e2 live) in
    let to : AreBlocksRight given row third (length third) → AreBlocksRight homes rows (graph_of code) (length (graph_of code)) =
    λ r. subst (λ h. AreBlocksRight h rows (graph_of code) (length (graph_of code))) eh
    (subst (λ t. AreBlocksRight given t (graph_of code) (length (graph_of code))) et (subst (λ g. AreBlocksRight given row g (length g)) e3 r)) in
    let from : AreBlocksRight homes rows (graph_of code) (length (graph_of code)) → AreBlocksRight given row third (length third) =
    λ r. subst (λ g. AreBlocksRight given row g (length g)) (sym e3)
    (subst (λ t. AreBlocksRight given t (graph_of code) (length (graph_of code))) (sym et) (subst (λ h. AreBlocksRight h rows (graph_of code) (length (graph_of code))) (sym eh) r)) in
    (λ y. blocks-right code homes rows a' live' (to (answer.0 y)), λ r. answer.1 (from (right-blocks code homes rows live' r)))

pub check-fails : (code : Tac) (homes given : List (Option Home)) (first : List FlowBlock) → given ≡ homes → first ≡ graph_of code →
    are_below (length given) first ≡ false → IsRight code homes → ⊥
check-fails code homes given first eh e1 a r =
    not-right code homes (ap (λ h. are_below (length h) (graph_of code)) (sym eh) ∙ (ap (λ g. are_below (length given) g) (sym e1) ∙ a)) r
