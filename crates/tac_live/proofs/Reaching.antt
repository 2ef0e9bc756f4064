-- The search for the blocks at whose begin one temporary is live finds exactly these.
use Rattle.std.proofs.Common.{◌≡◌, ℕ, zero, suc, ◌+◌, ◌<◌, ◌≤◌, Bool, true, false, not, ◌&&◌, ◌||◌, cond, eqb, List, [], ◌∷◌, length, get_or}
use Rattle.std.proofs.Common.{set, Option, Some, None, refl, sym, ap, ◌∙◌, subst, ◌⊎◌, ⊎_elim, inl, inr, arith}
use Rattle.std.specs.Prelude.{slice_get}
use Rattle.std.specs.List.{list_any}
use Rattle.std.proofs.lemmas.List.{length-set, get_or_append_left, length_push}
use Rattle.std.proofs.lemmas.List.Sums.{sum_by-set, sum_by-cons}
use Rattle.std.proofs.lemmas.Option.{slice_get_within, slice_get-get_or, slice_get_past, get_or_from_slice_get}
use Rattle.std.proofs.lemmas.Bool.{cases_eq, cases_lt, or_cases, or_left, or_right, and_parts, and_from, eqb-true, eq-eqb, false≢true}
use Rattle.tac_form.specs.declared.graph.FlowBlock.{FlowBlock}
use Rattle.tac_form.specs.Live.{has, before_exit, read_within, IsLive}
use Rattle.tac_live.specs.Sets.{before_steps, before_from}
use Rattle.tac_live.specs.Flows.{group_at, is_turn, is_marked, exposes, steps_write, writes, leads, in_block, AreGrouped, AreFlows, IsFlowOf, AreBelow}
use Rattle.tac_live.specs.Reach.{Search, search, found_if, reached_at, reached_unless, all_reached, AreLive, unmarked_count, IsSearch, IsSearchOf}
use Rattle.tac_live.proofs.Ways.{any-pick, any-from, before-live, live-before, nothing-there}
use Rattle.tac_live.proofs.Grouping.{has-push, marked-set, set-low, not-marked, eqb-other, steps-parts}

-- a turn begins with nothing found
all-unmarked : (marks : List ℕ) (turn : ℕ) → ((k : ℕ) → get_or marks k 0 < turn) → unmarked_count marks turn ≡ length marks
all-unmarked [] turn low = refl
all-unmarked (m ∷ ms) turn low =
    let l = low 0 in
    let e : eqb m turn ≡ false = eqb-other m turn (λ y. absurd (omega (arith, y))) in
    let c : unmarked_count (m ∷ ms) turn ≡ cond (not (eqb m turn)) 1 0 + unmarked_count ms turn =
    sum_by-cons (λ (v : ℕ). cond (not (eqb v turn)) 1 0) m ms in
    let d : cond (not (eqb m turn)) 1 0 + unmarked_count ms turn ≡ 1 + unmarked_count ms turn = ap (λ b. cond (not b) 1 0 + unmarked_count ms turn) e in
    let r = all-unmarked ms turn (λ k. low (suc k)) in
    c ∙ (d ∙ omega (arith, r))

pub search-none : (marks : List ℕ) (count turn : ℕ) → AreBelow marks count turn → IsSearch count turn (search marks [])
search-none marks count turn b = record {
  long = b.long;
  marks_are = λ k. not-marked marks count turn b k;
  low = λ k. let l = b.below k in omega arith;
  fits = omega (arith, all-unmarked marks turn b.below, b.long);
}

marked-within : (marks : List ℕ) (b turn : ℕ) → is_marked marks b turn ≡ true → b < length marks
marked-within marks b turn h = by-mark (slice_get marks b) refl h
  where
    by-mark : (o : Option ℕ) → slice_get marks b ≡ o → is_turn o turn ≡ true → b < length marks
    by-mark None e h = absurd (false≢true h)
    by-mark (Some m) e h = slice_get_within marks b m e

found-within : (count turn b : ℕ) (s : Search) → IsSearch count turn s → has s.found b ≡ true → b < count
found-within count turn b s i h = let l = marked-within s.marks b turn (i.marks_are b ∙ h) in omega (arith, i.long)

-- one block more
one-found : (count turn b m : ℕ) (s : Search) → IsSearch count turn s → slice_get s.marks b ≡ Some m → eqb m turn ≡ false →
    IsSearch count turn (found_if false b turn s)
one-found count turn b m s i g f = record {
  long = length-set s.marks b turn ∙ i.long;
  marks_are = λ c.
      ⊎_elim
      (λ l. marked-set s.marks b turn c l ∙ (ap (λ v. v || eqb b c) (i.marks_are c) ∙ sym (has-push s.found b c)))
      (λ l.
      ap (λ o. is_turn o turn) (slice_get_past (set s.marks b turn) c (omega (arith, length-set s.marks b turn)))
      ∙ (ap (λ o. is_turn o turn) (sym (slice_get_past s.marks c l)) ∙ (i.marks_are c
      ∙ (sym (or-false (has s.found c)) ∙ (ap (λ v. has s.found c || v) (sym (eqb-other b c (λ y. absurd (omega (arith, y, inside))))) ∙ sym (has-push s.found b c))))))
      (cases_lt c (length s.marks));
  low = set-low s.marks b turn (turn + 1) (omega arith) i.low;
  fits = omega (arith, length_push s.found b, i.fits, fewer);
}
  where
    inside : b < length s.marks
    inside = slice_get_within s.marks b m g

    or-false : (a : Bool) → (a || false) ≡ a
    or-false true = refl
    or-false false = refl

    fewer : unmarked_count (set s.marks b turn) turn + 1 ≡ unmarked_count s.marks turn
    fewer =
        let e : eqb (get_or s.marks b 0) turn ≡ false = ap (λ v. eqb v turn) (get_or_from_slice_get s.marks b m 0 g) ∙ f in
        let k : eqb turn turn ≡ true = eq-eqb turn turn refl in
        let r = sum_by-set (λ (v : ℕ). cond (not (eqb v turn)) 1 0) s.marks b turn 0 inside in
        let q : unmarked_count (set s.marks b turn) turn + 1 ≡ unmarked_count s.marks turn + cond (not (eqb turn turn)) 1 0 =
        ap (λ v. unmarked_count (set s.marks b turn) turn + cond (not v) 1 0) (sym e) ∙ r in
        let z : unmarked_count s.marks turn + cond (not (eqb turn turn)) 1 0 ≡ unmarked_count s.marks turn + 0 = ap (λ v. unmarked_count s.marks turn + cond (not v) 1 0) k in
        omega (arith, q, z)

-- from one search to a later, by blocks of which those that are not marked as stops are found
pub record IsFurther (count turn : ℕ) (stops bs : List ℕ) (old new : Search) : Type 0 where
  pub is : IsSearch count turn new
  pub longer : length old.found ≤ length new.found
  pub keeps : (j : ℕ) → j < length old.found → get_or new.found j 0 ≡ get_or old.found j 0
  pub has_old : (b : ℕ) → has old.found b ≡ true → has new.found b ≡ true
  pub only : (b : ℕ) → has new.found b ≡ true → (has old.found b ≡ true) ⊎ ((has bs b ≡ true) × (is_marked stops b turn ≡ false))
  pub all : (b : ℕ) → has bs b ≡ true → b < count → is_marked stops b turn ≡ false → has new.found b ≡ true

no-further : (count turn : ℕ) (stops bs : List ℕ) (s : Search) → IsSearch count turn s →
    ((b : ℕ) → has bs b ≡ true → b < count → is_marked stops b turn ≡ false → has s.found b ≡ true) → IsFurther count turn stops bs s s
no-further count turn stops bs s i all = record {
  is = i;
  longer = omega arith;
  keeps = λ j l. refl;
  has_old = λ b h. h;
  only = λ b h. inl h;
  all = all;
}

only-one : (b c : ℕ) → has (b ∷ []) c ≡ true → b ≡ c
only-one b c h = ⊎_elim (λ e. eqb-true b c e) (λ n. absurd (false≢true n)) (or_cases (eqb b c) false h)

one-further : (count turn b : ℕ) (stops : List ℕ) (s : Search) → IsSearch count turn s →
    IsFurther count turn stops (b ∷ []) s (reached_unless (is_marked stops b turn) b turn s)
one-further count turn b stops s i = by-stop (is_marked stops b turn) refl
  where
    by-test : (m : ℕ) (e : Bool) → slice_get s.marks b ≡ Some m → eqb m turn ≡ e → is_marked stops b turn ≡ false →
        IsFurther count turn stops (b ∷ []) s (found_if e b turn s)
    by-test m true g e f =
        no-further count turn stops (b ∷ []) s i
        (λ c h l n. ap (λ v. has s.found v) (sym (only-one b c h)) ∙ (sym (i.marks_are b) ∙ (ap (λ o. is_turn o turn) g ∙ e)))
    by-test m false g e f = record {
      is = one-found count turn b m s i g e;
      longer = omega (arith, length_push s.found b);
      keeps = λ j l. get_or_append_left s.found (b ∷ []) 0 j l;
      has_old = λ c h. has-push s.found b c ∙ or_left (has s.found c) (eqb b c) h;
      only = λ c h.
          ⊎_elim
          (λ w. inl w)
          (λ w. inr (or_left (eqb b c) false w, ap (λ v. is_marked stops v turn) (sym (eqb-true b c w)) ∙ f))
          (or_cases (has s.found c) (eqb b c) (sym (has-push s.found b c) ∙ h));
      all = λ c h l n. has-push s.found b c ∙ or_right (has s.found c) (eqb b c) (eq-eqb b c (only-one b c h));
    }

    by-mark : (o : Option ℕ) → slice_get s.marks b ≡ o → is_marked stops b turn ≡ false → IsFurther count turn stops (b ∷ []) s (reached_at o b turn s)
    by-mark None g f =
        no-further count turn stops (b ∷ []) s i
        (λ c h l n.
        let y = only-one b c h in
        let k : b < length s.marks = omega (arith, y, i.long) in
        let z : Some (get_or s.marks b 0) ≡ None = sym (slice_get-get_or s.marks b 0 k) ∙ g in
        cc)
    by-mark (Some m) g f = by-test m (eqb m turn) g refl f

    by-stop : (e : Bool) → is_marked stops b turn ≡ e → IsFurther count turn stops (b ∷ []) s (reached_unless e b turn s)
    by-stop true e =
        no-further count turn stops (b ∷ []) s i
        (λ c h l n. absurd (false≢true (sym n ∙ (ap (λ v. is_marked stops v turn) (sym (only-one b c h)) ∙ e))))
    by-stop false e = by-mark (slice_get s.marks b) refl e

pub all-further : (count turn : ℕ) (stops bs : List ℕ) (s : Search) → IsSearch count turn s → IsFurther count turn stops bs s (all_reached stops bs turn s)
all-further count turn stops [] s i = no-further count turn stops [] s i (λ b h l n. absurd (false≢true h))
all-further count turn stops (b ∷ bs) s i =
    let mid = reached_unless (is_marked stops b turn) b turn s in
    let f = one-further count turn b stops s i in
    let g = all-further count turn stops bs mid f.is in
    record {
      is = g.is;
      longer = let x = f.longer in let y = g.longer in omega arith;
      keeps = λ j l. let x = f.longer in g.keeps j (omega arith) ∙ f.keeps j l;
      has_old = λ c h. g.has_old c (f.has_old c h);
      only = λ c h.
          ⊎_elim
          (λ w. ⊎_elim (λ v. inl v) (λ v. inr (or_left (eqb b c) (has bs c) (eq-eqb b c (only-one b c v.0)), v.1)) (f.only c w))
          (λ w. inr (or_right (eqb b c) (has bs c) w.0, w.1))
          (g.only c h);
      all = λ c h l n.
          ⊎_elim
          (λ e. g.has_old c (f.all c (or_left (eqb b c) false e) l n))
          (λ e. g.all c e l n)
          (or_cases (eqb b c) (has bs c) h);
    }

-- what the search finds is live
in-block-there : (test : FlowBlock → ℕ → Bool) (graph : List FlowBlock) (b k : ℕ) → in_block test (slice_get graph b) k ≡ true →
    (block : FlowBlock) × (slice_get graph b ≡ Some block) × (test block k ≡ true)
in-block-there test graph b k h = by-block (slice_get graph b) refl h
  where
    by-block : (o : Option FlowBlock) → slice_get graph b ≡ o → in_block test o k ≡ true →
        (block : FlowBlock) × (slice_get graph b ≡ Some block) × (test block k ≡ true)
    by-block None e h = absurd (false≢true h)
    by-block (Some block) e h = (block, e, h)

exposed-live : (graph : List FlowBlock) (b t : ℕ) → in_block exposes (slice_get graph b) t ≡ true → IsLive graph b 0 t
exposed-live graph b t h =
    let w = in-block-there exposes graph b t h in
    let block = w.0 in
    before-live graph b t block (λ c. false) w.1 (λ c e. absurd (false≢true e)) block.steps 0 refl
    (ap (λ v. before_steps block.steps v t) (no-next (has block.reads t) block.next) ∙ w.2)
  where
    no-next : (a : Bool) (ns : List ℕ) → (a || list_any (λ c. false) ns) ≡ a
    no-next true ns = refl
    no-next false [] = refl
    no-next false (n ∷ ns) = no-next false ns

passed-live : (graph : List FlowBlock) (p b t : ℕ) (found : List ℕ) → ((c : ℕ) → has found c ≡ true → IsLive graph c 0 t) → has found b ≡ true →
    in_block leads (slice_get graph p) b ≡ true → in_block writes (slice_get graph p) t ≡ false → IsLive graph p 0 t
passed-live graph p b t found sound h lead free =
    let w = in-block-there leads graph p b lead in
    let block = w.0 in
    let after = before_exit block (λ c. has found c) t in
    let y : after ≡ true = or_right (has block.reads t) (list_any (λ c. has found c) block.next) (any-from (λ c. has found c) block.next b w.2 h) in
    let n : steps_write block.steps t ≡ false = ap (λ o. in_block writes o t) (sym w.1) ∙ free in
    before-live graph p t block (λ c. has found c) w.1 sound block.steps 0 refl
    (sym (steps-parts block.steps after t)
    ∙ or_right (before_steps block.steps false t) (not (steps_write block.steps t) && after) (and_from (not (steps_write block.steps t)) after (ap not n) y))

pub begun-search : (graph : List FlowBlock) (count turn t : ℕ) (stops exposed writers : List ℕ) (before : List (List ℕ)) (s new : Search) →
    IsFlowOf graph t exposed writers before → count ≡ length before → s.found ≡ [] → ((b : ℕ) → is_marked stops b turn ≡ false) →
    IsFurther count turn stops exposed s new → IsSearchOf graph t 0 new.found
begun-search graph count turn t stops exposed writers before s new flow c none free f = record {
  sound = λ b h.
      ⊎_elim
      (λ w. absurd (false≢true (sym (ap (λ v. has v b) none) ∙ w)))
      (λ w. exposed-live graph b t (sym (flow.exposed_are b) ∙ w.0))
      (f.only b h);
  begun = λ b h.
      let w = in-block-there exposes graph b t h in
      let l = slice_get_within graph b w.0 w.1 in
      f.all b (flow.exposed_are b ∙ h) (omega (arith, c, flow.before_are.long)) (free b);
  gone = λ j p l. absurd (omega arith);
}

has-at : (xs : List ℕ) (i : ℕ) → i < length xs → has xs (get_or xs i 0) ≡ true
has-at [] i l = absurd (omega arith)
has-at (x ∷ xs) zero l = or_left (eqb x x) (has xs x) (eq-eqb x x refl)
has-at (x ∷ xs) (suc i) l = or_right (eqb x (get_or xs i 0)) (has xs (get_or xs i 0)) (has-at xs i (omega arith))

pub has-index : (xs : List ℕ) (x : ℕ) → has xs x ≡ true → (i : ℕ) × (i < length xs) × (get_or xs i 0 ≡ x)
has-index [] x h = absurd (false≢true h)
has-index (y ∷ ys) x h =
    ⊎_elim
    (λ e. (0, omega arith, eqb-true y x e))
    (λ e. let r = has-index ys x e in let l = r.1 in (suc r.0, omega arith, r.2))
    (or_cases (eqb y x) (has ys x) h)

-- it goes on from one more block
pub search-turn : (graph : List FlowBlock) (count turn t i b : ℕ) (stops exposed writers : List ℕ) (before : List (List ℕ)) (s new : Search) →
    IsFlowOf graph t exposed writers before → count ≡ length before → i < length s.found → get_or s.found i 0 ≡ b →
    ((c : ℕ) → c < count → is_marked stops c turn ≡ has writers c) → IsSearch count turn s →
    IsFurther count turn stops (group_at before b) s new → IsSearchOf graph t i s.found → IsSearchOf graph t (i + 1) new.found
search-turn graph count turn t i b stops exposed writers before s new flow c l e stop is f was = record {
  sound = λ p h.
      ⊎_elim
      (λ w. was.sound p w)
      (λ w.
      let k : p < count = found-within count turn p new f.is h in
      passed-live graph p b t s.found was.sound here (sym (flow.before_are.holds b p inside) ∙ w.0)
      (sym (flow.writers_are p) ∙ (sym (stop p k) ∙ w.1)))
      (f.only p h);
  begun = λ p h. f.has_old p (was.begun p h);
  gone = λ j p k lead free.
      ⊎_elim
      (λ y.
      let g : get_or new.found j 0 ≡ b = f.keeps j (omega (arith, y)) ∙ (ap (λ v. get_or s.found v 0) y ∙ e) in
      let w = in-block-there leads graph p (get_or new.found j 0) lead in
      let z = slice_get_within graph p w.0 w.1 in
      let m : p < count = omega (arith, c, flow.before_are.long) in
      f.all p (flow.before_are.holds b p inside ∙ (ap (λ v. in_block leads (slice_get graph p) v) (sym g) ∙ lead)) m
      (stop p m ∙ (flow.writers_are p ∙ free)))
      (λ n.
      f.has_old p (was.gone j p (omega (arith, n))
      (ap (λ v. in_block leads (slice_get graph p) v) (sym (f.keeps j (omega (arith, n)))) ∙ lead) free))
      (cases_eq j i);
}
  where
    here : has s.found b ≡ true
    here = ap (λ v. has s.found v) (sym e) ∙ has-at s.found i l

    inside : b < length graph
    inside = let k = found-within count turn b s is here in omega (arith, c, flow.before_are.long)

-- and has found all where it has gone on from each
pub search-ends : (graph : List FlowBlock) (t i : ℕ) (found : List ℕ) → length found ≤ i → IsSearchOf graph t i found → AreLive graph t found
search-ends graph t i found l s b = (s.sound b, λ w. reached-there (slice_get graph b) refl w.0 w.1)
  where
    close : (c : ℕ) (block : FlowBlock) → slice_get graph c ≡ Some block → before_from block 0 (λ n. has found n) t ≡ true → has found c ≡ true
    close c block g h =
        ⊎_elim
        (λ w. exposed-here (or_left (before_steps block.steps false t) (not (steps_write block.steps t) && has block.reads t) w))
        (λ w.
        let p = and_parts (not (steps_write block.steps t)) (before_exit block (λ n. has found n) t) w in
        ⊎_elim
        (λ r. exposed-here (or_right (before_steps block.steps false t) (not (steps_write block.steps t) && has block.reads t)
        (and_from (not (steps_write block.steps t)) (has block.reads t) p.0 r)))
        (λ a.
        let n = any-pick (λ n. has found n) block.next a in
        let j = has-index found n.0 n.2 in
        let k = j.1 in
        s.gone j.0 c (omega arith) (ap (λ o. in_block leads o (get_or found j.0 0)) g ∙ (ap (λ v. has block.next v) j.2 ∙ n.1))
        (ap (λ o. in_block writes o t) g ∙ no-write (steps_write block.steps t) p.0))
        (or_cases (has block.reads t) (list_any (λ n. has found n) block.next) p.1))
        (or_cases (before_steps block.steps false t) (not (steps_write block.steps t) && before_exit block (λ n. has found n) t)
        (steps-parts block.steps (before_exit block (λ n. has found n) t) t ∙ h))
      where
        exposed-here : (before_steps block.steps false t || (not (steps_write block.steps t) && has block.reads t)) ≡ true → has found c ≡ true
        exposed-here w = s.begun c (ap (λ o. in_block exposes o t) g ∙ (sym (steps-parts block.steps (has block.reads t) t) ∙ w))

        no-write : (a : Bool) → not a ≡ true → a ≡ false
        no-write true h = absurd (false≢true h)
        no-write false h = refl

    reached-there : (o : Option FlowBlock) → slice_get graph b ≡ o → (k : ℕ) → read_within graph k b 0 t ≡ true → has found b ≡ true
    reached-there (Some block) g k r = close b block g (live-before graph t (λ n. has found n) close k b 0 r block g)
    reached-there None g k r = absurd (nothing-there graph k b 0 t g r)

-- one temporary of all
pub flow-of : (graph : List FlowBlock) (count t : ℕ) (exposed writers before : List (List ℕ)) (xs ws : List ℕ) (bs : List (List ℕ)) →
    AreFlows graph count exposed writers before → t < count → xs ≡ group_at exposed t → ws ≡ group_at writers t → bs ≡ before → IsFlowOf graph t xs ws bs
flow-of graph count t exposed writers before xs ws bs f l x w b = record {
  exposed_are = λ k. ap (λ v. has v k) x ∙ f.exposed_are.holds t k l;
  writers_are = λ k. ap (λ v. has v k) w ∙ f.writers_are.holds t k l;
  before_are = subst (λ v. AreGrouped graph (length graph) leads v) (sym b) f.before_are;
}
