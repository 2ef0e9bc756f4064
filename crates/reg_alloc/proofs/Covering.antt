-- The intervals of temporaries begin and end where these are in use, and contain each place where they are.
use Rattle.std.proofs.Common.{◌≡◌, ℕ, zero, suc, ◌+◌, ◌<◌, ◌≤◌, Bool, true, false, not, ◌&&◌, eqb, List, [], ◌∷◌, ◌++◌, length, get_or}
use Rattle.std.proofs.Common.{replicate, Option, Some, None, refl, sym, ap, ◌∙◌, subst, ⊎_elim, inl, inr, arith}
use Rattle.std.specs.Prelude.{slice_get, sum_by, MatchOption, ◌^◌}
use Rattle.std.specs.List.{list_any}
use Rattle.std.proofs.lemmas.List.{drop_all, take_all, get_or_append_left, get_or_push, length_push}
use Rattle.std.proofs.lemmas.List.Sums.{sum_by_more, sum_by-take-le}
use Rattle.std.proofs.lemmas.Option.{slice_get_within, get_or_from_slice_get, slice_get-get_or}
use Rattle.std.proofs.lemmas.Bool.{cases_eq, cases_Bool, or_cases, or_left, or_right, and_parts, and_from, false≢true, eqb-true}
use Rattle.tac_form.specs.declared.graph.Step.{Step}
use Rattle.tac_form.specs.declared.graph.FlowBlock.{FlowBlock}
use Rattle.tac_form.specs.Live.{has, is_written, before_exit, at_step, at_place, read_within, IsLive, InUse, step_writes, written_in, is_just_written}
use Rattle.reg_alloc.specs.declared.spans.Span.{Span}
use Rattle.reg_alloc.specs.Intervals.{places_in, IsPlace, place_number, IsUsedAt}
use Rattle.tac_live.specs.Flows.{group_at, leads, in_block, AreGrouped}
use Rattle.tac_live.specs.Reach.{AreLive}
use Rattle.reg_alloc.specs.Noted.{noted_at, all_noted, steps_noted, all_noted_at, live_noted, Covers, ArePlacesTo, ArePlaces, AreSpans}
use Rattle.reg_alloc.specs.Noted.{HasUsesOf, HasUses, HasLive, HasSpans, IsOrdered, AreIntervals}
use Rattle.tac_live.proofs.Ways.{any-pick, any-from, live-here, before-live, nothing-there}
use Rattle.reg_alloc.proofs.Noting.{IsNoted, Goes, then-goes, stays, AreUses, all-goes, all-covers, steps-goes, steps-covers, at-goes, at-covers}
use Rattle.reg_alloc.proofs.Noting.{all-at-goes, all-at-covers, none-noted, or-here, or-there}

-- a use at a place of a block
used-at : (graph : List FlowBlock) (b : ℕ) (block : FlowBlock) → slice_get graph b ≡ Some block → (p i t : ℕ) → place_number graph b 0 ≡ p →
    i ≤ length block.steps → InUse graph b i t → IsUsedAt graph t (p + i)
used-at graph b block get p i t e l u = record {
  block = b;
  at = i;
  there = subst (λ o. MatchOption o ⊥ (λ (v : FlowBlock). i ≤ length v.steps)) (sym get) l;
  numbered = let z = e in omega arith;
  used = u;
}

at-reads : (graph : List FlowBlock) (b : ℕ) (block : FlowBlock) → slice_get graph b ≡ Some block → (j t : ℕ) (s : Step) →
    slice_get block.steps j ≡ Some s → has s.reads t ≡ true → InUse graph b j t
at-reads graph b block get j t s g h =
    inl
    (live-here graph b j t 0 block get
    (ap (λ o. at_step block o (λ c. read_within graph 0 c 0 t) (read_within graph 0 b (suc j) t) t) g ∙ or_left (has s.reads t) _ h))

behind-writes : (graph : List FlowBlock) (b : ℕ) (block : FlowBlock) → slice_get graph b ≡ Some block → (j t : ℕ) (s : Step) →
    slice_get block.steps j ≡ Some s → is_written s.write t ≡ true → InUse graph b (suc j) t
behind-writes graph b block get j t s g h =
    inr (ap (λ o. written_in o j t) get ∙ (ap (λ o. step_writes o t) g ∙ h))

exit-live : (graph : List FlowBlock) (b t : ℕ) (block : FlowBlock) (begins : ℕ → Bool) → slice_get graph b ≡ Some block →
    ((c : ℕ) → begins c ≡ true → IsLive graph c 0 t) → before_exit block begins t ≡ true → IsLive graph b (length block.steps) t
exit-live graph b t block begins get sound h =
    before-live graph b t block begins get sound [] (length block.steps) (drop_all (length block.steps) block.steps (omega arith)) h

to-noted : (graph : List FlowBlock) (count : ℕ) (spans : List (Option Span)) → AreSpans graph count spans → IsNoted (λ t q. IsUsedAt graph t q) count spans
to-noted graph count spans a = record { long = a.long; sane = a.sane; begins = a.begins; ends = a.ends }

from-noted : (graph : List FlowBlock) (count : ℕ) (spans : List (Option Span)) → IsNoted (λ t q. IsUsedAt graph t q) count spans → AreSpans graph count spans
from-noted graph count spans a = record { long = a.long; sane = a.sane; begins = a.begins; ends = a.ends }

-- places by their numbers
place-next : (graph : List FlowBlock) (b : ℕ) (block : FlowBlock) (p : ℕ) → slice_get graph b ≡ Some block → place_number graph b 0 ≡ p →
    place_number graph (b + 1) 0 ≡ p + length block.steps + 1
place-next graph b block p get e =
    let l = slice_get_within graph b block get in
    let m = sum_by_more places_in graph b block l in
    let g = get_or_from_slice_get graph b block block get in
    let h : places_in (get_or graph b block) ≡ suc (length block.steps) = ap places_in g in
    let z = e in
    omega arith

pub places-turn : (graph : List FlowBlock) (i : ℕ) (block : FlowBlock) (begins exits : List ℕ) (count last : ℕ) → slice_get graph i ≡ Some block →
    last ≡ count + length block.steps → last < 2 ^ 63 → ArePlacesTo graph i begins exits count →
    ArePlacesTo graph (i + 1) (begins ++ count ∷ []) (exits ++ last ∷ []) (last + 1)
places-turn graph i block begins exits count last get e small a = record {
  begins_long = length_push begins count ∙ ap (λ v. v + 1) a.begins_long;
  exits_long = length_push exits last ∙ ap (λ v. v + 1) a.exits_long;
  begins_are = λ b l.
      ⊎_elim
      (λ y. get_or_push begins count 0 b (a.begins_long ∙ sym y) ∙ (a.count_is ∙ ap (λ v. place_number graph v 0) (sym y)))
      (λ n. let k : b < i = omega (arith, n) in get_or_append_left begins (count ∷ []) 0 b (omega (arith, a.begins_long)) ∙ a.begins_are b k)
      (cases_eq b i);
  exits_are = λ b other l g.
      ⊎_elim
      (λ y.
      let w : Some block ≡ Some other = sym get ∙ (ap (λ v. slice_get graph v) (sym y) ∙ g) in
      let z : block ≡ other = cc in
      let m : length block.steps ≡ length other.steps = ap (λ (v : FlowBlock). length v.steps) z in
      let c = a.count_is in
      let k : last ≡ place_number graph i (length other.steps) = omega arith in
      get_or_push exits last 0 b (a.exits_long ∙ sym y) ∙ (k ∙ ap (λ v. place_number graph v (length other.steps)) (sym y)))
      (λ n.
      let k : b < i = omega (arith, n) in
      get_or_append_left exits (last ∷ []) 0 b (omega (arith, a.exits_long)) ∙ a.exits_are b other k g)
      (cases_eq b i);
  small = λ b l.
      ⊎_elim
      (λ y. subst (λ v. v < 2 ^ 63) (sym (get_or_push exits last 0 b (a.exits_long ∙ sym y))) small)
      (λ n.
      let k : b < i = omega (arith, n) in
      subst (λ v. v < 2 ^ 63) (sym (get_or_append_left exits (last ∷ []) 0 b (omega (arith, a.exits_long)))) (a.small b k))
      (cases_eq b i);
  count_is = let n = place-next graph i block count get (sym a.count_is) in sym (n ∙ ap (λ v. v + 1) (sym e));
}

pub used-below : (graph : List FlowBlock) (t q i : ℕ) → length graph ≤ i → IsUsedAt graph t q → q < place_number graph i 0
used-below graph t q i h u = by-block (slice_get graph u.block) refl u.there
  where
    by-block : (o : Option FlowBlock) → slice_get graph u.block ≡ o → MatchOption o ⊥ (λ (v : FlowBlock). u.at ≤ length v.steps) → q < place_number graph i 0
    by-block None e w = absurd w
    by-block (Some block) e w =
        let n = place-next graph u.block block (place_number graph u.block 0) e refl in
        let l = sum_by-take-le places_in graph (u.block + 1) in
        let a = take_all i graph h in
        let b = ap (λ v. sum_by places_in v) a in
        let c = u.numbered in
        omega arith

-- what one more block reads and writes
pub uses-none : (graph : List FlowBlock) (count : ℕ) (spans : List (Option Span)) → spans ≡ replicate count None → HasUses graph count 0 spans
uses-none graph count spans e = record {
  are = from-noted graph count spans (subst (λ v. IsNoted (λ t q. IsUsedAt graph t q) count v) (sym e) (none-noted (λ t q. IsUsedAt graph t q) count));
  uses = λ b block l. absurd (omega arith);
}

kept-uses : (count p : ℕ) (block : FlowBlock) (old new : List (Option Span)) → ((t q : ℕ) → Covers old t q → Covers new t q) → HasUsesOf count p block old →
    HasUsesOf count p block new
kept-uses count p block old new k h = record {
  reads = λ j s g t w l. k t (p + j) (h.reads j s g t w l);
  writes = λ j s g t w l. k t (p + j + 1) (h.writes j s g t w l);
  exit_reads = λ t w l. k t (p + length block.steps) (h.exit_reads t w l);
}

pub uses-turn : (graph : List FlowBlock) (count b p : ℕ) (block : FlowBlock) (old : List (Option Span)) → slice_get graph b ≡ Some block →
    p ≡ place_number graph b 0 → HasUses graph count b old →
    HasUses graph count (b + 1) (all_noted block.reads (p + length block.steps) (steps_noted block.steps p old))
uses-turn graph count b p block old get e h = record {
  are = from-noted graph count new g.is;
  uses = λ c other l k.
      ⊎_elim
      (λ y.
      let w : Some block ≡ Some other = sym get ∙ (ap (λ v. slice_get graph v) (sym y) ∙ k) in
      let z : block ≡ other = cc in
      subst (λ v. HasUsesOf count (place_number graph v 0) other new) (sym y)
      (subst (λ v. HasUsesOf count v other new) e (subst (λ v. HasUsesOf count p v new) z here)))
      (λ n.
      kept-uses count (place_number graph c 0) other old new (λ t q v. g.keeps t q (f.keeps t q v)) (h.uses c other (omega (arith, n)) k))
      (cases_eq c b);
}
  where
    mid : List (Option Span)
    mid = steps_noted block.steps p old

    new : List (Option Span)
    new = all_noted block.reads (p + length block.steps) (steps_noted block.steps p old)

    uses : AreUses (λ t q. IsUsedAt graph t q) count p block.steps
    uses = record {
      reads = λ j s g t w l.
          let k = slice_get_within block.steps j s g in
          used-at graph b block get p j t (sym e) (omega arith) (at-reads graph b block get j t s g w);
      writes = λ j s g t w l.
          let k = slice_get_within block.steps j s g in
          let z : p + suc j ≡ p + j + 1 = omega arith in
          subst (λ q. IsUsedAt graph t q) z (used-at graph b block get p (suc j) t (sym e) (omega arith) (behind-writes graph b block get j t s g w));
    }

    exit-used : (t : ℕ) → has block.reads t ≡ true → t < count → IsUsedAt graph t (p + length block.steps)
    exit-used t w l =
        used-at graph b block get p (length block.steps) t (sym e) (omega arith)
        (inl (exit-live graph b t block (λ c. false) get (λ c v. absurd (false≢true v)) (or_left (has block.reads t) (list_any (λ c. false) block.next) w)))

    f : Goes (λ t q. IsUsedAt graph t q) count old (steps_noted block.steps p old)
    f = steps-goes (λ t q. IsUsedAt graph t q) count block.steps p old (to-noted graph count old h.are) uses

    g : Goes (λ t q. IsUsedAt graph t q) count (steps_noted block.steps p old)
        (all_noted block.reads (p + length block.steps) (steps_noted block.steps p old))
    g = all-goes (λ t q. IsUsedAt graph t q) count (p + length block.steps) block.reads (steps_noted block.steps p old) f.is exit-used

    here : HasUsesOf count p block (all_noted block.reads (p + length block.steps) (steps_noted block.steps p old))
    here =
        let c = steps-covers (λ t q. IsUsedAt graph t q) count block.steps p old (to-noted graph count old h.are) uses in
        record {
          reads = λ j s k t w l. g.keeps t (p + j) (c.reads j s k t w l);
          writes = λ j s k t w l. g.keeps t (p + j + 1) (c.writes j s k t w l);
          exit_reads = λ t w l. all-covers (λ t q. IsUsedAt graph t q) count (p + length block.steps) block.reads mid f.is exit-used t l w;
        }

-- where one temporary is live
pub record AreLiveUses (P : ℕ → ℕ → Type 0) (t : ℕ) (begins exits : List ℕ) (before : List (List ℕ)) (bs : List ℕ) : Type 0 where
  pub at_begins : (b p : ℕ) → has bs b ≡ true → slice_get begins b ≡ Some p → P t p
  pub at_exits : (b c p : ℕ) → has bs b ≡ true → has (group_at before b) c ≡ true → slice_get exits c ≡ Some p → P t p

rest-live : (P : ℕ → ℕ → Type 0) (t : ℕ) (begins exits : List ℕ) (before : List (List ℕ)) (b : ℕ) (bs : List ℕ) →
    AreLiveUses P t begins exits before (b ∷ bs) → AreLiveUses P t begins exits before bs
rest-live P t begins exits before b bs a = record {
  at_begins = λ c p h e. a.at_begins c p (or-there b bs c h) e;
  at_exits = λ c d p h k e. a.at_exits c d p (or-there b bs c h) k e;
}

one-live : (P : ℕ → ℕ → Type 0) (count t : ℕ) (begins exits : List ℕ) (before : List (List ℕ)) (b : ℕ) (bs : List ℕ) (n : List (Option Span)) →
    IsNoted P count n → AreLiveUses P t begins exits before (b ∷ bs) → Goes P count n (noted_at (slice_get begins b) t n)
one-live P count t begins exits before b bs n i a = at-goes P count t (slice_get begins b) n i (λ p e k. a.at_begins b p (or-here b bs) e)

exits-live : (P : ℕ → ℕ → Type 0) (count t : ℕ) (begins exits : List ℕ) (before : List (List ℕ)) (b : ℕ) (bs : List ℕ) (n : List (Option Span)) →
    IsNoted P count n → AreLiveUses P t begins exits before (b ∷ bs) → Goes P count n (all_noted_at (group_at before b) t exits n)
exits-live P count t begins exits before b bs n i a =
    all-at-goes P count t exits (group_at before b) n i (λ c p h e k. a.at_exits b c p (or-here b bs) h e)

live-goes : (P : ℕ → ℕ → Type 0) (count t : ℕ) (begins exits : List ℕ) (before : List (List ℕ)) (bs : List ℕ) (n : List (Option Span)) →
    IsNoted P count n → AreLiveUses P t begins exits before bs → Goes P count n (live_noted bs t begins exits before n)
live-goes P count t begins exits before [] n i a = stays P count n i
live-goes P count t begins exits before (b ∷ bs) n i a =
    let m = noted_at (slice_get begins b) t n in
    let k = all_noted_at (group_at before b) t exits m in
    let f = one-live P count t begins exits before b bs n i a in
    let g = exits-live P count t begins exits before b bs m f.is a in
    let h = live-goes P count t begins exits before bs k g.is (rest-live P t begins exits before b bs a) in
    then-goes P count n m (live_noted bs t begins exits before k) f (then-goes P count m k (live_noted bs t begins exits before k) g h)

begins-covered : (P : ℕ → ℕ → Type 0) (count t : ℕ) (begins exits : List ℕ) (before : List (List ℕ)) (bs : List ℕ) (n : List (Option Span)) →
    IsNoted P count n → AreLiveUses P t begins exits before bs → t < count → (b p : ℕ) → has bs b ≡ true → slice_get begins b ≡ Some p →
    Covers (live_noted bs t begins exits before n) t p
begins-covered P count t begins exits before [] n i a l b p h e = absurd (false≢true h)
begins-covered P count t begins exits before (c ∷ cs) n i a l b p h e =
    let m = noted_at (slice_get begins c) t n in
    let k = all_noted_at (group_at before c) t exits m in
    let f = one-live P count t begins exits before c cs n i a in
    let g = exits-live P count t begins exits before c cs m f.is a in
    ⊎_elim
    (λ w.
    let y : c ≡ b = eqb-true c b w in
    (live-goes P count t begins exits before cs k g.is (rest-live P t begins exits before c cs a)).keeps t p
    (g.keeps t p (at-covers P count t p (slice_get begins c) n i l (ap (λ v. slice_get begins v) y ∙ e))))
    (λ w. begins-covered P count t begins exits before cs k g.is (rest-live P t begins exits before c cs a) l b p w e)
    (or_cases (eqb c b) (has cs b) h)

exits-covered : (P : ℕ → ℕ → Type 0) (count t : ℕ) (begins exits : List ℕ) (before : List (List ℕ)) (bs : List ℕ) (n : List (Option Span)) →
    IsNoted P count n → AreLiveUses P t begins exits before bs → t < count → (b d p : ℕ) → has bs b ≡ true → has (group_at before b) d ≡ true →
    slice_get exits d ≡ Some p → Covers (live_noted bs t begins exits before n) t p
exits-covered P count t begins exits before [] n i a l b d p h j e = absurd (false≢true h)
exits-covered P count t begins exits before (c ∷ cs) n i a l b d p h j e =
    let m = noted_at (slice_get begins c) t n in
    let k = all_noted_at (group_at before c) t exits m in
    let f = one-live P count t begins exits before c cs n i a in
    let g = exits-live P count t begins exits before c cs m f.is a in
    ⊎_elim
    (λ w.
    let y : c ≡ b = eqb-true c b w in
    (live-goes P count t begins exits before cs k g.is (rest-live P t begins exits before c cs a)).keeps t p
    (all-at-covers P count t exits (group_at before c) m f.is (λ q r v z o. a.at_exits c q r (or-here c cs) v z) l d p
    (ap (λ v. has (group_at before v) d) y ∙ j) e))
    (λ w. exits-covered P count t begins exits before cs k g.is (rest-live P t begins exits before c cs a) l b d p w j e)
    (or_cases (eqb c b) (has cs b) h)

live-there : (graph : List FlowBlock) (b t : ℕ) → IsLive graph b 0 t → (block : FlowBlock) × (slice_get graph b ≡ Some block)
live-there graph b t l = by-block (slice_get graph b) refl
  where
    by-block : (o : Option FlowBlock) → slice_get graph b ≡ o → (block : FlowBlock) × (slice_get graph b ≡ Some block)
    by-block None e = absurd (nothing-there graph l.0 b 0 t e l.1)
    by-block (Some block) e = (block, e)

in-lead : (graph : List FlowBlock) (p b : ℕ) → in_block leads (slice_get graph p) b ≡ true → (block : FlowBlock) × (slice_get graph p ≡ Some block) × (has block.next b ≡ true)
in-lead graph p b h = by-block (slice_get graph p) refl h
  where
    by-block : (o : Option FlowBlock) → slice_get graph p ≡ o → in_block leads o b ≡ true → (block : FlowBlock) × (slice_get graph p ≡ Some block) × (has block.next b ≡ true)
    by-block None e h = absurd (false≢true h)
    by-block (Some block) e h = (block, e, h)

pub live-turn : (graph : List FlowBlock) (count u places : ℕ) (begins exits : List ℕ) (before : List (List ℕ)) (found : List ℕ) (old : List (Option Span)) →
    u < count → ArePlaces graph begins exits places → AreGrouped graph (length graph) leads before → AreLive graph u found → HasLive graph count u old →
    HasLive graph count (u + 1) (live_noted found u begins exits before old)
live-turn graph count u places begins exits before found old l pl gr live h = record {
  has_uses = record {
    are = from-noted graph count new g.is;
    uses = λ b block k e. kept-uses count (place_number graph b 0) block old new g.keeps (h.has_uses.uses b block k e);
  };
  at_begins = λ t b k w.
      ⊎_elim
      (λ y. subst (λ v. Covers new v (place_number graph b 0)) (sym y) (new-begin b (subst (λ v. IsLive graph b 0 v) y w)))
      (λ n. g.keeps t (place_number graph b 0) (h.at_begins t b (omega (arith, n)) w))
      (cases_eq t u);
  at_exits = λ t b p block k w e m.
      ⊎_elim
      (λ y.
      subst (λ v. Covers new v (place_number graph p (length block.steps))) (sym y) (new-exit b p block (subst (λ v. IsLive graph b 0 v) y w) e m))
      (λ n. g.keeps t (place_number graph p (length block.steps)) (h.at_exits t b p block (omega (arith, n)) w e m))
      (cases_eq t u);
}
  where
    new : List (Option Span)
    new = live_noted found u begins exits before old

    begin-used : (b p : ℕ) → has found b ≡ true → slice_get begins b ≡ Some p → IsUsedAt graph u p
    begin-used b p w e =
        let v = (live b).0 w in
        let r = live-there graph b u v in
        let i : b < length graph = slice_get_within graph b r.0 r.1 in
        let z : p ≡ place_number graph b 0 = sym (get_or_from_slice_get begins b p 0 e) ∙ pl.begins_are b i in
        let y : p + 0 ≡ p = omega arith in
        subst (λ q. IsUsedAt graph u q) y (used-at graph b r.0 r.1 p 0 u (sym z) (omega arith) (inl v))

    exit-used : (b c p : ℕ) → has found b ≡ true → has (group_at before b) c ≡ true → slice_get exits c ≡ Some p → IsUsedAt graph u p
    exit-used b c p w k e =
        let v = live-there graph b u ((live b).0 w) in
        let i : b < length graph = slice_get_within graph b v.0 v.1 in
        let r = in-lead graph c b (sym (gr.holds b c i) ∙ k) in
        let block = r.0 in
        let j : c < length graph = slice_get_within graph c block r.1 in
        let z : p ≡ place_number graph c (length block.steps) = sym (get_or_from_slice_get exits c p 0 e) ∙ pl.exits_are c block j r.1 in
        let q = place_number graph c 0 in
        let y : place_number graph c 0 + length block.steps ≡ place_number graph c (length block.steps) = omega arith in
        subst (λ q. IsUsedAt graph u q) (y ∙ sym z)
        (used-at graph c block r.1 q (length block.steps) u refl (omega arith)
        (inl (exit-live graph c u block (λ n. has found n) r.1 (λ n m. (live n).0 m)
        (or_right (has block.reads u) (list_any (λ n. has found n) block.next) (any-from (λ n. has found n) block.next b r.2 w)))))

    uses : AreLiveUses (λ t q. IsUsedAt graph t q) u begins exits before found
    uses = record { at_begins = begin-used; at_exits = exit-used }

    g : Goes (λ t q. IsUsedAt graph t q) count old (live_noted found u begins exits before old)
    g = live-goes (λ t q. IsUsedAt graph t q) count u begins exits before found old (to-noted graph count old h.has_uses.are) uses

    new-begin : (b : ℕ) → IsLive graph b 0 u → Covers (live_noted found u begins exits before old) u (place_number graph b 0)
    new-begin b w =
        let r = live-there graph b u w in
        let i : b < length graph = slice_get_within graph b r.0 r.1 in
        begins-covered (λ t q. IsUsedAt graph t q) count u begins exits before found old (to-noted graph count old h.has_uses.are) uses l b
        (place_number graph b 0) ((live b).1 w) (slice_get-get_or begins b 0 (omega (arith, pl.begins_long)) ∙ ap Some (pl.begins_are b i))

    new-exit : (b p : ℕ) (block : FlowBlock) → IsLive graph b 0 u → slice_get graph p ≡ Some block → has block.next b ≡ true →
        Covers (live_noted found u begins exits before old) u (place_number graph p (length block.steps))
    new-exit b p block w e m =
        let r = live-there graph b u w in
        let i : b < length graph = slice_get_within graph b r.0 r.1 in
        let j : p < length graph = slice_get_within graph p block e in
        exits-covered (λ t q. IsUsedAt graph t q) count u begins exits before found old (to-noted graph count old h.has_uses.are) uses l b p
        (place_number graph p (length block.steps)) ((live b).1 w) (gr.holds b p i ∙ (ap (λ o. in_block leads o b) e ∙ m))
        (slice_get-get_or exits p 0 (omega (arith, pl.exits_long)) ∙ ap Some (pl.exits_are p block j e))

pub live-none : (graph : List FlowBlock) (count : ℕ) (spans : List (Option Span)) → HasUses graph count (length graph) spans → HasLive graph count 0 spans
live-none graph count spans h = record {
  has_uses = h;
  at_begins = λ t b l. absurd (omega arith);
  at_exits = λ t b p block l. absurd (omega arith);
}

-- two uses, one at most and one at least at a place
between : (spans : List (Option Span)) (t q from to : ℕ) → from ≤ q → q ≤ to → Covers spans t from → Covers spans t to → Covers spans t q
between spans t q from to l k a b =
    let e : Some a.0 ≡ Some b.0 = sym a.1 ∙ b.1 in
    let f : a.0 ≡ b.0 = cc in
    let g : a.0.last ≡ b.0.last = ap (λ (s : Span). s.last) f in
    let x = a.2 in
    let y = b.3 in
    (a.0, a.1, omega arith, omega arith)

-- from a place on, a use that is not before it
abbrev UseFrom : (graph : List FlowBlock) (spans : List (Option Span)) (t b at : ℕ) → Type 0
UseFrom graph spans t b at = (q : ℕ) × (place_number graph b at ≤ q) × Covers spans t q

after-step : (graph : List FlowBlock) (count u : ℕ) (spans : List (Option Span)) → count ≤ u → HasLive graph count u spans → (t : ℕ) → t < count →
    (b : ℕ) (block : FlowBlock) → slice_get graph b ≡ Some block → (k at : ℕ) → at ≤ length block.steps →
    ((i : ℕ) → i ≤ length block.steps → read_within graph k b i t ≡ true → UseFrom graph spans t b i) →
    (o : Option Step) → slice_get block.steps at ≡ o → at_step block o (λ c. read_within graph k c 0 t) (read_within graph k b (suc at) t) t ≡ true →
    UseFrom graph spans t b at
after-step graph count u spans m h t few b block get k at l ih (Some s) e w =
    let i = h.has_uses.uses b block (slice_get_within graph b block get) get in
    ⊎_elim
    (λ a. (place_number graph b 0 + at, omega arith, i.reads at s e t a few))
    (λ a.
    let n = slice_get_within block.steps at s e in
    let v = ih (suc at) (omega arith) (and_parts (not (is_written s.write t)) (read_within graph k b (suc at) t) a).1 in
    let o = v.1 in
    (v.0, omega arith, v.2))
    (or_cases (has s.reads t) (not (is_written s.write t) && read_within graph k b (suc at) t) w)
after-step graph count u spans m h t few b block get k at l ih None e w =
    let i = h.has_uses.uses b block (slice_get_within graph b block get) get in
    ⊎_elim
    (λ a. (place_number graph b 0 + length block.steps, omega arith, i.exit_reads t a few))
    (λ a.
    let n = any-pick (λ c. read_within graph k c 0 t) block.next a in
    (place_number graph b (length block.steps), omega arith, h.at_exits t n.0 b block (omega arith) (k, n.2) get n.1))
    (or_cases (has block.reads t) (list_any (λ c. read_within graph k c 0 t) block.next) w)

after : (graph : List FlowBlock) (count u : ℕ) (spans : List (Option Span)) → count ≤ u → HasLive graph count u spans → (t : ℕ) → t < count →
    (b : ℕ) (block : FlowBlock) → slice_get graph b ≡ Some block → (k at : ℕ) → at ≤ length block.steps →
    read_within graph k b at t ≡ true → UseFrom graph spans t b at
after graph count u spans m h t few b block get zero at l r = absurd (false≢true r)
after graph count u spans m h t few b block get (suc k) at l r =
    after-step graph count u spans m h t few b block get k at l (λ i j w. after graph count u spans m h t few b block get k i j w)
    (slice_get block.steps at) refl (ap (λ o. at_place o at (λ c. read_within graph k c 0 t) (read_within graph k b (suc at) t) t) (sym get) ∙ r)

-- and up to it, one that is not behind it
abbrev UseTo : (graph : List FlowBlock) (spans : List (Option Span)) (t b at : ℕ) → Type 0
UseTo graph spans t b at = (q : ℕ) × (q ≤ place_number graph b at) × Covers spans t q

before-step : (graph : List FlowBlock) (count u : ℕ) (spans : List (Option Span)) → count ≤ u → HasLive graph count u spans → (t : ℕ) → t < count →
    (b : ℕ) (block : FlowBlock) → slice_get graph b ≡ Some block → (at : ℕ) → suc at ≤ length block.steps → IsLive graph b (suc at) t →
    (IsLive graph b at t → UseTo graph spans t b at) → (o : Option Step) → slice_get block.steps at ≡ o → UseTo graph spans t b (suc at)
before-step graph count u spans m h t few b block get at l w ih None e =
    let z : Some (get_or block.steps at (record { reads = []; write = None })) ≡ None =
    sym (slice_get-get_or block.steps at (record { reads = []; write = None }) (omega arith)) ∙ e in
    cc
before-step graph count u spans m h t few b block get at l w ih (Some s) e =
    let i = h.has_uses.uses b block (slice_get_within graph b block get) get in
    ⊎_elim
    (λ a. (place_number graph b 0 + at + 1, omega arith, i.writes at s e t a few))
    (λ a.
    let v = ih
    (live-here graph b at t w.0 block get
    (ap (λ o. at_step block o (λ c. read_within graph w.0 c 0 t) (read_within graph w.0 b (suc at) t) t) e
    ∙ or_right (has s.reads t) (not (is_written s.write t) && read_within graph w.0 b (suc at) t)
    (and_from (not (is_written s.write t)) (read_within graph w.0 b (suc at) t) (ap not a) w.1))) in
    let o = v.1 in
    (v.0, omega arith, v.2))
    (cases_Bool (is_written s.write t))

before : (graph : List FlowBlock) (count u : ℕ) (spans : List (Option Span)) → count ≤ u → HasLive graph count u spans → (t : ℕ) → t < count →
    (b : ℕ) (block : FlowBlock) → slice_get graph b ≡ Some block → (at : ℕ) → at ≤ length block.steps → IsLive graph b at t → UseTo graph spans t b at
before graph count u spans m h t few b block get zero l w = (place_number graph b 0, omega arith, h.at_begins t b (omega arith) w)
before graph count u spans m h t few b block get (suc at) l w =
    before-step graph count u spans m h t few b block get at l w (λ v. before graph count u spans m h t few b block get at (omega arith) v)
    (slice_get block.steps at) refl

pub live-ends : (graph : List FlowBlock) (count u : ℕ) (spans : List (Option Span)) → count ≤ u → HasLive graph count u spans → HasSpans graph count spans
live-ends graph count u spans m h = record {
  are = h.has_uses.are;
  covers = λ b at t few there used. by-block b at t few (slice_get graph b) refl there used;
}
  where
    if-written : (t : ℕ) → t < count → (b : ℕ) (block : FlowBlock) → slice_get graph b ≡ Some block → (at : ℕ) → is_just_written graph b at t ≡ true →
        Covers spans t (place_number graph b at)
    if-written t few b block get zero j = absurd (false≢true j)
    if-written t few b block get (suc at) j = by-step (slice_get block.steps at) refl (ap (λ o. written_in o at t) (sym get) ∙ j)
      where
        by-step : (o : Option Step) → slice_get block.steps at ≡ o → step_writes o t ≡ true → Covers spans t (place_number graph b (suc at))
        by-step None e w = absurd (false≢true w)
        by-step (Some s) e w =
            let i = h.has_uses.uses b block (slice_get_within graph b block get) get in
            let f : place_number graph b 0 + at + 1 ≡ place_number graph b (suc at) = omega arith in
            subst (λ v. Covers spans t v) f (i.writes at s e t w few)

    by-block : (b at t : ℕ) → t < count → (o : Option FlowBlock) → slice_get graph b ≡ o → IsPlace graph b at → InUse graph b at t →
        Covers spans t (place_number graph b at)
    by-block b at t few None e there used = absurd (subst (λ o. MatchOption o ⊥ (λ (v : FlowBlock). at ≤ length v.steps)) e there)
    by-block b at t few (Some block) e there used =
        let short : at ≤ length block.steps = subst (λ o. MatchOption o ⊥ (λ (v : FlowBlock). at ≤ length v.steps)) e there in
        ⊎_elim
        (λ w.
        let x = before graph count u spans m h t few b block e at short w in
        let y = after graph count u spans m h t few b block e w.0 at short w.1 in
        between spans t (place_number graph b at) x.0 y.0 x.1 y.1 x.2 y.2)
        (λ w. if-written t few b block e at w)
        used

pub gathered : (graph : List FlowBlock) (count : ℕ) (spans : List (Option Span)) (order : List ℕ) → HasSpans graph count spans → IsOrdered spans order →
    AreIntervals graph count spans order
gathered graph count spans order h o = record {
  long = h.are.long;
  ordered = o;
  begins = h.are.begins;
  ends = h.are.ends;
  covers = h.covers;
}

pub short-place : (graph : List FlowBlock) (b : ℕ) (block : FlowBlock) (begins exits : List ℕ) (count p : ℕ) → slice_get graph b ≡ Some block →
    p ≡ get_or begins b 0 → ArePlaces graph begins exits count → p + length block.steps < 2 ^ 63
short-place graph b block begins exits count p g e a =
    let l = slice_get_within graph b block g in
    let x = a.begins_are b l in
    let y = a.exits_are b block l g in
    let z = a.small b l in
    omega arith
