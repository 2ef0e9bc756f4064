-- What was counted stays so: each function that was counted has its body for ever, and what this mentions was counted too.
use Rattle.std.proofs.Common.{◌≡◌, ℕ, zero, suc, ◌+◌, true, List, [], ◌∷◌, None, Some, refl, sym, ap, ◌∙◌, slice_get}
use Rattle.std.specs.Prelude.{◌==◌, ◌⊎◌}
use mathlib.Core.Logic.{inl, inr}
use Rattle.std.proofs.lemmas.Bool.{eqb-true, eq-eqb, or_cases, or_left, or_right}
use Rattle.tl_base.specs.declared.ids.FnId.{FnId}
use Rattle.tl_base.specs.declared.ids.TermId.{TermId}
use Rattle.terra_term.specs.Held.{state_of, typed_in}
use Rattle.terra_term.specs.Stores.{contents_of, callable_of}
use Rattle.exotype.specs.World.{StageState}
use Rattle.check_model.specs.declared.job.Reached.{Reached}
use Rattle.check_model.specs.Typing.{function_at}
use Rattle.check_model.specs.Checks.{was_reached}
use Rattle.check_sound.specs.Sound.{IsSound, typed_body}
use Rattle.check_sound.specs.Exports.{Stands, numbered, body_nodes, nodes_in, IsClosed}
use Rattle.check_sound.specs.Layers.{CountedStay}
use Rattle.check_sound.proofs.Tests.{none-some, same-some, no}
use Rattle.check_sound.proofs.Foreseen.{body-item}
use Rattle.check_sound.proofs.Knowing.{called-as}
use Rattle.check_sound.proofs.Grows.{Grows}
use Rattle.check_sound.proofs.Adding.{body-kept}
use Rattle.check_sound.proofs.Reaching.{Visited, visited-grows, ready, typed-as}
use Rattle.check_sound.proofs.Lasting.{callable-typed}

-- ---- counted functions as a queue

abbrev queue_of : List ℕ → List Reached
queue_of [] = []
queue_of (f ∷ fs) = record { function = numbered f; by = None } ∷ queue_of fs

in-queue : (fs : List ℕ) (k f : ℕ) → slice_get fs k ≡ Some f → was_reached (numbered f) (queue_of fs) ≡ true
in-queue [] k f at = absurd (none-some f at)
in-queue (x ∷ fs) zero f at = or_left _ _ (eq-eqb f x (sym (same-some x f at)))
in-queue (x ∷ fs) (suc k) f at = or_right (f == x) _ (in-queue fs k f at)

from-queue : (fs : List ℕ) (g : FnId) → was_reached g (queue_of fs) ≡ true → Stands fs g.0
from-queue [] g h = absurd (no h)
from-queue (x ∷ fs) g h = by (λ e. from-queue fs g e) (or_cases (g.0 == x) (was_reached g (queue_of fs)) h)
  where
    by : (was_reached g (queue_of fs) ≡ true → Stands fs g.0) →
        ((g.0 == x) ≡ true) ⊎ (was_reached g (queue_of fs) ≡ true) → Stands (x ∷ fs) g.0
    by behind (inl e) = (zero, ap (λ n. Some n) (sym (eqb-true g.0 x e)))
    by behind (inr e) = let s = behind e in (suc s.0, s.1)

closed-visited : (w : StageState) (fs : List ℕ) (f : FnId) → IsClosed w fs f.0 → Visited w (queue_of fs) f
closed-visited w fs f d =
    let t = callable-typed w f d.callable.0 d.callable.1 (function_at w f) refl in
    record {
      made = t.made;
      is = t.is;
      mentions = λ i m at. let s = d.mentions i m at in in-queue fs s.0 m.1.0 s.1;
    }

-- ---- their nodes

-- a function that is typed keeps its body
same-nodes : (w v : StageState) → IsSound w → Grows w v → (f : FnId) (made : TermId) →
    typed_in (state_of w.store f) ≡ Some made →
    body_nodes (callable_of (contents_of v.store) f) ≡ body_nodes (callable_of (contents_of w.store) f)
same-nodes w v sound g f made h =
    let old = typed-as w f made h in
    let new = typed-as v f made ((g.functions f).typed made h) in
    let has = sound.typed_bodies f old.term made old.function old.at old.is in
    let there : typed_body v made ≡ Some has.body = body-kept w v g.typed_nodes made has.body has.there in
    ap body_nodes (called-as (contents_of v.store) f new.function made has.body new.at (ap typed_in new.is)
    (body-item v made has.body there)) ∙
    sym (ap body_nodes (called-as (contents_of w.store) f old.function made has.body old.at (ap typed_in old.is)
    (body-item w made has.body has.there)))

nodes-same : (w v : StageState) (fs : List ℕ) →
    ((k f : ℕ) → slice_get fs k ≡ Some f →
    body_nodes (callable_of (contents_of v.store) (numbered f)) ≡
    body_nodes (callable_of (contents_of w.store) (numbered f))) →
    nodes_in v fs ≡ nodes_in w fs
nodes-same w v [] h = refl
nodes-same w v (f ∷ fs) h =
    ap (λ n. n + nodes_in v fs) (h zero f refl) ∙
    ap (λ n. body_nodes (callable_of (contents_of w.store) (numbered f)) + n)
    (nodes-same w v fs (λ k x at. h (suc k) x at))

-- ---- the law

pub counted-stays : CountedStay
counted-stays v exports fs nodes sound c = record {
  exported = c.counted.exported;
  once = c.counted.once;
  closed = λ k f at. closed f (in-queue fs k f at);
  sum = nodes-same c.then v fs (λ k f at. same f (c.counted.closed k f at)) ∙ c.counted.sum;
  most = c.counted.most;
}
  where
    was : (g : FnId) → was_reached g (queue_of fs) ≡ true → Visited c.then (queue_of fs) g
    was g h = let s = from-queue fs g h in closed-visited c.then fs g (c.counted.closed s.0 g.0 s.1)

    all : (g : FnId) → was_reached g (queue_of fs) ≡ true → Visited v (queue_of fs) g
    all g h = visited-grows c.then v c.sound sound c.grows (queue_of fs) g (was g h)

    closed : (f : ℕ) → was_reached (numbered f) (queue_of fs) ≡ true → IsClosed v fs f
    closed f h =
        let r = ready v sound (queue_of fs) all (numbered f) h in
        record { callable = r.callable; mentions = λ i m at. from-queue fs m.1 (r.reached i m at) }

    same : (f : ℕ) → IsClosed c.then fs f →
        body_nodes (callable_of (contents_of v.store) (numbered f)) ≡
        body_nodes (callable_of (contents_of c.then.store) (numbered f))
    same f d =
        let y = closed-visited c.then fs (numbered f) d in
        same-nodes c.then v c.sound c.grows (numbered f) y.made y.is
