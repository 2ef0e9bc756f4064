-- Where each layer of a stage holds, what a question comes to is what its layer promises.
use Rattle.std.proofs.Common.{◌≡◌, ℕ, zero, suc, List, [], ◌∷◌, ◌++◌, Option, Some, None, refl, sym, subst}
use Rattle.tl_base.specs.Layer.{State, Given, Seen, Ended, SpentAt, Asks, Meaning, at}
use Rattle.stage_form.specs.Stage.{Stage, Final, Finished, Exhausted, after, on_question, on_end, fed, staged}
use Rattle.stage_form.specs.Holding.{IsBackFor, AllBack, Shows, Holds, Comes, LayersHold}

none-apart : {A : Type 0} (x : A) → ◌≡◌ {A = Option A} None (Some x) → ⊥
none-apart x e = cc e

spent-apart : {W E : Type 0} (s t : State W) (e : E) →
    ◌≡◌ {A = Option (Final W E)} (Some (Exhausted s)) (Some (Finished e t)) → ⊥
spent-apart s t e h = cc h

-- nothing comes before the first answer
nothing-before : {A : Type 0} (before behind : List A) (x : A) → [] ≡ before ++ x ∷ behind → ⊥
nothing-before [] behind x e = cc e
nothing-before (y ∷ before) behind x e = cc e

pub none-back : {W Q A E : Type 0} (back : Q → State W → Given W A → Type 0) (layer : Meaning W Q A E) (first : Given W A) →
    AllBack back layer first []
none-back back layer first before behind next split = absurd (nothing-before before behind next split)

-- what a layer shows before it is answered
pub shows-first : {W Q A E : Type 0} (asked : Q → W → Type 0) (back : Q → State W → Given W A → Type 0)
    (left : E → W → Type 0)
    (layer : Meaning W Q A E) (first : Given W A) → Holds asked back left layer first → (o : Seen W Q E) → layer first [] ≡ o →
    Shows asked left o
shows-first asked back left layer first h o e = subst (Shows asked left) e (h [] (none-back back layer first))

-- what remains of a layer behind an answer holds too
pub holds-after : {W Q A E : Type 0} (asked : Q → W → Type 0) (back : Q → State W → Given W A → Type 0)
    (left : E → W → Type 0)
    (layer : Meaning W Q A E) (first : Given W A) (question : Q) (s : State W) (next : Given W A) →
    Holds asked back left layer first → layer first [] ≡ Asks question s → back question s next →
    Holds asked back left (after layer first) next
holds-after {W} {Q} {A} {E} asked back left layer first question s next h e b later all = h (next ∷ later) front
  where
    front : AllBack back layer first (next ∷ later)
    front [] behind x split =
        let same : next ≡ x = cc split in
        subst (λ (o : Seen W Q E). IsBackFor back o x) (sym e) (subst (λ z. back question s z) same b)
    front (y ∷ before) behind x split =
        let same : next ≡ y = cc split in
        let rest : later ≡ before ++ x ∷ behind = cc split in
        subst (λ z. IsBackFor back (layer first (z ∷ before)) x) same (all before behind x rest)

module _ {W Q A E : Type 0} (stage : Stage W Q A E) (begins : Q → W → Type 0) (leaves : Q → W → E → W → Type 0)
    (each : LayersHold stage begins leaves) where
  abbrev Held : (E → W → Type 0) → Meaning W Q A E → Given W A → Type 0
  Held left layer first = Holds begins (Comes stage leaves) left layer first

  finished-is : (left : E → W → Type 0) (e end : E) (s t : State W) → left e s.world →
      ◌≡◌ {A = Option (Final W E)} (Some (Finished e s)) (Some (Finished end t)) → left end t.world
  finished-is left e end s t h is =
      let ee : e ≡ end = cc is in
      let es : s ≡ t = cc is in
      subst (λ x. left x t.world) ee (subst (λ x. left e x.world) es h)

  -- what a question came to, and what its answer comes to
  asked-so : (left : E → W → Type 0) (question : Q) (s : State W) (end : E) (t : State W) →
      (o : Option (Final W E)) (go : E → State W → Option (Final W E)) →
      ((e : E) (x : State W) → o ≡ Some (Finished e x) → go e x ≡ Some (Finished end t) → left end t.world) →
      on_end o go ≡ Some (Finished end t) → left end t.world
  asked-so left question s end t None go k is = absurd (none-apart (Finished end t) is)
  asked-so left question s end t (Some (Finished e x)) go k is = k e x refl is
  asked-so left question s end t (Some (Exhausted x)) go k is = absurd (spent-apart x t end is)

  seen-so : (left : E → W → Type 0) (end : E) (t : State W) (o : Seen W Q E) (go : Q → State W → Option (Final W E)) →
      Shows begins left o →
      ((question : Q) (s : State W) → o ≡ Asks question s → begins question s.world → go question s ≡ Some (Finished end t) →
      left end t.world) →
      on_question o go ≡ Some (Finished end t) → left end t.world
  seen-so left end t (Ended e s) go h k is = finished-is left e end s t h is
  seen-so left end t (SpentAt s) go h k is = absurd (spent-apart s t end is)
  seen-so left end t (Asks question s) go h k is = k question s refl h is

  fed-holds : (n : ℕ) (left : E → W → Type 0) (layer : Meaning W Q A E) (first : Given W A) → Held left layer first →
      (end : E) (t : State W) → fed stage n layer first ≡ Some (Finished end t) → left end t.world
  unfolding fed
  fed-holds zero left layer first h end t is = absurd (none-apart (Finished end t) is)
  fed-holds (suc n) left layer first h end t is =
      seen-so left end t (layer first []) (λ q s.
      on_end (fed stage n (stage.meaning q) (at stage.go s)) (λ e s'.
      fed stage n (after layer first) (at (stage.answer_of e) s')))
      (shows-first begins (Comes stage leaves) left layer first h (layer first []) refl)
      (λ q s asks begin came.
      asked-so left q s end t (fed stage n (stage.meaning q) (at stage.go s))
      (λ e s'. fed stage n (after layer first) (at (stage.answer_of e) s'))
      (λ e x inner outer.
      let answered : leaves q s.world e x.world =
      fed-holds n (leaves q s.world) (stage.meaning q) (at stage.go s) (each q (at stage.go s) begin) e x inner in
      fed-holds n left (after layer first) (at (stage.answer_of e) x)
      (holds-after begins (Comes stage leaves) left layer first q s (at (stage.answer_of e) x) h asks
      (e, (refl, answered))) end t outer) came) is

  -- what a question comes to
  pub staged-holds : (n : ℕ) (question : Q) (s : State W) → begins question s.world → (end : E) (t : State W) →
      staged stage n question s ≡ Some (Finished end t) → leaves question s.world end t.world
  staged-holds n question s begin end t is =
      fed-holds n (leaves question s.world) (stage.meaning question) (at stage.go s)
      (each question (at stage.go s) begin) end t is
