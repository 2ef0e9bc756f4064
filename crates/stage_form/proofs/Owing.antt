-- What the layers that are suspended are held to: each began as its question demands, and waits for what its own question's layer leaves.
use Rattle.std.proofs.Common.{◌≡◌, ℕ, ◌≤◌, List, [], ◌∷◌, ◌++◌, refl, sym, ap, ◌∙◌, subst, arith}
use Rattle.tl_base.specs.Layer.{State, Given, Seen, Ended, SpentAt, Asks, Meaning, at}
use Rattle.stage_form.specs.Stage.{Stage, after}
use Rattle.stage_form.specs.Holding.{IsBackFor, AllBack, Shows, Holds, Comes, LayersHold}
use Rattle.stage_form.proofs.Reaching.{Waits, same_meaning}

-- nothing comes before the first answer
nothing-before : {A : Type 0} (before behind : List A) (x : A) → [] ≡ before ++ x ∷ behind → ⊥
nothing-before [] behind x e = cc e
nothing-before (y ∷ before) behind x e = cc e

none-back : {W Q A E : Type 0} (back : Q → State W → Given W A → Type 0) (layer : Meaning W Q A E) (first : Given W A) →
    AllBack back layer first []
none-back back layer first before behind next split = absurd (nothing-before before behind next split)

-- what a layer shows before it is answered
pub shows-first : {W Q A E : Type 0} (asked : Q → W → Type 0) (back : Q → State W → Given W A → Type 0)
    (left : E → W → Type 0)
    (layer : Meaning W Q A E) (first : Given W A) → Holds asked back left layer first → (o : Seen W Q E) → layer first [] ≡ o →
    Shows asked left o
shows-first asked back left layer first h o e = subst (Shows asked left) e (h [] (none-back back layer first))

-- what remains of a layer behind an answer holds too
holds-after : {W Q A E : Type 0} (asked : Q → W → Type 0) (back : Q → State W → Given W A → Type 0)
    (left : E → W → Type 0)
    (layer : Meaning W Q A E) (first : Given W A) (question : Q) (s : State W) (next : Given W A) →
    Holds asked back left layer first → layer first [] ≡ Asks question s → back question s next →
    Holds asked back left (after layer first) next
holds-after {W} {Q} {A} {E} asked back left layer first question s next h e b later all = h (next ∷ later) front
  where
    front : AllBack back layer first (next ∷ later)
    front [] behind x split =
        let same : next ≡ x = cc split in
        subst (λ (o : Seen W Q E). IsBackFor back o x) (sym e) (subst (λ z. back question s z) same b)
    front (y ∷ before) behind x split =
        let same : next ≡ y = cc split in
        let rest : later ≡ before ++ x ∷ behind = cc split in
        subst (λ z. IsBackFor back (layer first (z ∷ before)) x) same (all before behind x rest)

-- a layer that began for a question in a world is held to what that promises
abbrev pub Held : {W Q A E : Type 0} → Stage W Q A E → (Q → W → Type 0) → (Q → W → E → W → Type 0) → Q → W → Meaning W Q A E →
    Given W A → Type 0
Held {W} {Q} {A} {E} stage begins leaves question w layer next = Holds begins (Comes stage leaves) (leaves question w) layer next

-- it is so with whatever its own question's layer leaves
abbrev pub HeldWith : {W Q A E : Type 0} → Stage W Q A E → (Q → W → Type 0) → (Q → W → E → W → Type 0) → Q → W → Meaning W Q A E →
    Q → State W → Type 0
HeldWith {W} {Q} {A} {E} stage begins leaves question w layer asked s =
    (next : Given W A) → Comes stage leaves asked s next → Held stage begins leaves question w layer next

-- a layer that has asked, and is held to a question
pub record Owes {L W Q A E : Type 0} (stage : Stage W Q A E) (begins : Q → W → Type 0) (leaves : Q → W → E → W → Type 0)
    (rest : L → Meaning W Q A E) (fits : L → Given W A → Type 0) (follows : Q → State W → Given W A → Type 0) (keeps : W → W → Type 0)
    (question : Q) (w : W) (l : L) (now : State W) : Type 0 where
  pub waits : Waits fits follows keeps l now
  pub held : HeldWith stage begins leaves question w (rest l) waits.question waits.asked

-- layers, the lowest of which began for the first question, and each other for the question of the one below it; the last of them has
-- asked this question in this world
abbrev pub AllOwe : {L W Q A E : Type 0} → Stage W Q A E → (Q → W → Type 0) → (Q → W → E → W → Type 0) →
    (L → Meaning W Q A E) → (L → Given W A → Type 0) → (Q → State W → Given W A → Type 0) → (W → W → Type 0) →
    Q → W → List L → Q → W → State W → Type 0
AllOwe stage begins leaves rest fits follows keeps q0 w0 [] q w now = (q0 ≡ q) × (w0 ≡ w)
AllOwe stage begins leaves rest fits follows keeps q0 w0 (l ∷ ls) q w now =
    (o : Owes stage begins leaves rest fits follows keeps q0 w0 l now) ×
    AllOwe stage begins leaves rest fits follows keeps o.waits.question o.waits.asked.world ls q w now

module _ {L W Q A E : Type 0} (stage : Stage W Q A E) (begins : Q → W → Type 0) (leaves : Q → W → E → W → Type 0)
    (rest : L → Meaning W Q A E) (fits : L → Given W A → Type 0) (follows : Q → State W → Given W A → Type 0) (keeps : W → W → Type 0) where
  pub owe-push : (q0 : Q) (w0 : W) (ls : List L) (q : Q) (w : W) (l : L) (now : State W) →
      AllOwe stage begins leaves rest fits follows keeps q0 w0 ls q w now →
      (o : Owes stage begins leaves rest fits follows keeps q w l now) →
      AllOwe stage begins leaves rest fits follows keeps q0 w0 (ls ++ l ∷ []) o.waits.question o.waits.asked.world now
  owe-push q0 w0 [] q w l now a o = rw (a.0, a.1) (o, (refl, refl))
  owe-push q0 w0 (k ∷ ls) q w l now a o = (a.0, owe-push a.0.waits.question a.0.waits.asked.world ls q w l now a.1 o)

  -- the last of them, and the question and the world for which it began
  pub record Last (q0 : Q) (w0 : W) (ls : List L) (q : Q) (w : W) (l : L) (now : State W) : Type 0 where
    pub question : Q
    pub begun : W
    pub below : AllOwe stage begins leaves rest fits follows keeps q0 w0 ls question begun now
    pub owes : Owes stage begins leaves rest fits follows keeps question begun l now
    pub asked : owes.waits.question ≡ q
    pub there : owes.waits.asked.world ≡ w

  pub owe-pop : (q0 : Q) (w0 : W) (ls : List L) (q : Q) (w : W) (l : L) (now : State W) →
      AllOwe stage begins leaves rest fits follows keeps q0 w0 (ls ++ l ∷ []) q w now → Last q0 w0 ls q w l now
  owe-pop q0 w0 [] q w l now a = record { question = q0; begun = w0; below = (refl, refl); owes = a.0; asked = a.1.0; there = a.1.1 }
  owe-pop q0 w0 (k ∷ ls) q w l now a =
      let r = owe-pop a.0.waits.question a.0.waits.asked.world ls q w l now a.1 in
      record { question = r.question; begun = r.begun; below = (a.0, r.below); owes = r.owes; asked = r.asked; there = r.there }

  -- a turn keeps them waiting
  pub owe-on : ((u v w : W) → keeps u v → keeps v w → keeps u w) → (q0 : Q) (w0 : W) (ls : List L) (q : Q) (w : W) (s t : State W) →
      keeps s.world t.world → t.left ≤ s.left → AllOwe stage begins leaves rest fits follows keeps q0 w0 ls q w s →
      AllOwe stage begins leaves rest fits follows keeps q0 w0 ls q w t
  owe-on keeps_on q0 w0 [] q w s t k p a = a
  owe-on keeps_on q0 w0 (l ∷ ls) q w s t k p a =
      let o = a.0.waits in (
        record {
          waits = record {
            question = o.question;
            asked = o.asked;
            fits_next = o.fits_next;
            kept = keeps_on o.asked.world s.world t.world o.kept k;
            paid = omega (arith, o.paid, p);
          };
          held = a.0.held;
        },
        owe-on keeps_on o.question o.asked.world ls q w s t k p a.1,
      )

  -- a layer that begins
  pub begins-held : LayersHold stage begins leaves → (q : Q) (s : State W) (l : L) → begins q s.world →
      ((first : Given W A) (later : List (Given W A)) → rest l first later ≡ stage.meaning q first later) →
      Held stage begins leaves q s.world (rest l) (at stage.go s)
  begins-held each q s l begin means =
      subst (λ m. Held stage begins leaves q s.world m (at stage.go s)) (sym (same_meaning (rest l) (stage.meaning q) means))
      (each q (at stage.go s) begin)

  -- a layer that asked
  pub asks-held : (q : Q) (w : W) (old new : L) (first : Given W A) (asked : Q) (s : State W) →
      Held stage begins leaves q w (rest old) first → rest old first [] ≡ Asks asked s →
      ((next : Given W A) (later : List (Given W A)) → rest old first (next ∷ later) ≡ rest new next later) →
      HeldWith stage begins leaves q w (rest new) asked s
  asks-held q w old new first asked s h turn law next came =
      subst (λ m. Held stage begins leaves q w m next) (same_meaning (after (rest old) first) (rest new) law)
      (holds-after begins (Comes stage leaves) (leaves q w) (rest old) first asked s next h turn came)

  pub asked-begins : (q : Q) (w : W) (l : L) (first : Given W A) (asked : Q) (s : State W) →
      Held stage begins leaves q w (rest l) first → rest l first [] ≡ Asks asked s → begins asked s.world
  asked-begins q w l first asked s h turn =
      shows-first begins (Comes stage leaves) (leaves q w) (rest l) first h (Asks asked s) turn

  pub ended-leaves : (q : Q) (w : W) (l : L) (first : Given W A) (e : E) (s : State W) →
      Held stage begins leaves q w (rest l) first → rest l first [] ≡ Ended e s → leaves q w e s.world
  ended-leaves q w l first e s h turn =
      shows-first begins (Comes stage leaves) (leaves q w) (rest l) first h (Ended e s) turn

-- the layer that is at work, and those below it, are held to their questions
pub record AreHeld {L W Q A E : Type 0} (stage : Stage W Q A E) (begins : Q → W → Type 0) (leaves : Q → W → E → W → Type 0)
    (rest : L → Meaning W Q A E) (fits : L → Given W A → Type 0) (follows : Q → State W → Given W A → Type 0) (keeps : W → W → Type 0)
    (q0 : Q) (w0 : W) (ls : List L) (l : L) (next : Given W A) : Type 0 where
  pub asked : Q
  pub begun : W
  pub held : Held stage begins leaves asked begun (rest l) next
  pub below : AllOwe stage begins leaves rest fits follows keeps q0 w0 ls asked begun next.state
