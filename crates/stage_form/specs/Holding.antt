-- What holds of a layer, whatever it is answered: its questions are such that they may be asked, and it leaves what it should.
use Rattle.std.specs.Prelude.{◌≡◌, List, ◌∷◌, ◌++◌}
use Rattle.tl_base.specs.Layer.{State, Given, Seen, Ended, SpentAt, Asks, Meaning}
use Rattle.stage_form.specs.declared.staging.Outcome.{Outcome}
use Rattle.stage_form.specs.declared.staging.Outcome.TheVariants.{Ends, Spent}
use Rattle.stage_form.specs.Stage.{Stage}

abbrev pub IsBackFor : {W Q A E : Type 0} → (Q → State W → Given W A → Type 0) → Seen W Q E → Given W A → Type 0
IsBackFor back (Asks question s) next = back question s next
IsBackFor back (Ended end s) next = Unit {0}
IsBackFor back (SpentAt s) next = Unit {0}

-- each answer is back for the question at which the layer stands with the answers before it
abbrev pub AllBack : {W Q A E : Type 0} → (Q → State W → Given W A → Type 0) → Meaning W Q A E → Given W A →
    List (Given W A) → Type 0
AllBack {W} {Q} {A} {E} back layer first later =
    (before after : List (Given W A)) (next : Given W A) → later ≡ before ++ next ∷ after →
    IsBackFor back (layer first before) next

abbrev pub Shows : {W Q E : Type 0} → (Q → W → Type 0) → (E → W → Type 0) → Seen W Q E → Type 0
Shows asked left (Asks question s) = asked question s.world
Shows asked left (Ended end s) = left end s.world
Shows asked left (SpentAt s) = Unit {0}

-- what may be asked, what an answer brings back, and what is left
abbrev pub Holds : {W Q A E : Type 0} → (Q → W → Type 0) → (Q → State W → Given W A → Type 0) → (E → W → Type 0) →
    Meaning W Q A E → Given W A → Type 0
Holds {W} {Q} {A} {E} asked back left layer first =
    (later : List (Given W A)) → AllBack back layer first later → Shows asked left (layer first later)

-- ---- stages

-- an answer is what an end of the question's layer is, and brings what that left
abbrev pub Comes : {W Q A E : Type 0} → Stage W Q A E → (Q → W → E → W → Type 0) → Q → State W → Given W A → Type 0
Comes {W} {Q} {A} {E} stage leaves question s next =
    (end : E) × ((next.answer ≡ stage.answer_of end) × leaves question s.world end next.state.world)

-- each layer, where it begins as its question may be asked, asks so too, and leaves what its question promises
abbrev pub LayersHold : {W Q A E : Type 0} → Stage W Q A E → (Q → W → Type 0) → (Q → W → E → W → Type 0) → Type 0
LayersHold {W} {Q} {A} {E} stage begins leaves =
    (question : Q) (first : Given W A) → begins question first.state.world →
    Holds begins (Comes stage leaves) (leaves question first.state.world) (stage.meaning question) first

-- a fact of an end
abbrev pub OnEnds : {E : Type 0} → Outcome E → (E → Type 0) → Type 0
OnEnds (Ends e) P = P e
OnEnds Spent P = Unit {0}
