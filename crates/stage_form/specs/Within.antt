-- A layer that stands in a stage: it has a part of the stage's world, and the rest stays while it works; and its
-- questions, answers and ends are turned into those of the stage.
use Rattle.std.specs.Prelude.{List, [], ◌∷◌}
use Rattle.tl_base.specs.Layer.{State, Given, state, given, Seen, Ended, SpentAt, Asks, Meaning}
use Rattle.stage_form.specs.Stage.{after}

-- how a layer with world P, questions Q, answers A and ends E stands in a stage with W, R, B and F
pub record Fitting (W P Q R A B E F : Type 0) : Type 0 where
  pub part : W → P
  pub with_part : W → P → W
  pub question : Q → R
  pub answer : B → A
  pub end : E → F

-- what an answer gives to the layer
abbrev pub given_part : {W P Q R A B E F : Type 0} → Fitting W P Q R A B E F → Given W B → Given P A
given_part f g = given (f.answer g.answer) (f.part g.state.world) g.state.left

-- the whole state, with what the layer left of its part
abbrev pub whole : {W P Q R A B E F : Type 0} → Fitting W P Q R A B E F → W → State P → State W
whole f w s = state (f.with_part w s.world) s.left

-- what shows in the stage, and goes on from there at a question
abbrev pub seen_within : {W P Q R A B E F : Type 0} → Fitting W P Q R A B E F → W → Seen P Q E →
    (Seen W R F → Seen W R F) → Seen W R F
seen_within f w (Ended e s) go = Ended (f.end e) (whole f w s)
seen_within f w (SpentAt s) go = SpentAt (whole f w s)
seen_within f w (Asks q s) go = go (Asks (f.question q) (whole f w s))

-- a layer that has asked goes on with the answers that there are, one by one
abbrev pub answered : {W P Q R A B E F : Type 0} → Fitting W P Q R A B E F → Meaning P Q A E → List (Given W B) →
    Seen W R F → Seen W R F
answered f meaning [] asked = asked
answered f meaning (next ∷ later) asked =
    seen_within f next.state.world (meaning (given_part f next) [])
    (answered f (after meaning (given_part f next)) later)

-- a layer's meaning in the stage
abbrev pub within : {W P Q R A B E F : Type 0} → Fitting W P Q R A B E F → Meaning P Q A E → Meaning W R B F
within f meaning first later =
    seen_within f first.state.world (meaning (given_part f first) [])
    (answered f (after meaning (given_part f first)) later)
