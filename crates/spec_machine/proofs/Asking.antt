-- Questions below a frame that waits for a value, or for what is emitted.
use Rattle.std.proofs.Common.{◌≡◌, ℕ, List, [], ◌∷◌, ◌++◌, refl, ap, ◌∙◌}
use Rattle.tl_base.specs.declared.place.Place.{Place}
use Rattle.tl_base.specs.declared.machine.Step.TheVariants.{Stop}
use Rattle.tl_base.specs.Layer.{State, state}
use Rattle.tl_base.specs.Plan.{AskFor, run}
use Rattle.tl_base.specs.Machine.{plug}
use Rattle.tl_tree.specs.Code.{Items}
use Rattle.exotype.specs.World.{StageState}
use Rattle.spec_model.specs.declared.question.SpecQuestion.{SpecQuestion}
use Rattle.spec_model.specs.declared.question.SpecAnswer.{SpecAnswer}
use Rattle.spec_model.specs.declared.question.SpecAnswer.TheVariants as answers
use Rattle.spec_model.specs.Plans.{SpecPlan, on_value, on_values}
use Rattle.spec_model.specs.Meaning.{SpecGiven}
use Rattle.spec_model.specs.Statements.{each_spliced, joined}
use Rattle.spec_machine.specs.declared.frame.SpecFrame.{SpecFrame}
use Rattle.spec_machine.specs.declared.frame.SpecFrame.TheVariants as frames
use Rattle.spec_machine.specs.declared.frame.ValueFrame.{ValueFrame}
use Rattle.spec_machine.specs.Frames.{after, spec_rules, reply, with_value}
use Rattle.spec_machine.specs.Steps.{Goes}
use Rattle.spec_machine.proofs.Doing.{jobs_of, asks}

value_after : (items : Items) (f : ValueFrame) (a : SpecAnswer) → on_value a (with_value items f) ≡ after items (frames.Value f) (reply a)
value_after items f answers.Go = refl
value_after items f (answers.Values vs) = refl
value_after items f (answers.Raise v place) = refl

asked_value : (items : Items) (f : ValueFrame) (q : SpecQuestion) (s : State StageState) (later : List SpecGiven)
    → run (jobs_of items) (AskFor q (λ a. on_value a (with_value items f))) s later
    ≡ run (jobs_of items) (AskFor q (λ a. after items (frames.Value f) (reply a))) s later
asked_value items f q s [] = refl
asked_value items f q s (a ∷ later) = ap (λ (p : SpecPlan). run (jobs_of items) p a.state later) (value_after items f a.answer)

-- a question below a frame that waits for a value
pub asks_value : (items : Items) (fs pushed : List SpecFrame) (f : ValueFrame) (q : SpecQuestion) (w : StageState) (left : ℕ)
    → pushed ≡ fs ++ frames.Value f ∷ []
    → Goes items fs (AskFor q (λ a. on_value a (with_value items f))) w left pushed (Stop q) w left
asks_value items fs pushed f q w left is = λ later.
    ap (plug (spec_rules items) fs) (asked_value items f q (state w left) later)
    ∙ asks items fs pushed (frames.Value f) q w left is later

emitted_after : (items : Items) (place : Place) (a : SpecAnswer)
    → on_values a (λ vs. each_spliced vs place [] joined) ≡ after items (frames.Emitted place) (reply a)
emitted_after items place answers.Go = refl
emitted_after items place (answers.Values vs) = refl
emitted_after items place (answers.Raise v at) = refl

asked_emitted : (items : Items) (place : Place) (q : SpecQuestion) (s : State StageState) (later : List SpecGiven)
    → run (jobs_of items) (AskFor q (λ a. on_values a (λ vs. each_spliced vs place [] joined))) s later
    ≡ run (jobs_of items) (AskFor q (λ a. after items (frames.Emitted place) (reply a))) s later
asked_emitted items place q s [] = refl
asked_emitted items place q s (a ∷ later) = ap (λ (p : SpecPlan). run (jobs_of items) p a.state later) (emitted_after items place a.answer)

-- a question below a frame that waits for what is emitted
pub asks_emitted : (items : Items) (fs pushed : List SpecFrame) (place : Place) (q : SpecQuestion) (w : StageState) (left : ℕ)
    → pushed ≡ fs ++ frames.Emitted place ∷ []
    → Goes items fs (AskFor q (λ a. on_values a (λ vs. each_spliced vs place [] joined))) w left pushed (Stop q) w left
asks_emitted items fs pushed place q w left is = λ later.
    ap (plug (spec_rules items) fs) (asked_emitted items place q (state w left) later)
    ∙ asks items fs pushed (frames.Emitted place) q w left is later
