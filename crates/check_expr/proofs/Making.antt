-- Nodes that are made, as ends.
use Rattle.std.proofs.Common.{◌≡◌, ℕ, List, Option, sym, ap, ◌∙◌}
use Rattle.tl_base.specs.declared.ids.TermId.{TermId}
use Rattle.tl_base.specs.declared.ids.TypeId.{TypeId}
use Rattle.tl_base.specs.declared.place.Place.{Place}
use Rattle.tl_base.specs.declared.machine.Step.TheVariants.{Return}
use Rattle.tl_base.specs.Layer.{state}
use Rattle.tl_base.specs.Plan.{Gives}
use Rattle.tl_base.specs.Machine.{plug}
use Rattle.terra_term.specs.Held.{next_typed}
use Rattle.terra_term.specs.declared.typed.Typed.TheVariants as typed_kinds
use Rattle.terra_term.specs.declared.typed.TypedExpression.{TypedExpression}
use Rattle.terra_term.specs.declared.typed.TypedStatement.{TypedStatement}
use Rattle.check_model.specs.declared.made.Made.{Made}
use Rattle.check_model.specs.declared.end.PartEnd.TheVariants as ends
use Rattle.check_model.specs.Typing.{TypingState, made_of}
use Rattle.check_model.specs.Plans.{BodyPlan, gives, states, make}
use Rattle.check_expr.specs.declared.frame.BodyFrame.{BodyFrame}
use Rattle.check_expr.specs.Frames.{body_rules}
use Rattle.check_expr.specs.Steps.{BodyStep, Goes, with_node}
use Rattle.check_expr.proofs.Doing.{moved}

pub makes : (fs : List BodyFrame) (source : TermId) (at : Place) (of : TypeId) (form : TypedExpression) (w w2 :
    TypingState) (left : ℕ) (m : Made)
    → m ≡ made_of (next_typed w.stage.store) source at of form → w2 ≡ with_node w (typed_kinds.Expression at of form)
    → Goes fs (gives source at of form) w left fs (Return (ends.Made m)) w2 left
makes fs source at of form w w2 left m is made = λ later.
    ap (λ (n : Made). plug body_rules fs (Gives (ends.Made n) (state (with_node w (typed_kinds.Expression at of form))
    left) later)) (sym is)
    ∙ ap (λ (v : TypingState). plug body_rules fs (Gives (ends.Made m) (state v left) later)) (sym made)

pub stated : (fs : List BodyFrame) (at : Place) (form : TypedStatement) (result : Option TypeId) (w w2 : TypingState)
    (left : ℕ) (id : TermId)
    → id ≡ next_typed w.stage.store → w2 ≡ with_node w (typed_kinds.Statement at form)
    → Goes fs (states at form result) w left fs (Return (ends.Stated id result)) w2 left
stated fs at form result w w2 left id is made = λ later.
    ap (λ (n : TermId). plug body_rules fs (Gives (ends.Stated n result) (state (with_node w (typed_kinds.Statement at
    form)) left) later)) (sym is)
    ∙ ap (λ (v : TypingState). plug body_rules fs (Gives (ends.Stated id result) (state v left) later)) (sym made)

-- a node that is made on the way
pub made_then : (fs fs2 : List BodyFrame) (source : TermId) (at : Place) (of : TypeId) (form : TypedExpression) (go : Made → BodyPlan)
    (w v w2 : TypingState) (left left2 : ℕ) (m : Made) (step : BodyStep)
    → m ≡ made_of (next_typed w.stage.store) source at of form → v ≡ with_node w (typed_kinds.Expression at of form)
    → Goes fs (go m) v left fs2 step w2 left2 → Goes fs (make source at of form go) w left fs2 step w2 left2
made_then fs fs2 source at of form go w v w2 left left2 m step is made g =
    λ later. moved fs fs2 (go (made_of (next_typed w.stage.store) source at of form)) (go m)
    (with_node w (typed_kinds.Expression at of form)) v w2 left left2 step (ap go (sym is)) (sym made) g later
