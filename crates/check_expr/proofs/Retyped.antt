-- Comparisons of pointers, of which a `nil` takes the other one's type.
use Rattle.std.proofs.Common.{◌≡◌, ℕ, Bool, true, false, List, sym, ap}
use Rattle.std.specs.Prelude.{not, ◌&&◌, if◌then◌else◌}
use Rattle.terra_types.specs.Making.{same_type}
use Rattle.terra_term.specs.Held.{next_typed}
use Rattle.terra_term.specs.declared.operators.Constant.TheVariants as constants
use Rattle.terra_term.specs.declared.typed.Typed.TheVariants as typed_kinds
use Rattle.terra_term.specs.declared.typed.TypedExpression.TheVariants as te
use Rattle.exotype.specs.World.{StageState}
use Rattle.check_model.specs.declared.made.Made.{Made}
use Rattle.check_model.specs.Operators.{retyped}
use Rattle.check_model.specs.Plans.{BodyPlan, make}
use Rattle.check_model.specs.Typing.{TypingState, made_of, is_nil_made}
use Rattle.check_expr.specs.declared.frame.BodyFrame.{BodyFrame}
use Rattle.check_expr.specs.Retyping.{retyped_as, with_retyped}
use Rattle.check_expr.specs.Steps.{BodyStep, Goes, with_node}
use Rattle.check_expr.proofs.Doing.{moved, chosen}
use Rattle.check_expr.proofs.Making.{made_then}

by_test : (t : Bool) (fs fs2 : List BodyFrame) (m other x : Made) (go : Made → BodyPlan) (w v w2 : TypingState) (left
    left2 : ℕ) (step : BodyStep)
    → x ≡ (if t then made_of (next_typed w.stage.store) m.source m.at other.of (te.Constant constants.Nil) else m)
    → v ≡ (if t then with_node w (typed_kinds.Expression m.at other.of (te.Constant constants.Nil)) else w)
    → Goes fs (go x) v left fs2 step w2 left2
    → Goes fs (if t then make m.source m.at other.of (te.Constant constants.Nil) go else go m) w left fs2 step w2 left2
by_test true fs fs2 m other x go w v w2 left left2 step is made g =
    made_then fs fs2 m.source m.at other.of (te.Constant constants.Nil) go w v w2 left left2 x step is made g
by_test false fs fs2 m other x go w v w2 left left2 step is made g = moved fs fs2 (go m) (go x) w v w2 left left2 step
    (ap go (sym is)) (sym made) g

-- an operand, and what goes on with it
pub retyped_goes : (fs fs2 : List BodyFrame) (seen : StageState) (n : Bool) (m other x : Made) (go : Made → BodyPlan) (w v w2 : TypingState)
    (left left2 : ℕ) (step : BodyStep)
    → n ≡ is_nil_made seen m → x ≡ retyped_as n w m other → v ≡ with_retyped n w m other
    → Goes fs (go x) v left fs2 step w2 left2 → Goes fs (retyped seen m other go) w left fs2 step w2 left2
retyped_goes fs fs2 seen n m other x go w v w2 left left2 step tells is made g =
    chosen fs fs2 (is_nil_made seen m && not (same_type m.of other.of)) (n && not (same_type m.of other.of))
    (make m.source m.at other.of (te.Constant constants.Nil) go) (go m) w w2 left left2 step
    (ap (λ (b : Bool). b && not (same_type m.of other.of)) (sym tells))
    (by_test (n && not (same_type m.of other.of)) fs fs2 m other x go w v w2 left left2 step is made g)
