-- What asks Lua, and what its answers give.
use Rattle.std.specs.Prelude.{ℕ, List, Option, Some, None}
use Rattle.tl_base.specs.declared.ids.TermId.{TermId}
use Rattle.tl_base.specs.declared.ids.TextId.{TextId}
use Rattle.tl_base.specs.declared.ids.TypeId.{TypeId}
use Rattle.tl_base.specs.declared.place.Place.{Place}
use Rattle.lua_value.specs.declared.value.Value.{Value}
use Rattle.lua_value.specs.declared.value.Value.TheVariants as values
use Rattle.lua_table.specs.Cells.{first_value}
use Rattle.terra_term.specs.declared.store.Quote.TheVariants as quotes
use Rattle.terra_term.specs.Held.{next_quote, with_quote}
use Rattle.exotype.specs.World.{StageState, with_store}
use Rattle.exotype.specs.Properties.{known_of, with_known}
use Rattle.exotype.specs.declared.property.Known.{Known}
use Rattle.exotype.specs.declared.property.Property.TheVariants.{Method}
use Rattle.check_model.specs.declared.made.Made.{Made}
use Rattle.check_model.specs.declared.site.Site.{Site}
use Rattle.check_model.specs.declared.question.CheckAnswer.{CheckAnswer}
use Rattle.check_model.specs.declared.question.CheckAnswer.TheVariants as answers
use Rattle.check_model.specs.Typing.{TypingState}
use Rattle.check_model.specs.Plans.{BodyPlan, becoming}
use Rattle.check_model.specs.Expressions.{settled_as}
use Rattle.check_expr.specs.declared.asking.Spliced.{Spliced}
use Rattle.check_expr.specs.declared.asking.Spliced.TheVariants as spliced
use Rattle.check_expr.specs.declared.frame.BodyFrame.{BodyFrame}
use Rattle.check_expr.specs.Steps.{BodyStep, Goes, Does, with_stage}

-- the next quote, and the store with it as a typed quote of this
abbrev pub next_value : TypingState → Value
next_value w = values.Quote (next_quote w.stage.store)

abbrev pub with_quoted : TypingState → Made → TypingState
with_quoted w m = with_stage w (with_store w.stage (with_quote w.stage.store (quotes.Typed m.source m.id)))

-- what Lua code gave
abbrev pub value_in : CheckAnswer → Option Value
value_in (answers.Values vs) = Some (first_value vs)
value_in _ = None

-- the world of the staging with what is known of a method
abbrev pub with_method : StageState → TypeId → TextId → Known → StageState
with_method w s name k = record w { kept = with_known w.kept (Method s name) k }

-- the same where it is being asked for
abbrev pub with_settled : StageState → TypeId → TextId → Known → StageState
with_settled w s name k = record w { kept = settled_as (known_of w.kept (Method s name)) w.kept s name k }

-- a plan that goes on with the term that a value becomes does what it does with this term, or ends by this step
abbrev pub Splices : Value → Place → Site → TypingState → ℕ → Spliced → TypingState → ℕ → Type 0
Splices v at site w left (spliced.Term t) w2 left2 =
    (go : TermId → BodyPlan) (fs fs3 : List BodyFrame) (step : BodyStep) (w3 : TypingState) (left3 : ℕ)
    → Goes fs (go t) w2 left2 fs3 step w3 left3 → Goes fs (becoming v at site go) w left fs3 step w3 left3
Splices v at site w left (spliced.Ended step) w2 left2 = (go : TermId → BodyPlan) → Does (becoming v at site go) w left step w2 left2
