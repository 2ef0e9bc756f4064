-- How a layout goes on with the answer that it waited for.
use Rattle.std.specs.Prelude.{List}
use Rattle.tl_base.specs.declared.place.Place.{Place}
use Rattle.tl_base.specs.declared.ids.TypeId.{TypeId}
use Rattle.tl_base.specs.Machine.{Rules}
use Rattle.tl_base.specs.Plan.{Give, Read}
use Rattle.terra_types.specs.declared.layout.Entry.{Entry}
use Rattle.terra_types.specs.Sizes.{size_of}
use Rattle.terra_types.specs.Layouts.{layout_of}
use Rattle.lua_value.specs.declared.value.Value.{Value}
use Rattle.exotype.specs.World.{StageState}
use Rattle.check_model.specs.declared.job.LayoutTask.{LayoutTask}
use Rattle.check_model.specs.declared.end.LayoutEnd.{LayoutEnd}
use Rattle.check_model.specs.declared.question.LayoutQuestion.{LayoutQuestion}
use Rattle.check_model.specs.declared.question.CheckAnswer.{CheckAnswer}
use Rattle.check_model.specs.declared.question.CheckAnswer.TheVariants as answers
use Rattle.check_model.specs.Layouts.{LayoutPlan, layout_first, layout_job, keep, on_part, on_values, parts_of, unless_settled, sized}
use Rattle.check_model.specs.Layouts.{close_layout}
use Rattle.check_flow.specs.declared.layout_frame.LayoutFrame.{LayoutFrame}
use Rattle.check_flow.specs.declared.layout_frame.LayoutFrame.TheVariants as frames
pub use Rattle.check_model.specs.Bodies.{is_go}

-- the entries that are left, and the settling of the struct behind them
abbrev pub parts_from : TypeId → Value → (left all : List Entry) → Place → LayoutPlan
parts_from t v xs all at = parts_of t xs at (Read (λ w. unless_settled w t v (layout_of w.store.types all)))

abbrev pub after : LayoutFrame → CheckAnswer → LayoutPlan
after (frames.Asked t at) a = on_values a t at
after (frames.Part t v xs all at) a = on_part a (keep t) (parts_from t v xs all at)
after (frames.Elements t) a = on_part a (λ kind. Give (answers.NoLayout kind)) (Read (λ w. sized (size_of w.store.types t)))

-- a frame goes on with the answer itself
abbrev pub reply : CheckAnswer → CheckAnswer
reply a = a

-- the language of layouts
abbrev pub layout_rules : Rules LayoutTask (Unit {0}) StageState LayoutQuestion CheckAnswer CheckAnswer LayoutEnd LayoutFrame
layout_rules = record { first = layout_first; plan = layout_job; after = after; reply = reply; close = close_layout }
