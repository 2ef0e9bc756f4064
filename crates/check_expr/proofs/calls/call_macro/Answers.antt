use Rattle.std.proofs.Common.{List, [], refl, sym, ap, ◌∙◌}
use Rattle.tl_base.specs.declared.ids.ClosureId.{ClosureId}
use Rattle.lua_value.specs.declared.value.Value.{Value}
use Rattle.lua_value.specs.declared.value.Value.TheVariants as values
use Rattle.lua_table.specs.Heap.{macro_at}
use Rattle.check_model.specs.Plans.{BodyPlan, quotes_of, calling, in_place, give}
use Rattle.check_model.specs.Typing.{TypingState}
use Rattle.check_expr.proofs.Doing.{moved}
use Rattle.tl_base.proofs.Results.{carried}
use Rattle.check_expr.proofs.calls.call_macro.Goals as goal

pub returns : goal.returns
returns c =
    let a = c.args in
    let n = a.node in
    let w = a.typing.now in
    let fs = a.frames.now.items in
    let fs2 = c.quotes_left.new.frames.items in
    let plan : ClosureId → List Value → BodyPlan = λ f vs.
    quotes_of a.operands n.site vs (λ given. calling (values.Closure f) given n.at n.site (λ v. in_place v n.at n.site give)) in
    record {
      means = carried _ _ c.quotes_left.result c.quotes_left.ensures.means (λ step g left.
          moved fs fs2 (plan (macro_at w.stage.heap a.id) []) (plan c.macro_function.result c.new.result) w w w left left step
          (ap (λ (f : ClosureId). plan f []) (ap (λ (v : TypingState). macro_at v.stage.heap a.id) (sym c.typing.view_is)
          ∙ sym c.macro_function.ensures)
          ∙ ap (plan c.macro_function.result) (sym c.new.ensures)) refl
          (g w left));
    }
