use Rattle.std.proofs.Common.{refl}
use Rattle.tl_tree.specs.Arena.{items_of}
use Rattle.lua_model.specs.Plans.{value_of}
use Rattle.lua_model.specs.Operators.{operate}
use Rattle.lua_eval.specs.Frames.{with_left}
use Rattle.lua_eval.proofs.Below.{moved}
use Rattle.lua_eval.proofs.Counting.{left_other}
use Rattle.tl_base.proofs.Results.{if-ok}
use Rattle.lua_eval.proofs.expressions.with_left.Goals as goal

pub returns-in_default : goal.returns-in_default
returns-in_default c =
    let a = c.args in
    let items = items_of a.tree.now in
    record {
      means = if-ok c.evaluate_right.result c.evaluate_right.ensures.means (λ step it.
          moved items a.frames.now.items c.evaluate_right.new.frames.items (with_left items a.op a.right a.place a.scope a.value)
          (value_of a.right a.scope (λ b. operate items a.op a.value b a.place a.scope.call))
          a.heap.now a.heap.now c.evaluate_right.new.heap a.budget.now c.evaluate_right.new.budget step
          (left_other items a.op a.right a.place a.scope a.value c.in_default.not-And c.in_default.not-Or) refl it);
      kept = c.evaluate_right.ensures.kept;
    }
