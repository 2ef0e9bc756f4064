-- The arms of an `if`, whose first condition is evaluated at once.
use Rattle.std.proofs.Common.{◌≡◌, ℕ, Bool, List, ◌∷◌, sym, ap, ◌∙◌, Option}
use Rattle.std.specs.Prelude.{if◌then◌else◌}
use Rattle.tl_base.specs.declared.ids.NodeId.{NodeId}
use Rattle.tl_base.specs.Layer.{state}
use Rattle.tl_base.specs.Plan.{Run, Give, then_do, run}
use Rattle.tl_tree.specs.Code.{Items, arm_condition, arm_block}
use Rattle.tl_tree.specs.Nodes.{item_at}
use Rattle.lua_value.specs.declared.value.Value.{Value}
use Rattle.lua_value.specs.Values.{is_true}
use Rattle.lua_table.specs.LuaState.{LuaState}
use Rattle.lua_model.specs.declared.job.Job.TheVariants as jobs
use Rattle.lua_model.specs.declared.end.End.{End}
use Rattle.lua_model.specs.declared.end.End.TheVariants.{One}
use Rattle.lua_model.specs.declared.question.LuaQuestion.{LuaQuestion}
use Rattle.lua_model.specs.declared.question.LuaAnswer.{LuaAnswer}
use Rattle.lua_model.specs.declared.scope.Scope.{Scope}
use Rattle.lua_model.specs.Plans.{LuaPlan, on_one, value_of}
use Rattle.lua_model.specs.Statements.{block_plan, arms_plan}
use Rattle.lua_eval.specs.AtOnce.{EndsAtOnce, Becomes}
use Rattle.lua_eval.proofs.Below.{jobs_of}

pub arm_passes : (items : Items) (n : NodeId) (ns : List NodeId) (otherwise : Option NodeId) (scope : Scope) (condition block : NodeId)
    (v : Value) (truth : Bool) (s : LuaState) (left mid : ℕ)
    → condition ≡ arm_condition (item_at items n) → block ≡ arm_block (item_at items n) → is_true v ≡ truth
    → EndsAtOnce items (jobs.Expression condition scope) (One v) s left s mid
    → Becomes items (arms_plan items (n ∷ ns) otherwise scope) s left
    (if truth then block_plan items block scope Give else arms_plan items ns otherwise scope) s mid
arm_passes items n ns otherwise scope condition block v truth s left mid c b t h = λ later.
    let go : NodeId → Value → LuaPlan = λ inner w.
    if is_true w then block_plan items inner scope Give else arms_plan items ns otherwise scope in
    ap (λ (m : NodeId). run (jobs_of items) (value_of m scope (go (arm_block (item_at items n)))) (state s left) later) (sym c)
    ∙ ap (λ (m : NodeId). run (jobs_of items) (value_of condition scope (go m)) (state s left) later) (sym b)
    ∙ ap (λ (o : Run LuaState LuaQuestion LuaAnswer End). then_do o (λ r. run (jobs_of items) (on_one r (go block)))) (h later)
    ∙ ap (λ (d : Bool). run (jobs_of items) (if d then block_plan items block scope Give else arms_plan items ns otherwise scope)
    (state s mid) later) t
