use Rattle.std.proofs.Common.{refl, sym, ap, ◌∙◌, Option}
use Rattle.tl_base.specs.declared.ids.NodeId.{NodeId}
use Rattle.lua_value.specs.declared.value.Value.{Value}
use Rattle.lua_model.specs.Plans.{LuaPlan}
use Rattle.lua_model.specs.Loops.{step_plan}
use Rattle.lua_eval.specs.Frames.{first_count}
use Rattle.lua_eval.proofs.Below.{moved}
use Rattle.lua_eval.proofs.loops.with_limit.Goals as goal

pub returns-in_ok-next-in-None-clause-means : goal.returns-in_ok-next-in-None-clause-means
returns-in_ok-next-in-None-clause-means c = λ items.
    let a = c.args in
    let fs = a.frames.now.items in
    let go : Value → LuaPlan = λ v. first_count a.node a.first a.limit v a.place a.scope in
    moved items fs fs (step_plan a.step a.scope go) (go c.one.result) a.heap.now a.heap.now c.first_count.new.heap
    a.budget.now c.first_count.new.budget c.in_ok-next-in-None.next
    (ap (λ (step : Option NodeId). step_plan step a.scope go) c.in-None.is ∙ ap go (sym c.one.ensures)) refl
    (c.in_ok-next-in-None.ensures.means items fs)
