use Rattle.std.proofs.Common.{ℕ, ℤ, List, refl, ap, Option}
use Rattle.tl_tree.specs.Code.{Items}
use Rattle.lua_table.specs.LuaState.{LuaState}
use Rattle.lua_model.specs.Loops.{count, count_from}
use Rattle.lua_eval.specs.declared.frame.LuaFrame.{LuaFrame}
use Rattle.lua_eval.proofs.Below.{moved}
use Rattle.lua_eval.proofs.loops.count_from.Goals as goal

pub returns-in-Some : goal.returns-in-Some
returns-in-Some c = λ (items : Items) (s : LuaState) (left : ℕ) (fs : List LuaFrame).
    let a = c.args in
    moved items fs fs (count_from a.node a.scope a.at a.limit a.step a.out)
    (count a.node a.scope c.in-Some.at a.limit a.step a.out) s s s left left c.count.result
    (ap (λ (at : Option ℤ). count_from a.node a.scope at a.limit a.step a.out) c.in-Some.is) refl
    (c.count.ensures items s left fs)
