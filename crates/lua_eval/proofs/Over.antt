-- Plans that end at once and change the heap, over any frames.
use Rattle.std.proofs.Common.{ℕ, List, [], ap}
use Rattle.tl_base.specs.declared.machine.Step.TheVariants.{Return}
use Rattle.tl_base.specs.Machine.{plug}
use Rattle.tl_tree.specs.Code.{Items}
use Rattle.lua_table.specs.LuaState.{LuaState}
use Rattle.lua_model.specs.declared.end.End.{End}
use Rattle.lua_model.specs.Plans.{LuaPlan}
use Rattle.lua_eval.specs.declared.frame.LuaFrame.{LuaFrame}
use Rattle.lua_eval.specs.Frames.{lua_rules}
use Rattle.lua_eval.specs.Steps.{Goes}

pub ended_over : (items : Items) (fs : List LuaFrame) (p : LuaPlan) (r : End) (s s2 : LuaState) (left left2 : ℕ)
    → Goes items [] p s left [] (Return r) s2 left2 → Goes items fs p s left fs (Return r) s2 left2
ended_over items fs p r s s2 left left2 g = λ later. ap (plug (lua_rules items) fs) (g later)
