use Rattle.tl_tree.specs.Code.{Items}
use Rattle.lua_table.specs.LuaState.{LuaState}
use Rattle.lua_eval.specs.Steps.{Goes}
use Rattle.std.proofs.Common.{sym, ap, refl, List, [], ℕ}
use Rattle.lua_value.specs.declared.value.Value.{Value}
use Rattle.lua_model.specs.Loops.{while_test}
use Rattle.lua_eval.proofs.Below.{moved}
use Rattle.lua_eval.proofs.statements.while_first.Goals as goal

pub returns : goal.returns
returns c =
    let a = c.args in
    let proof : (items : Items) (s : LuaState) (left : ℕ) → Goes items a.frames.now.items (while_test a.node a.condition a.scope []) s left
    c.while_test.new.frames.items c.in_ok-step.step s left = λ items s left.
    let none = c.new-none.result in
    moved items a.frames.now.items c.while_test.new.frames.items (while_test a.node a.condition a.scope [])
    (while_test a.node a.condition a.scope none) s s s left left c.in_ok-step.step
    (ap (λ (out : List Value). while_test a.node a.condition a.scope out) (sym c.new-none.ensures)) refl
    (c.in_ok-step.ensures.means items s left) in
    record { means = proof }
