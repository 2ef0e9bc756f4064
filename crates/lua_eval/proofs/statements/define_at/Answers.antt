use Rattle.lua_table.specs.LuaState.{LuaState}
use Rattle.lua_eval.specs.Steps.{Goes}
use Rattle.std.proofs.Common.{sym, ap, refl, ◌∙◌, List, ◌++◌, Option, ℕ}
use Rattle.tl_base.specs.declared.ids.NodeId.{NodeId}
use Rattle.tl_tree.specs.Arena.{items_of}
use Rattle.tl_tree.specs.Nodes.{item_at}
use Rattle.lua_model.specs.Assignments.{define}
use Rattle.tl_tree.specs.Code.{if_any, path_at, path_method_of}
use Rattle.lua_eval.proofs.Below.{moved}
use Rattle.lua_eval.proofs.statements.define_at.Goals as goal

pub returns : goal.returns
returns c =
    let a = c.args in
    let proof : (s : LuaState) (left : ℕ) → Goes (items_of a.tree.now) a.frames.now.items
    (define (items_of a.tree.now) (path_at (items_of a.tree.now) a.path) a.function a.scope) s left
    c.define.new.frames.items c.in_ok-step.step s left = λ s left.
    let items = items_of a.tree.now in
    let ns = c.path_names-names.result.now in
    let method = c.path_method-method.result in
    moved items a.frames.now.items c.define.new.frames.items (define items (path_at items a.path) a.function a.scope)
    (define items (ns ++ if_any method) a.function a.scope) s s s left left c.in_ok-step.step
    (ap (λ (l : List NodeId). define items (l ++ if_any (path_method_of (item_at items a.path))) a.function a.scope) (sym c.path_names-names.ensures)
    ∙ ap (λ (m : Option NodeId). define items (ns ++ if_any m) a.function a.scope) (sym c.path_method-method.ensures))
    refl (c.in_ok-step.ensures.means items s left) in
    record { means = proof }
