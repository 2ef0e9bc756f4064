use Rattle.lua_eval.specs.Steps.{Goes}
use Rattle.lua_table.specs.LuaState.{LuaState}
use Rattle.std.proofs.Common.{ℕ, ap, refl, List, ◌∷◌, ◌++◌}
use Rattle.tl_base.specs.declared.ids.NodeId.{NodeId}
use Rattle.lua_model.specs.Assignments.{define}
use Rattle.tl_tree.specs.Code.{Items, if_any}
use Rattle.lua_eval.proofs.Below.{moved}
use Rattle.lua_eval.proofs.Listing.{none_is}
use Rattle.lua_eval.proofs.assignments.define.Goals as goal

pub returns-in_ok-step-in-None : goal.returns-in_ok-step-in-None
returns-in_ok-step-in-None c =
    let a = c.args in
    let proof : (items : Items) (s : LuaState) (left : ℕ) → Goes items a.frames.now.items
    (define items (a.names.now ++ if_any a.method) a.function a.scope) s left c.define_alone.new.frames.items c.in_ok-step-in-None.step s left = λ items s left.
    moved items a.frames.now.items c.define_alone.new.frames.items (define items (a.names.now ++ if_any a.method) a.function a.scope)
    (define items (if_any a.method) a.function a.scope) s s s left left c.in_ok-step-in-None.step
    (ap (λ (l : List NodeId). define items (l ++ if_any a.method) a.function a.scope) (none_is a.names.now c.in-None.ensures.cases)) refl
    (c.in_ok-step-in-None.ensures.means items s left) in
    record { means = proof }

pub returns-in_ok-step-in-Some : goal.returns-in_ok-step-in-Some
returns-in_ok-step-in-Some c =
    let a = c.args in
    let proof : (items : Items) (s : LuaState) (left : ℕ) → Goes items a.frames.now.items
    (define items (a.names.now ++ if_any a.method) a.function a.scope) s left c.define_from.new.frames.items c.in_ok-step-in-Some.step s left = λ items s left.
    let first = c.in-Some.first.now in
    let rest = c.in-Some.rest.now in
    moved items a.frames.now.items c.define_from.new.frames.items (define items (a.names.now ++ if_any a.method) a.function a.scope)
    (define items (first ∷ (rest ++ if_any a.method)) a.function a.scope) s s s left left c.in_ok-step-in-Some.step
    (ap (λ (l : List NodeId). define items (l ++ if_any a.method) a.function a.scope) c.in-Some.ensures.cases.0) refl
    (c.in_ok-step-in-Some.ensures.means items s left) in
    record { means = proof }
