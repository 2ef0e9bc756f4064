use Rattle.std.proofs.Common.{arith, ◌≡◌, ◌-◌, [], ◌∷◌, refl, ap, ◌∙◌, rules, Some}
use Rattle.tl_base.specs.declared.machine.Step.TheVariants.{Return}
use Rattle.tl_tree.specs.Arena.{items_of}
use Rattle.tl_tree.specs.Item.{Item}
use Rattle.tl_tree.specs.Item as kept
use Rattle.tl_tree.specs.Nodes.{item_at}
use Rattle.lua_value.specs.declared.value.Value.TheVariants.{Nil}
use Rattle.lua_model.specs.declared.job.Job.TheVariants as jobs
use Rattle.lua_model.specs.declared.end.End.TheVariants.{Many}
use Rattle.lua_model.specs.Assignments.{held, target_of, target_plan}
use Rattle.lua_eval.specs.Spots.{held_in}
use Rattle.lua_eval.specs.Slots.{path_of}
use Rattle.tl_tree.specs.Scopes.{binder}
use Rattle.lua_eval.proofs.Taking.{local_stores, field_stores}
use Rattle.lua_eval.proofs.AtOnce.{begun, if-some}
use Rattle.lua_eval.proofs.Below.{moved}
use Rattle.lua_eval.proofs.Doing.{returns as returned}
use Rattle.lua_eval.proofs.direct.aim.Goals as goal

pub returns-in-Expression-clause-found : goal.returns-in-Expression-clause-found
returns-in-Expression-clause-found c =
    let a = c.args in
    let m = c.in-Expression in
    let items = items_of a.tree.now in
    let s = a.heap.now in
    let scope = a.scope.now in
    let e : item_at items a.node ≡ kept.Expression m.field-0 m.expression = search rules in
    if-some c.aim_in.result c.aim_in.ensures.found (λ aimed h.
    begun items (jobs.Target a.node scope) (Many (held_in aimed.spot)) s s a.left aimed.left (omega (arith, c.if-left-eq0.false))
    (moved items [] [] (target_plan items (item_at items a.node) scope) (target_of items m.expression scope) s s s
    (a.left - 1) aimed.left (Return (Many (held_in aimed.spot))) (ap (λ (i : Item). target_plan items i scope) e) refl h))

pub returns-in-Some-clause-found : goal.returns-in-Some-clause-found
returns-in-Some-clause-found c =
    let a = c.args in
    let m = c.in-Name in
    let items = items_of a.tree.now in
    let s = a.heap.now in
    let scope = a.scope.now in
    let end = Many (Nil ∷ Nil ∷ []) in
    let e : item_at items a.node ≡ kept.Name m.field-0 m.field-1 m.field-2.now = search rules in
    begun items (jobs.Target a.node scope) end s s a.left (a.left - 1) (omega (arith, c.if-left-eq0.false))
    (moved items [] [] (target_plan items (item_at items a.node) scope) (held Nil Nil) s s s
    (a.left - 1) (a.left - 1) (Return end) (ap (λ (i : Item). target_plan items i scope) e) refl
    (returned items [] end s (a.left - 1)))

pub returns-in-Expression-clause-at : goal.returns-in-Expression-clause-at
returns-in-Expression-clause-at c =
    let a = c.args in
    let m = c.in-Expression in
    let items = items_of a.tree.now in
    let e : item_at items a.node ≡ kept.Expression m.field-0 m.expression = search rules in
    if-some c.aim_in.result c.aim_in.ensures.field (λ aimed some.
    field_stores items a.node a.scope.now m.field-0 m.expression aimed.spot e some)

pub returns-in-Some-clause-at : goal.returns-in-Some-clause-at
returns-in-Some-clause-at c =
    let a = c.args in
    let m = c.in-Name in
    let items = items_of a.tree.now in
    let e : item_at items a.node ≡ kept.Name m.field-0 m.field-1 m.field-2.now = search rules in
    let p : Some (c.in-Some.depth, c.in-Some.position) ≡ path_of (binder items a.node) =
    c.in-Some.ensures ∙ ap path_of (c.requires a.node) in
    local_stores items a.node a.scope.now m.field-0 m.field-1 m.field-2.now c.in-Some.depth c.in-Some.position e p
