use Rattle.std.proofs.Common.{[], ◌∷◌, ap, ◌∙◌}
use Rattle.tl_base.specs.Layer.{state}
use Rattle.tl_base.specs.Plan.{run}
use Rattle.tl_tree.specs.Arena.{items_of}
use Rattle.tl_tree.specs.Item.{Item}
use Rattle.lua_table.specs.LuaState.{LuaState}
use Rattle.lua_model.specs.Plans.{LuaPlan}
use Rattle.lua_model.specs.Tables.{fields, with_values}
use Rattle.lua_eval.specs.declared.tables.FieldKind.TheVariants.{Named}
use Rattle.lua_eval.specs.Fields.{kind_of_field}
use Rattle.lua_eval.proofs.Below.{jobs_of}
use Rattle.lua_eval.proofs.Fielding.{fields_are, listed_passes}
use Rattle.lua_eval.proofs.tables.field_at_once.Goals as goal

pub returns-then-branch-clause-passes : goal.returns-then-branch-clause-passes
returns-then-branch-clause-passes c = λ rest place later.
    let a = c.args in
    let items = items_of a.tree.now in
    let m = c.in-Named in
    ap (λ (p : LuaPlan). run (jobs_of items) p (state a.heap.now a.budget.now) later)
    (fields_are items (Named m.key m.value) a.node rest a.table a.next place a.scope.now
    (m.ensures ∙ ap (λ (item : Item). kind_of_field item) c.node.ensures))
    ∙ c.in_ok-named_at_once-in-Named.ensures.passes c.if-branch.true place (fields items rest a.table a.next place a.scope.now) later

pub returns-in_ok-behind-in-Some-clause-passes : goal.returns-in_ok-behind-in-Some-clause-passes
returns-in_ok-behind-in-Some-clause-passes c = λ rest place.
    let a = c.args in
    let v = c.in-Some.value in
    listed_passes (items_of a.tree.now) c.field_kind.result a.node rest a.table a.next c.in_ok-behind-in-Some.behind place a.scope.now v
    a.heap.now c.store_values.new.heap a.budget.now c.at_once.new.budget
    (c.field_kind.ensures ∙ ap (λ (item : Item). kind_of_field item) c.node.ensures) c.in-Listed.is
    c.in-Some.ensures.found
    (c.in_ok-store_values-in-Some.ensures.ok ∙ ap (λ (w : LuaState). with_values a.table a.next (v ∷ []) w) c.in-Some.ensures.same)
    c.in_ok-behind-in-Some.ensures
