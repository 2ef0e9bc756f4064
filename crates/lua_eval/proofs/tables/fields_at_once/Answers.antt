use Rattle.std.proofs.Common.{◌≡◌, List, ◌∷◌, ap, ◌∙◌}
use Rattle.tl_base.specs.declared.ids.NodeId.{NodeId}
use Rattle.tl_base.specs.declared.place.Place.{Place}
use Rattle.tl_base.specs.Layer.{state}
use Rattle.tl_base.specs.Plan.{run}
use Rattle.tl_tree.specs.Arena.{items_of}
use Rattle.lua_table.proofs.Keeping.{keeps_then}
use Rattle.lua_model.specs.Tables.{fields}
use Rattle.lua_eval.specs.AtOnce.{Becomes}
use Rattle.lua_eval.proofs.Below.{jobs_of}
use Rattle.lua_eval.proofs.tables.fields_at_once.Goals as goal

pub returns-in-None-done-clause-passes : goal.returns-in-None-done-clause-passes
returns-in-None-done-clause-passes c = λ place later.
    let l = c.fields in
    let heap : c.field_at_once.new.heap ≡ l.heap = rw c.in-None-done.is at c.in_ok-done-in-Some.ensures.heap in
    let budget : c.field_at_once.new.budget ≡ l.budget = rw c.in-None-done.is at c.in_ok-done-in-Some.ensures.budget in
    rw heap (rw budget (l.invariant.passes place later))

pub fields-preserved : goal.fields-preserved
fields-preserved c =
    let a = c.args in
    let l = c.fields in
    let items = items_of a.tree.now in
    let scope = a.scope.now in
    let n = c.in-Some.first.now in
    let more = c.in-Some.more.now in
    let behind = c.in-Some-done.behind in
    let t = c.field_at_once.new.heap in
    let left = c.field_at_once.new.budget in
    let part : (rest : List NodeId) (place : Place) → Becomes items (fields items (n ∷ rest) a.table l.next place scope) l.heap l.budget
    (fields items rest a.table behind place scope) t left =
    rw c.in-Some-done.is at c.in_ok-done-in-Some.ensures.passes in
    record {
      passes = λ place later.
          l.invariant.passes place later
          ∙ ap (λ (ns : List NodeId). run (jobs_of items) (fields items ns a.table l.next place scope) (state l.heap l.budget) later) c.in-Some.ensures.cases.0
          ∙ part more place later;
      kept = keeps_then a.heap.now l.heap t l.invariant.kept c.in_ok-done-in-Some.ensures.kept;
    }
