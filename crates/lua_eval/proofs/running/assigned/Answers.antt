use Rattle.std.proofs.Common.{arith, ◌≡◌, ◌-◌, [], refl, ap, rules}
use Rattle.tl_base.specs.declared.machine.Step.TheVariants.{Return}
use Rattle.tl_tree.specs.Arena.{items_of}
use Rattle.tl_tree.specs.Item.{Item}
use Rattle.tl_tree.specs.Item as kept
use Rattle.tl_tree.specs.Nodes.{item_at}
use Rattle.lua_model.specs.declared.job.Job.TheVariants as jobs
use Rattle.lua_model.specs.declared.end.End.TheVariants.{Fell}
use Rattle.lua_model.specs.Statements.{statement_of, statement_plan}
use Rattle.lua_eval.proofs.AtOnce.{begun}
use Rattle.lua_eval.proofs.Below.{moved}
use Rattle.lua_eval.proofs.running.assigned.Goals as goal

pub returns-in_ok-done-in-Statement-clause-done : goal.returns-in_ok-done-in-Statement-clause-done
returns-in_ok-done-in-Statement-clause-done c = λ is.
    let a = c.args in
    let m = c.in-Statement in
    let items = items_of a.tree.now in
    let scope = a.scope.now in
    let s = a.heap.now in
    let t = c.assigned_by.new.heap in
    let left = a.budget.now in
    let left2 = c.assigned_by.new.budget in
    let e : item_at items a.node ≡ kept.Statement m.field-0 m.statement = search rules in
    begun items (jobs.Statement a.node scope) (Fell []) s t left left2 (omega (arith, c.left-units.ensures, c.if-units-eq0.false))
    (moved items [] [] (statement_plan items (item_at items a.node) a.node scope) (statement_of items m.statement a.node m.field-0 scope) s s t
    (left - 1) left2 (Return (Fell [])) (ap (λ (i : Item). statement_plan items i a.node scope) e) refl
    (rw c.left-units.ensures at (c.in_ok-done-in-Statement.ensures.done is a.node m.field-0)))
