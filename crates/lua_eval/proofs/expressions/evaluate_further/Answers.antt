use Rattle.std.proofs.Common.{List, refl, sym, ap, ◌∙◌}
use Rattle.tl_base.specs.declared.ids.NodeId.{NodeId}
use Rattle.tl_base.specs.declared.ids.TableId.{TableId}
use Rattle.tl_tree.specs.Arena.{items_of}
use Rattle.lua_table.specs.Heap.{next_table, with_table}
use Rattle.lua_table.proofs.Keeping.{keeps_table}
use Rattle.lua_model.specs.declared.job.Job.TheVariants as jobs
use Rattle.lua_model.specs.Plans.{LuaPlan}
use Rattle.lua_model.specs.Tables.{fields}
use Rattle.lua_eval.specs.CallPlans.{call_plan, method_plan}
use Rattle.lua_eval.specs.declared.frame.LuaFrame.TheVariants as frames
use Rattle.lua_eval.specs.declared.frame.OneFrame.TheVariants as ones
use Rattle.lua_eval.specs.declared.frame.ValueFrame.TheVariants as of_value
use Rattle.lua_eval.proofs.Below.{moved}
use Rattle.lua_eval.proofs.Doing.{job_below}
use Rattle.lua_table.proofs.Keeping.{heap_keeps_by}
use Rattle.tl_base.proofs.Results.{if-ok, on-ok}
use Rattle.lua_eval.proofs.expressions.evaluate_further.Goals as goal

pub returns-in-Call-clause-means : goal.returns-in-Call-clause-means
returns-in-Call-clause-means c =
    let a = c.args in
    let m = c.in-Call in
    let items = items_of a.tree.now in
    let arguments = c.as_slice.result.now in
    let plan : List NodeId → LuaPlan = λ ns. call_plan items m.function ns a.place a.scope in
    rw m.is (if-ok c.evaluate_call.result c.evaluate_call.ensures.means (λ v it. moved items a.frames.now.items c.evaluate_call.new.frames.items (plan m.arguments) (plan arguments)
    a.heap.now a.heap.now c.evaluate_call.new.heap a.budget.now c.evaluate_call.new.budget v
    (ap plan (sym c.as_slice.ensures)) refl it))

pub returns-in-Binary-clause-means : goal.returns-in-Binary-clause-means
returns-in-Binary-clause-means c = rw c.in-Binary.is c.evaluate_binary.ensures.means

pub returns-in-Method-clause-means : goal.returns-in-Method-clause-means
returns-in-Method-clause-means c =
    let a = c.args in
    let m = c.in-Method in
    let items = items_of a.tree.now in
    let arguments = c.as_slice-in-Method.result.now in
    let plan : List NodeId → LuaPlan = λ ns. method_plan items m.object m.name ns a.place a.scope in
    rw m.is (if-ok c.evaluate_method.result c.evaluate_method.ensures.means (λ v it. moved items a.frames.now.items c.evaluate_method.new.frames.items (plan m.arguments) (plan arguments)
    a.heap.now a.heap.now c.evaluate_method.new.heap a.budget.now c.evaluate_method.new.budget v
    (ap plan (sym c.as_slice-in-Method.ensures)) refl it))

pub returns-in_ok-push-in-Paren-clause-means : goal.returns-in_ok-push-in-Paren-clause-means
returns-in_ok-push-in-Paren-clause-means c =
    let a = c.args in
    let m = c.in-Paren in
    rw m.is (if-ok c.inside.result c.inside.ensures.means (λ v it.
    job_below (items_of a.tree.now) a.frames.now.items c.push.new.self.items c.inside.new.frames.items (frames.One (ones.Value of_value.First))
    (jobs.Expression m.inner a.scope) a.heap.now c.inside.new.heap a.budget.now c.inside.new.budget v c.in_ok-push-in-Paren.ensures.items it))

pub returns-in_ok-table-in-Table-clause-means : goal.returns-in_ok-table-in-Table-clause-means
returns-in_ok-table-in-Table-clause-means c =
    let a = c.args in
    let m = c.in-Table in
    let items = items_of a.tree.now in
    let s = a.heap.now in
    let t = c.new_table.new.self in
    let table = c.in_ok-table-in-Table.table in
    let list = c.as_slice-in-Table.result.now in
    rw m.is (if-ok c.fields.result c.fields.ensures.means (λ v it.
    moved items a.frames.now.items c.fields.new.frames.items (fields items m.list (next_table s) 1 a.place a.scope)
    (fields items list table 1 a.place a.scope) (with_table s) t c.fields.new.heap a.budget.now c.fields.new.budget v
    (ap (λ (ns : List NodeId). fields items ns (next_table s) 1 a.place a.scope) (sym c.as_slice-in-Table.ensures)
    ∙ ap (λ (id : TableId). fields items list id 1 a.place a.scope) (sym c.in_ok-table-in-Table.ensures.id))
    (sym c.in_ok-table-in-Table.ensures.ok) it))

pub returns-in_ok-table-in-Table-clause-kept : goal.returns-in_ok-table-in-Table-clause-kept
returns-in_ok-table-in-Table-clause-kept c =
    let s = c.args.heap.now in
    on-ok c.fields.result c.fields.ensures.kept (λ more.
    heap_keeps_by s c.new_table.new.self (with_table s) c.fields.new.heap c.in_ok-table-in-Table.ensures.ok (keeps_table s) more)

pub returns-in_default-clause-means : goal.returns-in_default-clause-means
returns-in_default-clause-means c =
    if-ok c.evaluate.result c.evaluate.ensures.means (λ v it. it c.args.budget.now)
