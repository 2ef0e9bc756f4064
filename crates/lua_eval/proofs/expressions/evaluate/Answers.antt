use Rattle.std.proofs.Common.{List, [], ◌∷◌, refl, sym, ap, ◌∙◌}
use Rattle.tl_base.specs.declared.ids.NodeId.{NodeId}
use Rattle.tl_base.specs.declared.ids.TableId.{TableId}
use Rattle.tl_base.specs.declared.machine.Step.TheVariants.{Enter}
use Rattle.tl_base.specs.Plan.{Give}
use Rattle.tl_tree.specs.Arena.{items_of}
use Rattle.tl_tree.specs.Code.{name_at}
use Rattle.lua_table.specs.Heap.{next_table, with_table}
use Rattle.lua_model.specs.declared.job.Job.TheVariants as jobs
use Rattle.lua_model.specs.declared.job.Caller.TheVariants.{ByNode}
use Rattle.lua_model.specs.Plans.{LuaPlan, value_of, values_of, with_text_of}
use Rattle.lua_model.specs.Calls.{call}
use Rattle.lua_model.specs.Fields.{read}
use Rattle.lua_model.specs.Tables.{fields}
use Rattle.lua_eval.specs.declared.frame.LuaFrame.TheVariants as frames
use Rattle.lua_eval.specs.declared.frame.OneFrame.TheVariants as ones
use Rattle.lua_eval.specs.declared.frame.CallFrame.TheVariants as of_call
use Rattle.lua_eval.proofs.Below.{moved}
use Rattle.lua_eval.proofs.Doing.{enters}
use Rattle.lua_eval.proofs.Evaluating.{binary_enters}
use Rattle.tl_base.proofs.Results.{if-ok}
use Rattle.lua_eval.proofs.expressions.evaluate.Goals as goal

pub returns-in_ok-push-in-Binary-clause-means : goal.returns-in_ok-push-in-Binary-clause-means
returns-in_ok-push-in-Binary-clause-means c = λ left.
    let a = c.args in
    let m = c.in-Binary in
    rw m.is (binary_enters (items_of a.tree.now) a.frames.now.items c.push.new.self.items m.op m.left m.right a.place a.scope
    a.heap.now left c.in_ok-push-in-Binary.ensures.items)

pub returns-in_ok-push-in-Call-clause-means : goal.returns-in_ok-push-in-Call-clause-means
returns-in_ok-push-in-Call-clause-means c = λ left.
    let a = c.args in
    let m = c.in-Call in
    let items = items_of a.tree.now in
    let fs = a.frames.now.items in
    let pushed = c.push-in-Call.new.self.items in
    let s = a.heap.now in
    let job = jobs.Expression m.function a.scope in
    let arguments = c.as_slice-in-Call.result in
    let plan : List NodeId → LuaPlan = λ ns. value_of m.function a.scope (λ f. values_of ns a.scope []
    (λ vs. call items ByNode f vs a.place a.scope.call Give)) in
    rw m.is (moved items fs pushed (plan m.arguments) (plan arguments.now) s s s left left (Enter job)
    (ap plan (sym c.as_slice-in-Call.ensures)) refl
    (enters items fs pushed (frames.One (ones.Call (of_call.Function arguments a.place a.scope))) job s left
    c.in_ok-push-in-Call.ensures.items))

pub returns-in_ok-push-in-Method-clause-means : goal.returns-in_ok-push-in-Method-clause-means
returns-in_ok-push-in-Method-clause-means c = λ left.
    let a = c.args in
    let m = c.in-Method in
    let items = items_of a.tree.now in
    let fs = a.frames.now.items in
    let pushed = c.push-in-Method.new.self.items in
    let s = a.heap.now in
    let job = jobs.Expression m.object a.scope in
    let arguments = c.as_slice-in-Method.result in
    let plan : List NodeId → LuaPlan = λ ns. value_of m.object a.scope (λ o. with_text_of (name_at items m.name)
    (λ key. read o key a.place a.scope.call (λ f. values_of ns a.scope (o ∷ [])
    (λ vs. call items ByNode f vs a.place a.scope.call Give)))) in
    rw m.is (moved items fs pushed (plan m.arguments) (plan arguments.now) s s s left left (Enter job)
    (ap plan (sym c.as_slice-in-Method.ensures)) refl
    (enters items fs pushed (frames.One (ones.Call (of_call.Method m.name arguments a.place a.scope))) job s left
    c.in_ok-push-in-Method.ensures.items))

pub returns-in_ok-table-in-Table-clause-means : goal.returns-in_ok-table-in-Table-clause-means
returns-in_ok-table-in-Table-clause-means c =
    let a = c.args in
    let m = c.in-Table in
    let items = items_of a.tree.now in
    let s = a.heap.now in
    let t = c.new_table.new.self in
    let table = c.in_ok-table-in-Table.table in
    rw m.is (if-ok c.fields_left.result c.fields_left.ensures.means (λ step it. λ left.
    moved items a.frames.now.items c.fields_left.new.frames.items (fields items m.list (next_table s) 1 a.place a.scope)
    (fields items c.as_slice.result.now table 1 a.place a.scope) (with_table s) t t left left step
    (ap (λ (ns : List NodeId). fields items ns (next_table s) 1 a.place a.scope) (sym c.as_slice.ensures)
    ∙ ap (λ (id : TableId). fields items c.as_slice.result.now id 1 a.place a.scope) (sym c.in_ok-table-in-Table.ensures.id))
    (sym c.in_ok-table-in-Table.ensures.ok) (it t left)))
