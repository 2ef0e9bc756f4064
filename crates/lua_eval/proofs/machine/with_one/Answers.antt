use Rattle.std.proofs.Common.{List, [], ◌∷◌, ◌++◌, refl, sym, ap}
use Rattle.lua_value.specs.declared.value.Value.{Value}
use Rattle.lua_model.specs.Plans.{LuaPlan}
use Rattle.lua_eval.specs.Frames.{list_plan}
use Rattle.lua_eval.proofs.Below.{moved}
use Rattle.tl_tree.specs.Arena.{items_of}
use Rattle.tl_base.proofs.Results.{if-ok}
use Rattle.lua_eval.proofs.machine.with_one.Goals as goal

pub returns-in-Loop-clause-means : goal.returns-in-Loop-clause-means
returns-in-Loop-clause-means c =
    rw c.in-Loop.is (if-ok c.with_loop.result c.with_loop.ensures.means (λ v it. it (items_of c.args.tree.now)))

pub returns-in-Statement-clause-means : goal.returns-in-Statement-clause-means
returns-in-Statement-clause-means c =
    rw c.in-Statement.is (if-ok c.with_statement.result c.with_statement.ensures.means (λ v it. it c.args.budget.now))

pub returns-in-Value-clause-means : goal.returns-in-Value-clause-means
returns-in-Value-clause-means c = rw c.in-Value.is c.with_value.ensures.means

pub returns-in_ok-push-in-Item-clause-means : goal.returns-in_ok-push-in-Item-clause-means
returns-in_ok-push-in-Item-clause-means c =
    let a = c.args in
    let f = c.in-Item.frame in
    let items = items_of a.tree.now in
    let plan : List Value → LuaPlan = λ vs. list_plan items f.rest.now f.scope vs f.then in
    rw c.in-Item.is (if-ok c.list.result c.list.ensures.means (λ v it.
    moved items a.frames.now.items c.list.new.frames.items (plan (f.values ++ a.value ∷ [])) (plan c.push.new.self)
    a.heap.now a.heap.now c.list.new.heap a.budget.now c.list.new.budget v (ap plan (sym c.in_ok-push-in-Item.ensures.ok)) refl it))

pub returns-in-Call-clause-means : goal.returns-in-Call-clause-means
returns-in-Call-clause-means c = rw c.in-Call.is c.with_call.ensures.means

pub returns-in-Field-clause-means : goal.returns-in-Field-clause-means
returns-in-Field-clause-means c = rw c.in-Field.is c.with_field.ensures.means

pub returns-in-Target-clause-means : goal.returns-in-Target-clause-means
returns-in-Target-clause-means c = rw c.in-Target.is c.with_target.ensures.means
