use Rattle.std.proofs.Common.{refl, sym, ap}
use Rattle.tl_base.specs.Plan.{Give}
use Rattle.tl_tree.specs.Arena.{items_of}
use Rattle.lua_model.specs.declared.scope.Scope.{Scope}
use Rattle.lua_model.specs.Plans.{LuaPlan, scope_at}
use Rattle.lua_model.specs.Statements.{block_plan}
use Rattle.lua_eval.proofs.Below.{moved}
use Rattle.tl_base.proofs.Results.{if-ok}
use Rattle.lua_eval.proofs.machine.StepsMachine.open.Goals as goal

pub returns-in-Chunk-clause-means : goal.returns-in-Chunk-clause-means
returns-in-Chunk-clause-means c = rw c.in-Chunk.is (if-ok c.chunk.result c.chunk.ensures.means (λ step it. it c.args.budget.now))

pub returns-in-Call-clause-means : goal.returns-in-Call-clause-means
returns-in-Call-clause-means c = rw c.in-Call.is (if-ok c.call.result c.call.ensures.means (λ step it. it))

pub returns-in-Emitted-clause-means : goal.returns-in-Emitted-clause-means
returns-in-Emitted-clause-means c =
    let a = c.args in
    let items = items_of a.self.now.tree.now in
    let node = c.in-Emitted.node in
    let plan : Scope → LuaPlan = λ scope. block_plan items node scope Give in
    rw c.in-Emitted.is (if-ok c.block.result c.block.ensures.means (λ step it.
    moved items a.frames.now.items c.block.new.frames.items (plan (scope_at c.in-Emitted.env))
    (plan c.scope_at-in-Emitted.result) a.heap.now a.heap.now c.block.new.heap a.budget.now a.budget.now step
    (ap plan (sym c.scope_at-in-Emitted.ensures)) refl (it a.budget.now)))

pub returns-in-Index-clause-means : goal.returns-in-Index-clause-means
returns-in-Index-clause-means c =
    rw c.in-Index.is (if-ok c.read_alone.result c.read_alone.ensures.means (λ step it. it (items_of c.args.self.now.tree.now)))
