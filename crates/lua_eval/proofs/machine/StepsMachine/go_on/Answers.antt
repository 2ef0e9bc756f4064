use Rattle.lua_table.specs.Heap.{shallower}
use Rattle.lua_table.proofs.Keeping.{keeps_shallower}
use Rattle.lua_table.proofs.Keeping.{heap_kept_as}
use Rattle.tl_base.proofs.Results.{if-ok}
use Rattle.lua_eval.proofs.machine.StepsMachine.go_on.Goals as goal

pub returns-in-Block-clause-means : goal.returns-in-Block-clause-means
returns-in-Block-clause-means c =
    rw c.in-Block.is (if-ok c.after_statement.result c.after_statement.ensures.means (λ v it. it))

pub returns-in-Library-clause-kept : goal.returns-in-Library-clause-kept
returns-in-Library-clause-kept c =
    heap_kept_as c.args.heap.now c.end_call.new.self (shallower c.args.heap.now) c.end_call.ensures (keeps_shallower c.args.heap.now)

pub returns-in-Function-clause-kept : goal.returns-in-Function-clause-kept
returns-in-Function-clause-kept c =
    heap_kept_as c.args.heap.now c.end_call-in-Function.new.self (shallower c.args.heap.now) c.end_call-in-Function.ensures
    (keeps_shallower c.args.heap.now)

pub returns-in-One-clause-means : goal.returns-in-One-clause-means
returns-in-One-clause-means c = rw c.in-One.is c.after_one.ensures.means

pub returns-in-Turn-clause-means : goal.returns-in-Turn-clause-means
returns-in-Turn-clause-means c = rw c.in-Turn.is c.after_turn.ensures.means
