use Rattle.std.proofs.Common.{arith, ◌≤◌}
use Rattle.tl_tree.specs.Arena.{items_of}
use Rattle.lua_model.specs.declared.job.Job.TheVariants as jobs
use Rattle.lua_model.specs.declared.end.End.TheVariants.{One}
use Rattle.lua_eval.specs.AtOnce.{EndsAtOnce}
use Rattle.lua_eval.proofs.AtOnce.{if-some, never_gains}
use Rattle.tl_base.proofs.Results.{if-ok}
use Rattle.lua_eval.proofs.running.result_at_once.Goals as goal

pub spend-requires : goal.spend-requires
spend-requires c =
    let a = c.args in
    let found = c.in-Some.found in
    let less : found.left ≤ a.left =
    never_gains (items_of a.tree.now) (jobs.Expression a.node a.scope.now) (One found.value) a.heap.now a.heap.now a.left found.left
    c.in-Some.ensures.found in
    omega (arith, less, c.requires.units)

pub returns-in-Some-clause-found : goal.returns-in-Some-clause-found
returns-in-Some-clause-found c = λ later. rw (c.in-Some.ensures.same, c.spend.ensures) (c.in-Some.ensures.found later)

pub returns-in-None-clause-found : goal.returns-in-None-clause-found
returns-in-None-clause-found c =
    let a = c.args in
    let items = items_of a.tree.now in
    let job = jobs.Expression a.node a.scope.now in
    let s = a.heap.now in
    let r = c.function_at_once in
    if-ok r.result r.ensures.found (λ made h. if-some made h (λ value ends.
    let same : EndsAtOnce items job (One value) s a.left r.new.heap r.new.budget = rw c.in-None.ensures.same at ends in
    same))
