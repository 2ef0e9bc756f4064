use Rattle.tl_tree.specs.Arena.{items_of}
use Rattle.lua_model.specs.Tables.{fields}
use Rattle.lua_eval.proofs.AtOnce.{passed}
use Rattle.tl_base.proofs.Results.{if-ok}
use Rattle.lua_eval.proofs.tables.fields.Goals as goal

pub returns-clause-means : goal.returns-clause-means
returns-clause-means c =
    let a = c.args in
    let items = items_of a.tree.now in
    let rest = c.in_ok-left.left in
    let t = c.fields_at_once.new.heap in
    let mid = c.fields_at_once.new.budget in
    if-ok c.fields_left.result c.fields_left.ensures.means (λ step it.
    passed items a.frames.now.items c.fields_left.new.frames.items (fields items a.rest.now a.table a.next a.place a.scope)
    (fields items rest.rest.now a.table rest.next a.place a.scope) a.heap.now t t a.budget.now mid mid step
    (c.in_ok-left.ensures.passes a.place) (it t mid))
