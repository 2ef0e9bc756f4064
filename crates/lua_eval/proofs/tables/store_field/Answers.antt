use Rattle.std.proofs.Common.{sym, ◌∙◌}
use Rattle.tl_tree.specs.Arena.{items_of}
use Rattle.lua_eval.specs.Frames.{fields_from}
use Rattle.tl_base.proofs.Results.{if-ok}
use Rattle.lua_eval.proofs.Reading.{nil_stored, raw_stored}
use Rattle.lua_eval.proofs.tables.store_field.Goals as goal

pub returns-then-is_nil-clause-means : goal.returns-then-is_nil-clause-means
returns-then-is_nil-clause-means c =
    let a = c.args in
    let f = a.frame in
    let items = items_of a.tree.now in
    let fs = a.frames.now.items in
    nil_stored items fs fs f.table a.key a.value f.place (fields_from items f f.next)
    a.heap.now c.raise.new.heap a.budget.now c.raise.new.budget c.in_ok-raised.raised
    (sym c.is_nil.ensures.value ∙ c.if-is_nil.true) (c.in_ok-raised.ensures.means items fs)

pub returns-clause-means : goal.returns-clause-means
returns-clause-means c =
    let a = c.args in
    let f = a.frame in
    let items = items_of a.tree.now in
    let t = c.store.new.self in
    if-ok c.fields_left.result c.fields_left.ensures.means (λ step it.
    raw_stored items a.frames.now.items c.fields_left.new.frames.items f.table a.key a.value f.place (fields_from items f f.next)
    a.heap.now t t a.budget.now a.budget.now step
    (sym c.is_nil.ensures.value ∙ c.if-is_nil.false) c.in_ok-store.ensures.ok (it t a.budget.now))
