use Rattle.std.proofs.Common.{ℕ, ◌+◌, [], ◌∷◌, sym, ap}
use Rattle.tl_tree.specs.Arena.{items_of}
use Rattle.lua_model.specs.Tables.{with_values}
use Rattle.lua_eval.specs.Frames.{fields_from}
use Rattle.lua_eval.proofs.Below.{moved}
use Rattle.tl_base.proofs.Results.{if-ok}
use Rattle.lua_eval.proofs.tables.numbered_field.Goals as goal

pub returns-clause-means : goal.returns-clause-means
returns-clause-means c =
    let a = c.args in
    let f = a.frame in
    let items = items_of a.tree.now in
    let t = c.store_values.new.heap in
    if-ok c.fields_left.result c.fields_left.ensures.means (λ step it.
    moved items a.frames.now.items c.fields_left.new.frames.items (fields_from items f (f.next + 1)) (fields_from items f c.in_ok-next.next)
    (with_values f.table f.next (a.value ∷ []) a.heap.now) t t a.budget.now a.budget.now step
    (ap (λ (n : ℕ). fields_from items f n) (sym c.in_ok-next.ensures)) (sym c.in_ok-store_values.ensures.ok)
    (it t a.budget.now))
