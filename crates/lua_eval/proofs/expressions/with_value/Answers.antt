use Rattle.std.proofs.Common.{ℕ, List, refl, sym, ap, ◌∙◌}
use Rattle.tl_tree.specs.Arena.{items_of}
use Rattle.tl_tree.specs.Code.{name_at}
use Rattle.lua_model.specs.Plans.{LuaPlan, give, with_text_of}
use Rattle.lua_model.specs.Fields.{read}
use Rattle.lua_eval.proofs.Below.{moved}
use Rattle.tl_base.proofs.Results.{if-ok}
use Rattle.lua_eval.proofs.expressions.with_value.Goals as goal

pub returns-in-Left-clause-means : goal.returns-in-Left-clause-means
returns-in-Left-clause-means c = rw c.in-Left.is c.with_left.ensures.means

pub returns-in-Right-clause-means : goal.returns-in-Right-clause-means
returns-in-Right-clause-means c = rw c.in-Right.is c.operate.ensures.means

pub returns-in-Unary-clause-means : goal.returns-in-Unary-clause-means
returns-in-Unary-clause-means c = rw c.in-Unary.is c.operate_one.ensures.means

pub returns-in-Key-clause-means : goal.returns-in-Key-clause-means
returns-in-Key-clause-means c =
    rw c.in-Key.is (if-ok c.read.result c.read.ensures.means (λ step it. it (items_of c.args.tree.now)))

pub returns-in-Select-clause-means : goal.returns-in-Select-clause-means
returns-in-Select-clause-means c =
    let a = c.args in
    let m = c.in-Select in
    let items = items_of a.tree.now in
    let reading : List ℕ → LuaPlan = λ bytes. with_text_of bytes (λ key. read a.value key m.place m.outer give) in
    rw m.is (if-ok c.read_named.result c.read_named.ensures.means (λ step it.
    moved items a.frames.now.items c.read_named.new.frames.items (reading (name_at items m.node))
    (reading c.as_bytes.result.now) a.heap.now a.heap.now c.read_named.new.heap a.budget.now c.read_named.new.budget
    step (ap reading (sym (c.as_bytes.ensures.value ∙ c.name.ensures))) refl (it items)))
