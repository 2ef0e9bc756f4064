use Rattle.std.proofs.Common.{refl, ap}
use Rattle.tl_tree.specs.Arena.{items_of}
use Rattle.lua_eval.specs.declared.frame.FieldFrame.{FieldFrame}
use Rattle.lua_eval.specs.declared.frame.FieldFrame.TheVariants.{Next}
use Rattle.lua_eval.specs.Frames.{with_field}
use Rattle.lua_eval.proofs.Below.{moved}
use Rattle.tl_base.proofs.Results.{if-ok}
use Rattle.lua_eval.proofs.tables.with_field.Goals as goal

pub returns-in-Next-clause-means : goal.returns-in-Next-clause-means
returns-in-Next-clause-means c =
    let a = c.args in
    let items = items_of a.tree.now in
    if-ok c.numbered_field.result c.numbered_field.ensures.means (λ step it.
    moved items a.frames.now.items c.numbered_field.new.frames.items (with_field items a.frame a.wait a.value)
    (with_field items a.frame Next a.value)
    a.heap.now a.heap.now c.numbered_field.new.heap a.budget.now c.numbered_field.new.budget step
    (ap (λ (w : FieldFrame). with_field items a.frame w a.value) c.in-Next.is) refl it)
