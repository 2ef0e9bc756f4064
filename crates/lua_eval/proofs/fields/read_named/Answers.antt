use Rattle.lua_model.specs.Plans.{give}
use Rattle.lua_model.specs.Fields.{read}
use Rattle.lua_eval.proofs.Below.{text_goes}
use Rattle.lua_table.proofs.Keeping.{keeps_then}
use Rattle.lua_eval.proofs.fields.read_named.Goals as goal

pub returns-clause-means : goal.returns-clause-means
returns-clause-means c = λ items.
    let a = c.args in
    text_goes items a.frames.now.items c.read.new.frames.items a.name.now (λ key. read a.object key a.place a.outer give)
    a.heap.now c.text_value.new.heap c.read.new.heap a.budget.now c.read.new.budget c.in_ok-step.step c.in_ok-key.key
    c.in_ok-key.ensures.value c.in_ok-key.ensures.heap (c.in_ok-step.ensures.means items)

pub returns-clause-kept : goal.returns-clause-kept
returns-clause-kept c =
    keeps_then c.args.heap.now c.text_value.new.heap c.read.new.heap c.in_ok-key.ensures.kept c.in_ok-step.ensures.kept
