use Rattle.std.proofs.Common.{refl, sym, ap, ◌∙◌}
use Rattle.lua_value.specs.declared.kind.Kind.{Kind}
use Rattle.lua_ops.specs.declared.fault.Fault.TheVariants.{Index}
use Rattle.lua_model.specs.Plans.{give, raise}
use Rattle.lua_model.specs.Fields.{read}
use Rattle.lua_eval.specs.declared.fields.Source.TheVariants.{Table, Terra, Nothing}
use Rattle.lua_eval.specs.Reads.{read_from}
use Rattle.lua_eval.proofs.Below.{moved}
use Rattle.lua_eval.proofs.Reading.{read_known}
use Rattle.lua_eval.proofs.fields.read.Goals as goal

pub returns-in_ok-step-in-Table-clause-means : goal.returns-in_ok-step-in-Table-clause-means
returns-in_ok-step-in-Table-clause-means c = λ items.
    let a = c.args in
    let source = Table c.in-Table.table in
    moved items a.frames.now.items c.read_table.new.frames.items (read a.object a.key a.place a.outer give)
    (read_from source a.object a.key a.place a.outer give)
    a.heap.now a.heap.now c.read_table.new.heap a.budget.now c.read_table.new.budget c.in_ok-step-in-Table.step
    (read_known a.object a.key a.place a.outer c.source_of-source.result source c.source_of-source.ensures c.in-Table.is) refl
    (c.in_ok-step-in-Table.ensures.means items)

pub returns-in_ok-step-in-Terra-clause-means : goal.returns-in_ok-step-in-Terra-clause-means
returns-in_ok-step-in-Terra-clause-means c = λ items.
    let a = c.args in
    let source = Terra c.in-Terra.function in
    moved items a.frames.now.items c.read_terra.new.frames.items (read a.object a.key a.place a.outer give)
    (read_from source a.object a.key a.place a.outer give)
    a.heap.now a.heap.now a.heap.now a.budget.now a.budget.now c.in_ok-step-in-Terra.step
    (read_known a.object a.key a.place a.outer c.source_of-source.result source c.source_of-source.ensures c.in-Terra.is) refl
    (c.in_ok-step-in-Terra.ensures.means items a.budget.now)

pub returns-in_ok-step-in-Nothing-clause-means : goal.returns-in_ok-step-in-Nothing-clause-means
returns-in_ok-step-in-Nothing-clause-means c = λ items.
    let a = c.args in
    let fs = a.frames.now.items in
    moved items fs fs (read a.object a.key a.place a.outer give) (raise a.place (Index c.kind.result))
    a.heap.now a.heap.now c.raise.new.heap a.budget.now c.raise.new.budget c.in_ok-step-in-Nothing.step
    (read_known a.object a.key a.place a.outer c.source_of-source.result Nothing c.source_of-source.ensures c.in-Nothing.is
    ∙ ap (λ (k : Kind). raise a.place (Index k)) (sym c.kind.ensures)) refl
    (c.in_ok-step-in-Nothing.ensures.means items fs)
