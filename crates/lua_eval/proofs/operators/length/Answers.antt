use Rattle.std.proofs.Common.{refl, sym, ap, ◌∙◌}
use Rattle.lua_value.specs.declared.kind.Kind.{Kind}
use Rattle.lua_ops.specs.declared.fault.Fault.TheVariants.{Length}
use Rattle.lua_model.specs.Plans.{raise}
use Rattle.lua_model.specs.Operators.{length_plan}
use Rattle.lua_eval.proofs.Below.{moved}
use Rattle.lua_eval.proofs.Operands.{no_length}
use Rattle.lua_eval.proofs.operators.length.Goals as goal

pub returns-in_ok-step-in_default-clause-means : goal.returns-in_ok-step-in_default-clause-means
returns-in_ok-step-in_default-clause-means c = λ items fs.
    let a = c.args in
    moved items fs fs (length_plan a.value a.place) (raise a.place (Length c.kind.result))
    a.heap.now a.heap.now c.raise.new.heap a.budget.now c.raise.new.budget c.in_ok-step-in_default.step
    (no_length a.value a.place c.in_default.not-Text c.in_default.not-Table
    ∙ ap (λ (k : Kind). raise a.place (Length k)) (sym c.kind.ensures)) refl
    (c.in_ok-step-in_default.ensures.means items fs)
