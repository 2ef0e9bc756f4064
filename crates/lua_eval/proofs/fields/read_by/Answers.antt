use Rattle.std.proofs.Common.{List, refl, sym, ap, ◌∙◌}
use Rattle.tl_base.specs.Plan.{Do}
use Rattle.tl_base.specs.declared.machine.Step.TheVariants.{Enter}
use Rattle.lua_value.specs.declared.value.Value.{Value}
use Rattle.lua_model.specs.declared.job.Job.TheVariants.{Read}
use Rattle.lua_model.specs.Plans.{give, on_one}
use Rattle.lua_model.specs.Calls.{call_library}
use Rattle.lua_model.specs.Fields.{read_by}
use Rattle.lua_eval.specs.declared.frame.LuaFrame.TheVariants.{One}
use Rattle.lua_eval.specs.declared.frame.OneFrame.TheVariants as ones
use Rattle.lua_eval.specs.declared.frame.ValueFrame.TheVariants.{First}
use Rattle.lua_eval.specs.Frames.{after}
use Rattle.lua_eval.proofs.Below.{moved}
use Rattle.lua_eval.proofs.Doing.{enters}
use Rattle.lua_eval.proofs.Reading.{read_by_object}
use Rattle.lua_table.proofs.Keeping.{keeps_itself}
use Rattle.lua_eval.proofs.fields.read_by.Goals as goal

pub returns-in_ok-step-in-Library-clause-means : goal.returns-in_ok-step-in-Library-clause-means
returns-in_ok-step-in-Library-clause-means c = λ items.
    let a = c.args in
    let f = c.in-Library.function in
    let args = c.in_ok-args-in-Library.args in
    moved items a.frames.now.items c.value_by_library.new.frames.items (read_by a.handler a.table a.key a.place a.outer give)
    (call_library f args a.place a.outer (λ r. on_one r give))
    a.heap.now a.heap.now c.value_by_library.new.heap a.budget.now c.value_by_library.new.budget c.in_ok-step-in-Library.step
    (ap (λ (h : Value). read_by h a.table a.key a.place a.outer give) c.in-Library.is
    ∙ ap (λ (vs : List Value). call_library f vs a.place a.outer (λ r. on_one r give)) (sym c.in_ok-args-in-Library.ensures)) refl
    (c.in_ok-step-in-Library.ensures.means items)

pub returns-in_ok-push-in_default : goal.returns-in_ok-push-in_default
returns-in_ok-push-in_default c =
    let a = c.args in
    let d = c.in_default in
    let fs = a.frames.now.items in
    let pushed = c.push-in_default.new.self.items in
    let job = Read a.handler a.key a.place a.outer in
    let f = One (ones.Value First) in
    record {
      means = λ items.
          moved items fs pushed (read_by a.handler a.table a.key a.place a.outer give) (Do job (after items f))
          a.heap.now a.heap.now a.heap.now a.budget.now a.budget.now (Enter job)
          (read_by_object a.handler a.table a.key a.place a.outer give d.not-Nil d.not-Closure d.not-Library) refl
          (enters items fs pushed f job a.heap.now a.budget.now c.in_ok-push-in_default.ensures.items);
      kept = keeps_itself a.heap.now;
    }
