use Rattle.std.proofs.Common.{◌≡◌, List, ◌∷◌, refl, sym, ap, ◌∙◌, codes}
use Rattle.tl_base.specs.Plan.{Give}
use Rattle.tl_tree.specs.Arena.{items_of}
use Rattle.lua_value.specs.declared.kind.Kind.TheVariants as kinds
use Rattle.lua_value.specs.declared.value.Value.{Value}
use Rattle.lua_value.specs.declared.value.Value.TheVariants as values
use Rattle.lua_table.specs.Metatables.{handler_at}
use Rattle.lua_ops.specs.declared.fault.Fault.{Fault}
use Rattle.lua_ops.specs.declared.fault.Fault.TheVariants.{Call}
use Rattle.lua_model.specs.Plans.{LuaPlan, raise}
use Rattle.lua_model.specs.Calls.{call, call_handler}
use Rattle.lua_eval.specs.Calls.{call_fault}
use Rattle.lua_eval.proofs.Below.{moved}
use Rattle.lua_eval.proofs.Invoking.{not_called}
use Rattle.lua_eval.proofs.calls.call.Goals as goal

pub returns-in_ok-step-in-Library-clause-means : goal.returns-in_ok-step-in-Library-clause-means
returns-in_ok-step-in-Library-clause-means c =
    rw c.in-Library.is (c.in_ok-step-in-Library.ensures.means (items_of c.args.tree.now))

pub returns-in_ok-step-in-Table-clause-means : goal.returns-in_ok-step-in-Table-clause-means
returns-in_ok-step-in-Table-clause-means c =
    let a = c.args in
    let m = c.in-Table in
    let items = items_of a.tree.now in
    let handled : Value → List Value → LuaPlan =
    λ f vs. call_handler f vs a.place a.outer Give (raise a.place (Call kinds.Table)) in
    let table = values.Table m.field-0 in
    let handler = c.handler_of-handler.result in
    let handler_is : handler ≡ handler_at a.heap.now m.field-0 (codes "__call") = rw m.is at c.handler_of-handler.ensures in
    let args_are : c.in_ok-args-in-Table.args ≡ table ∷ a.args =
    (rw m.is at c.in_ok-args-in-Table.ensures) ∙ ap (λ (vs : List Value). table ∷ vs) c.as_slice.ensures in
    rw m.is (moved items a.frames.now.items c.call_handler.new.frames.items
    (handled (handler_at a.heap.now m.field-0 (codes "__call")) (table ∷ a.args)) (handled handler c.in_ok-args-in-Table.args)
    a.heap.now a.heap.now c.call_handler.new.heap a.budget.now c.call_handler.new.budget c.in_ok-step-in-Table.step
    (ap (λ (f : Value). handled f (table ∷ a.args)) (sym handler_is)
    ∙ ap (λ (vs : List Value). handled handler vs) (sym args_are)) refl (c.in_ok-step-in-Table.ensures.means items))

pub returns-in_ok-step-in_default-clause-means : goal.returns-in_ok-step-in_default-clause-means
returns-in_ok-step-in_default-clause-means c =
    let a = c.args in
    let d = c.in_default in
    let items = items_of a.tree.now in
    let fs = a.frames.now.items in
    moved items fs fs (call items a.by a.function a.args a.place a.outer Give) (raise a.place c.call_fault.result)
    a.heap.now a.heap.now c.raise.new.heap a.budget.now c.raise.new.budget c.in_ok-step-in_default.step
    (not_called items a.by a.function a.args a.place a.outer Give d.not-Closure d.not-Library d.not-Table d.not-TerraFunction
    ∙ ap (λ (f : Fault). raise a.place f) (sym c.call_fault.ensures)) refl
    (c.in_ok-step-in_default.ensures.means items fs)
