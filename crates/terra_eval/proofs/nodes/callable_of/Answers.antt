use Rattle.std.proofs.Common.{◌≡◌, sym, ◌∙◌, Some, slice_get}
use Rattle.terra_term.specs.Held.{typed_in}
use Rattle.terra_eval.proofs.Called.{callable-function, callable-expression, callable-statement, callable-none}
use Rattle.terra_eval.proofs.nodes.callable_of.Goals as goal

pub returns-in-Some-Function-clause-callable : goal.returns-in-Some-Function-clause-callable
returns-in-Some-Function-clause-callable c =
    let store = c.args.store.now in
    let function = c.in_ok-function.function in
    let node = c.in_ok-node.node in
    let there : slice_get store.functions c.args.f.0 ≡ Some function = sym c.function.ensures ∙ c.in_ok-function.was in
    let made : typed_in function.state ≡ Some node = sym c.typed_of.ensures ∙ c.in_ok-node.was in
    rw (c.as_slice.ensures, c.as_slice-in-Some-Function.ensures) (callable-function store c.args.f function node there made _ _ _
    (sym (rw c.in-Some-Function.field-0-is at c.in-Some-Function.ensures)))

pub returns-in-Some-Expression-clause-callable : goal.returns-in-Some-Expression-clause-callable
returns-in-Some-Expression-clause-callable c =
    let store = c.args.store.now in
    let function = c.in_ok-function.function in
    let node = c.in_ok-node.node in
    let there : slice_get store.functions c.args.f.0 ≡ Some function = sym c.function.ensures ∙ c.in_ok-function.was in
    let made : typed_in function.state ≡ Some node = sym c.typed_of.ensures ∙ c.in_ok-node.was in
    callable-expression store c.args.f function node there made _ _ _ (sym (rw c.in-Some-Expression.field-0-is at c.in-Some-Expression.ensures))

pub returns-in-Some-Statement-clause-callable : goal.returns-in-Some-Statement-clause-callable
returns-in-Some-Statement-clause-callable c =
    let store = c.args.store.now in
    let function = c.in_ok-function.function in
    let node = c.in_ok-node.node in
    let there : slice_get store.functions c.args.f.0 ≡ Some function = sym c.function.ensures ∙ c.in_ok-function.was in
    let made : typed_in function.state ≡ Some node = sym c.typed_of.ensures ∙ c.in_ok-node.was in
    callable-statement store c.args.f function node there made _ _ (sym (rw c.in-Some-Statement.field-0-is at c.in-Some-Statement.ensures))

pub returns-in-None-clause-callable : goal.returns-in-None-clause-callable
returns-in-None-clause-callable c =
    let store = c.args.store.now in
    let function = c.in_ok-function.function in
    let node = c.in_ok-node.node in
    let there : slice_get store.functions c.args.f.0 ≡ Some function = sym c.function.ensures ∙ c.in_ok-function.was in
    let made : typed_in function.state ≡ Some node = sym c.typed_of.ensures ∙ c.in_ok-node.was in
    callable-none store c.args.f function node there made (sym c.in-None.ensures)
