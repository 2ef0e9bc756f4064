use Rattle.std.proofs.Common.{◌≡◌, ◌∙◌, ◌++◌, ◌<◌, List, refl, sym, ap, subst, map, take, drop, arith, length}
use Rattle.terra_meaning.specs.Running.{held, set}
use Rattle.terra_eval.specs.declared.state.Variable.{Variable}
use Rattle.terra_eval.specs.Variables.{variable_of}
use Rattle.terra_eval.proofs.Turns.{no-variable, set-here}
use Rattle.terra_eval.proofs.state.set_in.Goals as goal

pub returns-then-x-variables : goal.returns-then-x-variables
returns-then-x-variables c =
    let x = c.args.x in
    let h = held c.args.value in
    let i = c.loop-i.i in
    let vs = c.loop-i.variables in
    let same = c.loop-i.invariant.same in
    let within : i < length vs = omega (arith, ap (λ (l : List Variable). length l) same, c.loop-i-test.true) in
    let passed : set x h (map variable_of vs) ≡ map variable_of (take i vs) ++ set x h (map variable_of (drop i vs)) =
    subst (λ (l : List Variable). set x h (map variable_of l) ≡ map variable_of (take i l) ++ set x h (map variable_of (drop i l))) (sym same) c.loop-i.invariant.passed in
    set-here x h vs i no-variable within passed _ c.if-x-variables.true refl
    ∙ ap (λ (l : List Variable). set x h (map variable_of l)) same
