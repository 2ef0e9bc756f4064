use Rattle.std.proofs.lemmas.Result.{IfOk-weaker}
use Rattle.tac_copies.specs.Kept.{standing}
use Rattle.tac_copies.specs.Taken.{taken_code}
use Rattle.tac_copies.proofs.TakenSteps.{parameter_goes, parameters_end}
use Rattle.tac_copies.proofs.taking.taken_of.Goals as goal

pub parameters-preserved : goal.parameters-preserved
parameters-preserved c =
    let code = c.args.code.now in
    let first = c.args.first.now in
    let goes = parameter_goes code (taken_code (standing code code.parameters first.instructions first.exit c.args.rest.now)) first.exit
    c.args.rest.now c.as_slice-instructions.result.now c.parameters.taken c.parameters.parameters.items c.deref.result.now
    c.deref-in-Some.result.now c.in_ok-parameters-2.parameters.items c.in-Some.p c.in-Some.v c.in_ok-p.field-0 c.deref.ensures.value
    c.deref-in-Some.ensures.value c.in_ok-p.ensures c.in-Some.is c.in_ok-parameters-2.ensures c.parameters.invariant.same in
    record { within = goes.within; few = goes.few; same = goes.left }

pub returns : goal.returns
returns c =
    let code = c.args.code.now in
    let first = c.args.first.now in
    IfOk-weaker c.standing.result _ _
    (λ made is.
    parameters_end code (taken_code (standing code code.parameters first.instructions first.exit c.args.rest.now)) first.exit
    c.args.rest.now c.as_slice-instructions.result.now c.parameters.taken c.parameters.parameters.items c.deref.result.now
    made c.in_ok-p.field-0 c.deref.ensures.value c.in_ok-p.ensures c.in_default.is is c.parameters.invariant.same)
    c.standing.ensures
