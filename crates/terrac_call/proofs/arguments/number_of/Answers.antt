use Rattle.terrac_call.proofs.Numbers.{number_too_large, number_done}
use Rattle.terrac_call.proofs.arguments.number_of.Goals as goal

pub returns-in-None : goal.returns-in-None
returns-in-None c =
    number_too_large c.digits.number c.in-Some.digit.now _ c.digits.rest.now c.in-Some.others.now c.in-Some.ensures.cases.0
    c.digits.invariant.same c.in-None.ensures

pub returns : goal.returns
returns c = number_done c.digits.number c.digits.rest.now _ c.in_default.ensures.cases c.digits.invariant.same c.digits.invariant.fits
