use Rattle.check_library.proofs.Kept.{always, keeps_function}
use Rattle.check_library.proofs.checks.give_function_type.Goals as goal

pub returns-clause-kept : goal.returns-clause-kept
returns-clause-kept c =
    always c.give_one.result (rw c.in_ok-function.ensures.ok (keeps_function _ _ _))
