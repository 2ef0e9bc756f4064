use Rattle.terra_lib.proofs.Kept.{always, keeps_function}
use Rattle.terra_lib.proofs.fields.give_function.Goals as goal

pub returns-clause-kept : goal.returns-clause-kept
returns-clause-kept c =
    always c.give_one.result (rw c.in_ok-function.ensures.ok (keeps_function _ _ _))
