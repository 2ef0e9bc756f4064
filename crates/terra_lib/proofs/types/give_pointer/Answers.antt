use Rattle.terra_lib.proofs.Kept.{always, keeps_pointer}
use Rattle.terra_lib.proofs.types.give_pointer.Goals as goal

pub returns-clause-kept : goal.returns-clause-kept
returns-clause-kept c =
    always c.give_one.result (rw c.in_ok-pointer.ensures.ok (keeps_pointer _ _))
