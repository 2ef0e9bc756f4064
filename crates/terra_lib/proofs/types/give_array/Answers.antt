use Rattle.terra_lib.proofs.Kept.{always, keeps_array}
use Rattle.terra_lib.proofs.types.give_array.Goals as goal

pub returns-clause-kept : goal.returns-clause-kept
returns-clause-kept c =
    always c.give_one.result (rw c.in_ok-array.ensures.ok (keeps_array _ _ _))
