use Rattle.terra_lib.proofs.Kept.{always, keeps_struct}
use Rattle.terra_lib.proofs.types.new_struct.Goals as goal

pub returns-clause-kept : goal.returns-clause-kept
returns-clause-kept c =
    always c.give_one.result (rw c.in_ok-of.ensures.ok (keeps_struct _ _))
