use Rattle.check_library.proofs.Kept.{always, behind_on, kept_as, keeps_global}
use Rattle.check_library.proofs.layouts.give_global.Goals as goal

pub returns-in-Some-clause-kept : goal.returns-in-Some-clause-kept
returns-in-Some-clause-kept c =
    always c.give_one.result (kept_as c.args.world.now _ _ c.in_ok-global.ensures.ok (keeps_global _ _ _))

pub returns-in-None-clause-kept : goal.returns-in-None-clause-kept
returns-in-None-clause-kept c =
    behind_on c.raise.result c.args.world.now _ _ c.raise.new.world c.in_ok-global.ensures.ok (keeps_global _ _ _) c.raise.ensures.kept
