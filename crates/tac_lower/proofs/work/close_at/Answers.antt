use Rattle.tac_lower.proofs.Lines.{set-reached}
use Rattle.tac_lower.proofs.work.close_at.Goals as goal

pub returns-in-Some : goal.returns-in-Some
returns-in-Some c =
    set-reached c.args.code.now c.args.position c.args.blocks c.in-Some.ending c.reaching.result c.in-Some.ensures.ending c.reaching.ensures
