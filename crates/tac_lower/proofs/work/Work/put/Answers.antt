use Rattle.tac_lower.proofs.Lines.{counted-does}
use Rattle.tac_lower.proofs.work.Work.put.Goals as goal

pub invariant_of-self-2 : goal.invariant_of-self-2
invariant_of-self-2 c = counted-does c.self.inside.code.items c.push.new.self.items c.args.instruction c.self.inside.ended c.self.invariant c.in_ok-push.ensures.items
