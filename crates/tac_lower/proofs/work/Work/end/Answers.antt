use Rattle.std.proofs.Common.{◌≡◌, ◌+◌, arith}
use Rattle.std.proofs.lemmas.Grind.{common_steps}
use Rattle.tac_lower.proofs.Lines.{counted-ends}
use Rattle.tac_lower.proofs.work.Work.end.Goals as goal

pub invariant_of-self-2 : goal.invariant_of-self-2
invariant_of-self-2 c =
    let more : c.in_ok-ended.ended ≡ c.self.inside.ended + 1 = grind (arith, common_steps) in
    counted-ends c.self.inside.code.items c.push.new.self.items c.args.ending c.self.inside.ended c.in_ok-ended.ended c.self.invariant
    c.in_ok-push.ensures.items more
