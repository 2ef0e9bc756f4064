use Rattle.check_flow.proofs.Laying.{asks_part}
use Rattle.check_flow.proofs.layout_steps.parts_left.Goals as goal

pub returns-in_ok-push-in-Some-clause-means : goal.returns-in_ok-push-in-Some-clause-means
returns-in_ok-push-in-Some-clause-means c = λ left.
    let a = c.args in
    asks_part a.frames.now.items c.push.new.self.items a.of a.value a.rest c.take.new.self a.entries c.in-Some.entry a.at a.world.now left
    c.in-Some.ensures c.in_ok-push-in-Some.ensures.items
