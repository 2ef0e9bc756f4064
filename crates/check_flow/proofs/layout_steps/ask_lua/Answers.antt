use Rattle.check_flow.proofs.Laying.{asks_lua}
use Rattle.check_flow.proofs.layout_steps.ask_lua.Goals as goal

pub returns : goal.returns
returns c = λ left.
    let a = c.args in
    asks_lua a.frames.now.items c.push.new.self.items a.handler a.of c.in_ok-values.values a.at a.world.now left
    c.in_ok-values.ensures c.in_ok-push.ensures.items
