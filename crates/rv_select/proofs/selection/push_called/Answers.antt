use Rattle.rv_select.specs.Places.{with_counting}
use Rattle.rv_select.proofs.Bodies.{called-turn}
use Rattle.rv_select.proofs.selection.push_called.Goals as goal

pub returns-clause-code : goal.returns-clause-code
returns-clause-code c =
    called-turn c.push_call_ended.result (with_counting c.args.homes.now c.args.counts) c.args.sizes.now c.args.held c.args.to c.args.at c.args.callee
    c.args.arguments.now c.args.code.now.items c.push_call_begun.new.code.items c.push_jump_to.new.code.items c.push_call_ended.new.code.items
    c.in_ok-push_call_begun.ensures c.in_ok-push_jump_to.ensures.code c.push_call_ended.ensures
