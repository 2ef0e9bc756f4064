use Rattle.rv_select.specs.Places.{as_counting}
use Rattle.rv_select.proofs.Bodies.{call-head}
use Rattle.rv_select.proofs.selection.push_call_head.Goals as goal

pub returns : goal.returns
returns c =
    call-head c.push_received.result (as_counting c.args.extent.counts c.args.tac.now) c.args.homes.now c.args.extent c.args.words c.args.bytes c.as_slice.result.now c.as_slice-2.result.now
    c.args.code.now.items c.push_entered.new.code.items c.push_received.new.code.items c.requires.extent c.as_slice.ensures c.as_slice-2.ensures c.in_ok-push_entered.ensures c.push_received.ensures
