use Rattle.rv_select.specs.Places.{as_counting}
use Rattle.rv_select.proofs.Bodies.{head-whole}
use Rattle.rv_select.proofs.selection.push_head.Goals as goal

pub returns-clause-code : goal.returns-clause-code
returns-clause-code c =
    head-whole (as_counting c.args.extent.counts c.args.tac.now) c.args.homes.now c.in_ok-words.words c.in_ok-words.frame c.args.code.now.items c.push_entry.new.code.items c.push_call_head.new.code.items
    c.in_ok-words.ensures.words c.in_ok-words.ensures.bytes c.in_ok-entry.ensures.code c.in_ok-push_call_head.ensures
