use Rattle.std.proofs.Common.{◌∙◌, drop, length}
use Rattle.rv_select.proofs.Askings.{homes-made}
use Rattle.rv_select.proofs.asked.asked_homes.Goals as goal

pub returns : goal.returns
returns c =
    homes-made c.args.tac.now c.args.reads.now c.args.homes.now c.deref_mut.result.now c.give_homes.new.given
    (drop (length c.give_homes.new.given) c.in_ok-given.given.items) c.as_slice.result.now c.as_slice-2.result.now c.new-asked.result.items
    c.ask_blocks.new.asked.items c.deref.result.now c.in_ok-first.first c.in_ok-given.given.len c.requires c.as_slice.ensures c.as_slice-2.ensures
    c.in_ok-first.ensures.number c.new-asked.ensures.items c.in_ok-ask_blocks.ensures
    c.deref.ensures.value (c.deref_mut.ensures.value ∙ c.in_ok-given.ensures) c.deref_mut.ensures.len c.give_homes.ensures
