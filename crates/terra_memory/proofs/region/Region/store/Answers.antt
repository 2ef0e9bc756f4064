use Rattle.std.proofs.Common.{◌≡◌, length, ap, ◌∙◌, arith}
use Rattle.std.proofs.lemmas.List.{with_items_is}
use Rattle.terra_memory.specs.Region.{Contents}
use Rattle.terra_memory.proofs.Answering.{store_of-written}
use Rattle.terra_memory.proofs.region.Region.store.Goals as goal

pub returns-in-Some-clause-stored : goal.returns-in-Some-clause-stored
returns-in-Some-clause-stored c =
    let size : length c.put_number.new.bytes ≡ c.self.inside.bytes.len = omega arith in
    store_of-written c.args.self.now c.args.address c.args.size c.args.value c.in-Some.at c.self.inside.heap c.deref_mut.result.now _ c.in-Some.ensures.0 c.in-Some.ensures.1
    (c.deref_mut.ensures.value ∙ ap (λ (r : Contents). r.bytes) c.self.view_is)
    (ap (λ (r : Contents). r.heap) c.self.view_is)
    (with_items_is c.self.inside.bytes c.put_number.new.bytes size ∙ c.put_number.ensures)
