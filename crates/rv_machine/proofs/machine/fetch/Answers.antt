use Rattle.std.proofs.Common.{map, sym, ap, ◌∙◌, ℕ}
use Rattle.rv_machine.specs.Decoded.{found_of}
use Rattle.rv_machine.specs.Machine.{fetch}
use Rattle.rv_machine.proofs.Programs.{found_at}
use Rattle.rv_machine.proofs.Places.{fetch_place}
use Rattle.rv_machine.proofs.machine.fetch.Goals as goal

pub returns : goal.returns
returns c =
    found_at c.args.text.now c.place_at.result c.get.result c.get.ensures.lookup.0 c.get.ensures.lookup.1
    ∙ sym (fetch_place c.args.text.now c.place_at.result c.place_at.type_inv c.requires)
    ∙ ap (λ (pc : ℕ). fetch (map found_of c.args.text.now) pc) c.place_at.ensures
