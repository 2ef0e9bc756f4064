use Rattle.std.proofs.Common.{sym, ap, ◌∙◌}
use Rattle.terra_memory.specs.Region.{Contents}
use Rattle.terra_memory.proofs.RegionLaws.{load_of-outside}
use Rattle.terra_memory.proofs.Answering.{load_of-read}
use Rattle.terra_memory.proofs.region.Region.load.Goals as goal

pub returns-in_err-at-clause-value : goal.returns-in_err-at-clause-value
returns-in_err-at-clause-value c =
    c.from_residual.ensures ∙ sym (load_of-outside c.args.self.now c.args.address c.args.size c.in_err-at.ensures)

pub returns-clause-value : goal.returns-clause-value
returns-clause-value c =
    sym (load_of-read c.args.self.now c.args.address c.args.size c.in_ok-at.at c.number_at.result c.deref.result.now c.in_ok-at.ensures.0 c.in_ok-at.ensures.1
    (c.deref.ensures.value ∙ ap (λ (r : Contents). r.bytes) c.self.view_is) c.number_at.ensures.value)
