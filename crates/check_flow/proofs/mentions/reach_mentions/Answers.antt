use Rattle.std.proofs.Common.{◌∙◌, ap, sym}
use Rattle.check_model.specs.Checks.{with_mentions}
use Rattle.check_flow.specs.Parts.{parts_mentions}
use Rattle.check_flow.proofs.Mentioning.{parts_more}
use Rattle.check_flow.proofs.mentions.reach_mentions.Goals as goal

pub parts-preserved : goal.parts-preserved
parts-preserved c =
    let w = c.args.world.now in
    c.in_ok-go_through.ensures
    ∙ ap (with_mentions c.parts.queue c.args.f)
    (sym (ap (parts_mentions w) c.in-Some.ensures.items ∙ parts_more w c.pop.new.self.items c.in-Some.part))
    ∙ c.parts.invariant
