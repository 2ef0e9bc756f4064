use Rattle.std.proofs.Common.{◌∙◌, ap}
use Rattle.check_flow.specs.Parts.{parts_mentions}
use Rattle.check_flow.proofs.Mentioning.{parts_more}
use Rattle.check_flow.proofs.mentions.expression.Goals as goal

pub returns : goal.returns
returns c = λ w. ap (parts_mentions w) c.in_ok-push.ensures.items ∙ parts_more w c.args.parts.now.items _
