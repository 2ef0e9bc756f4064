use Rattle.std.proofs.Common.{◌∙◌, ap}
use Rattle.check_expr.specs.Quoted.{names_ahead}
use Rattle.check_expr.proofs.Ahead.{ahead_more}
use Rattle.check_expr.proofs.quoted.put.Goals as goal

pub returns : goal.returns
returns c = λ w. ap (names_ahead w) c.in_ok-push.ensures.items ∙ ahead_more w c.args.ahead.now.items c.args.next
