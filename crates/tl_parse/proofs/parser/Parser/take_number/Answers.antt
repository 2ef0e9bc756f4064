use Rattle.std.proofs.Common.{sym, ◌∙◌}
use Rattle.tl_parse.specs.Views.Using.{number_at}
use Rattle.tl_parse.proofs.Numbers.{taken_number, barred_number}
use Rattle.tl_parse.proofs.parser.Parser.take_number.Goals as goal

pub returns-in-Err-clause-err : goal.returns-in-Err-clause-err
unfolding number_at
returns-in-Err-clause-err c =
    barred_number c.args.self.now c.in-Err.e (sym c.next_is.ensures ∙ c.if-not-next_is.false) (sym c.is_above.ensures ∙ c.if-is_above.false) c.in-Err.ensures.err

pub returns-clause-ok : goal.returns-clause-ok
unfolding number_at
returns-clause-ok c =
    taken_number c.args.self.now c.advance.new.self c.in-Ok.x (sym c.next_is.ensures ∙ c.if-not-next_is.false) (sym c.is_above.ensures ∙ c.if-is_above.false) c.in-Ok.ensures.ok
