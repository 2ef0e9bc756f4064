use Rattle.std.proofs.Common.{ℕ, sym, ap, ◌∙◌}
use Rattle.std.specs.Prelude.{nat_lt}
use Rattle.tl_tree.specs.Numbers.{value_of}
use Rattle.tl_parse.specs.Views.TerraExpressions.{terra_number_at}
use Rattle.tl_parse.proofs.TerraNumbers.{taken_terra_number, barred_terra_number}
use Rattle.tl_parse.proofs.parser.Parser.take_terra_number.Goals as goal

pub returns-in-Err-clause-err : goal.returns-in-Err-clause-err
unfolding terra_number_at
returns-in-Err-clause-err c =
    barred_terra_number c.args.self.now c.in-Err.e (sym c.next_is_among.ensures ∙ c.if-not-next_is_among.false)
    (ap (λ (n : ℕ). nat_lt n (value_of c.args.self.now.current.text.now)) (sym c.largest_terra.ensures) ∙ sym c.is_above.ensures ∙ c.if-is_above.false) c.in-Err.ensures.err

pub returns-clause-ok : goal.returns-clause-ok
unfolding terra_number_at
returns-clause-ok c =
    taken_terra_number c.args.self.now c.advance.new.self c.in-Ok.x (sym c.next_is_among.ensures ∙ c.if-not-next_is_among.false)
    (ap (λ (n : ℕ). nat_lt n (value_of c.args.self.now.current.text.now)) (sym c.largest_terra.ensures) ∙ sym c.is_above.ensures ∙ c.if-is_above.false) c.in-Ok.ensures.ok
