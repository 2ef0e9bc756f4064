use Rattle.std.proofs.Common.{sym, ◌∙◌}
use Rattle.tl_parse.proofs.Looking.{barred_suffix, free_suffix}
use Rattle.tl_parse.proofs.parser.Parser.next_is_suffix.Goals as goal

pub returns-then-next_is_barred : goal.returns-then-next_is_barred
returns-then-next_is_barred c = barred_suffix c.args.self.now c.args.mode (sym c.next_is_barred.ensures ∙ c.if-next_is_barred.true)

pub returns : goal.returns
returns c = c.next_is_any_suffix.ensures ∙ free_suffix c.args.self.now c.args.mode (sym c.next_is_barred.ensures ∙ c.if-next_is_barred.false)
