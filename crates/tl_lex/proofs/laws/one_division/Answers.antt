use Rattle.std.proofs.Common.{drop}
use Rattle.tl_lex.specs.Answers.{first_line_len}
use Rattle.tl_lex.proofs.LawLemmas.{one_division, ends_once}
use Rattle.tl_lex.proofs.laws.one_division.Goals as goal

pub returns : goal.returns
returns c = record { division = one_division (drop (first_line_len c.args.text.now) c.args.text.now); answers = ends_once c.args.text.now }
