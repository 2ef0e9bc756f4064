use Rattle.tl_lex.proofs.LawLemmas.{longest_token}
use Rattle.tl_lex.proofs.LongestLemmas.{only_literal}
use Rattle.tl_lex.proofs.laws.longest_token.Goals as goal

pub returns : goal.returns
returns c = record { longest = longest_token c.args.text.now; literal = only_literal c.args.text.now }
