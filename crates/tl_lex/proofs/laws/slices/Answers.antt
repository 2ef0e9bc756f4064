use Rattle.tl_lex.proofs.LawLemmas.{slices}
use Rattle.tl_lex.proofs.laws.slices.Goals as goal

pub returns : goal.returns
returns c = slices c.args.text.now
