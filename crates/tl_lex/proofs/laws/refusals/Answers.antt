use Rattle.tl_lex.proofs.RefusalLemmas.{bad_byte, open_text}
use Rattle.tl_lex.proofs.laws.refusals.Goals as goal

pub returns : goal.returns
returns c = record { bad_byte = bad_byte c.args.text.now; open_text = open_text c.args.text.now }
