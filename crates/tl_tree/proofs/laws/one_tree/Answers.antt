use Rattle.tl_tree.specs.Tokens.{tokens_of}
use Rattle.tl_tree.proofs.Answering.{one_chunk}
use Rattle.tl_tree.proofs.laws.one_tree.Goals as goal

pub returns : goal.returns
returns c = one_chunk (tokens_of c.args.text.now)
