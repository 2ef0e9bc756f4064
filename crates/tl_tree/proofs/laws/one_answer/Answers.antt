use Rattle.tl_tree.proofs.Answering.{chunks_one}
use Rattle.tl_tree.proofs.laws.one_answer.Goals as goal

pub returns : goal.returns
returns c = chunks_one
