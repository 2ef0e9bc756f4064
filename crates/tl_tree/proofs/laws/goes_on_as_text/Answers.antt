use Rattle.tl_tree.proofs.Answering.{chunk_goes, unrefused_goes}
use Rattle.tl_tree.proofs.laws.goes_on_as_text.Goals as goal

pub returns-clause-chunks : goal.returns-clause-chunks
returns-clause-chunks c = chunk_goes

pub returns-clause-unrefused_chunks : goal.returns-clause-unrefused_chunks
returns-clause-unrefused_chunks c = unrefused_goes
