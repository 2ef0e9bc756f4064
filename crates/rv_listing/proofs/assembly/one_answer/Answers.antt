use Rattle.rv_listing.proofs.OneWordEach.{one_answer}
use Rattle.rv_listing.proofs.assembly.one_answer.Goals as goal

pub returns : goal.returns
returns c = one_answer
