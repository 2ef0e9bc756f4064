use Rattle.rv_operators.proofs.Runs.{words-stand}
use Rattle.rv_operators.proofs.law.instructions_stand_at_their_words.Goals as goal

pub returns : goal.returns
returns c = words-stand
