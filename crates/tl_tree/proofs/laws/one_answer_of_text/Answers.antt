use Rattle.tl_tree.proofs.Answering.{one_text_answer}
use Rattle.tl_tree.proofs.laws.one_answer_of_text.Goals as goal

pub returns : goal.returns
returns c = one_text_answer c.args.text.now
