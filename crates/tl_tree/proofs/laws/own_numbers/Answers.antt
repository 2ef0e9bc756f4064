use Rattle.tl_tree.proofs.OwnNumbers.{own_numbers}
use Rattle.tl_tree.proofs.laws.own_numbers.Goals as goal

pub returns : goal.returns
returns c = own_numbers
