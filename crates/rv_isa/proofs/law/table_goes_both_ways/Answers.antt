-- The law of the table is a lemma on its definitions.
use Rattle.rv_isa.proofs.OneWord.{word_of-same}
use Rattle.rv_isa.proofs.law.table_goes_both_ways.Goals as goal

pub returns : goal.returns
returns c = word_of-same
