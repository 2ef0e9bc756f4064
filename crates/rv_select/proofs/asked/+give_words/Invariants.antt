use Rattle.std.specs.Prelude.{length}
use Rattle.rv_select.proofs.asked.+give_words.Given as goal

abbrev pub decreases-give_words : goal.decreases-give_words
decreases-give_words l = length l.parameters.now
