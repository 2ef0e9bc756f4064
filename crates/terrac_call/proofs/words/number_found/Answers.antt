use Rattle.std.proofs.Common.{◌∙◌, ap}
use Rattle.terrac_call.specs.Words.{number_or_zero}
use Rattle.terrac_call.proofs.words.number_found.Goals as goal

pub returns : goal.returns
returns c = c.number_or_zero.ensures ∙ ap number_or_zero c.text_of.ensures
