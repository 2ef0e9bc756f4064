use Rattle.renaming_alike.proofs.RenamedAlike.{renamed_alike}
use Rattle.renaming_alike.proofs.law.renamed_texts_are_alike.Goals as goal

pub returns : goal.returns
returns c = renamed_alike
