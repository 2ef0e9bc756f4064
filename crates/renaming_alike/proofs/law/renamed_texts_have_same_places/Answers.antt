use Rattle.renaming_alike.proofs.RenamedAlike.{renamed_stands}
use Rattle.renaming_alike.proofs.law.renamed_texts_have_same_places.Goals as goal

pub returns : goal.returns
returns c = renamed_stands
