use Rattle.renaming_alike.proofs.RenamedAlike.{renamed_reads}
use Rattle.renaming_alike.proofs.law.renamed_texts_read.Goals as goal

pub returns : goal.returns
returns c = renamed_reads
