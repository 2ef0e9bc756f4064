use Rattle.rv_listing.proofs.Feeds.{texts_assemble}
use Rattle.rv_listing.proofs.assembly.texts_assemble.Goals as goal

pub returns : goal.returns
returns c = texts_assemble
