use Rattle.rv_listing.proofs.OneWordEach.{one_listing}
use Rattle.rv_listing.proofs.listings.one_listing.Goals as goal

pub returns : goal.returns
returns c = one_listing
