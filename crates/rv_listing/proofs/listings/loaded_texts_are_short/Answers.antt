use Rattle.rv_listing.proofs.ShortText.{short_text}
use Rattle.rv_listing.proofs.listings.loaded_texts_are_short.Goals as goal

pub returns : goal.returns
returns c = short_text
