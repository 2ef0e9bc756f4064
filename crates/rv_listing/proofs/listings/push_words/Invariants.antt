use Rattle.rv_listing.proofs.Listed.{Listed}
use Rattle.rv_listing.proofs.listings.push_words.Given as goal

abbrev pub invariant-loop-word : goal.invariant-loop-word
invariant-loop-word l = Listed l.words l.fn.out l.out l.word-index l.address
