use Rattle.std.proofs.Common.{get_or, refl, arith}
use Rattle.rv_listing.proofs.Listed.{listed_next, listed_end}
use Rattle.rv_listing.proofs.listings.push_words.Goals as goal

pub overflow_add-address : goal.overflow_add-address
overflow_add-address c = omega (arith, c.loop-word.invariant.place, c.requires)

pub loop-word-preserved : goal.loop-word-preserved
loop-word-preserved c =
    listed_next c.args.words.now c.args.out.now c.loop-word.out c.push_word.new.out c.loop-word.word-index c.loop-word.address
    (get_or c.args.words.now c.loop-word.word-index 0) c.loop-word.invariant (omega arith) refl c.in_ok-push_word.ensures

pub returns : goal.returns
returns c =
    listed_end c.args.words.now c.args.out.now c.loop-word.out c.loop-word.word-index c.loop-word.address c.loop-word.invariant (omega arith)
