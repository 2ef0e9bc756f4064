-- Machine code can be made of shortened code as of the other.
use Rattle.std.proofs.Common.{arith}
use Rattle.tac_copies.specs.Shortened.{shortened_code}
use Rattle.tac_copies.specs.Laws.{KeepsFits}
use Rattle.tac_copies.proofs.ShortenedKeepsSized.{words-no-more}
use Rattle.tac_copies.proofs.ShortenedKeepsWithin.{keeps-within}
use Rattle.tac_copies.proofs.ShortenedKeepsLive.{shortened-live}

pub keeps-fits : KeepsFits shortened_code
unfolding shortened_code
keeps-fits code h = record {
  within = keeps-within code h.within;
  short = let l = words-no-more code in let k = h.short in omega (arith, l, k);
  few = h.few;
  begins = λ t.
      let l = shortened-live code t 0 in
      let b = h.begins t in
      (λ x. b.0 (l.0 x), λ x. l.1 (b.1 x));
}
