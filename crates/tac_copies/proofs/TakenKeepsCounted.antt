-- Code whose parameters are taken at once leads from block to block as the other.
use Rattle.std.proofs.Common.{zero, suc, ℕ, sym, ap, ◌∙◌, subst, inl, inr}
use Rattle.tac_form.specs.Fits.{Counted, blocks_count}
use Rattle.tac_copies.specs.Taken.{most_taken, taken_code, taken_once, taken_times}
use Rattle.tac_copies.specs.Laws.{KeepsCounted}
use Rattle.tac_copies.proofs.TakenShape.{Shape, shape}

once-counted : KeepsCounted taken_once
once-counted code c = by (shape code)
  where
    by : Shape code → Counted (taken_once code)
    by (inl q) = subst Counted (sym q) c
    by (inr k) = subst Counted (sym k.made) (sym (ap (blocks_count 0) k.blocks) ∙ c)

times-counted : (n : ℕ) → KeepsCounted (taken_times n)
times-counted zero code c = c
times-counted (suc n) code c = times-counted n (taken_once code) (once-counted code c)

pub taken-counted : KeepsCounted taken_code
unfolding taken_code
taken-counted code c = times-counted most_taken code c
