-- Code without the blocks that no way leads to leads from block to block as the other, and on to the next where one isn't reached.
use Rattle.std.proofs.Common.{◌≡◌, ◌<◌, ℕ, zero, suc, Bool, true, false, List, [], ◌∷◌, length, take, refl, arith}
use Rattle.std.specs.Prelude.{if◌then◌else◌}
use Rattle.std.proofs.lemmas.Bool.{and_from, and_parts, lt-ltb}
use Rattle.tac_form.specs.declared.tac.Block.{Block}
use Rattle.tac_form.specs.Fits.{blocks_count}
use Rattle.tac_copies.specs.Reached.{is_reached, passed, passed_where, reached_code, up_to_last}
use Rattle.tac_copies.specs.Laws.{KeepsCounted}

passed-count : (reached : ℕ → Bool) (bs : List Block) (from : ℕ) → blocks_count from bs ≡ true →
    blocks_count from (passed_where reached from bs) ≡ true
passed-count reached [] from h = refl
passed-count reached (b ∷ bs) from h = by (reached from) (passed-count reached bs (suc from) (and_parts _ _ h).1)
  where
    next : from < suc from
    next = omega arith

    by : (r : Bool) → blocks_count (suc from) (passed_where reached (suc from) bs) ≡ true →
        blocks_count from ((if r then b else passed from) ∷ passed_where reached (suc from) bs) ≡ true
    by true g = and_from _ _ (and_parts _ _ h).0 g
    by false g = and_from _ _ (lt-ltb from (suc from) next) g

taken-count : (bs : List Block) (m from : ℕ) → blocks_count from bs ≡ true → blocks_count from (take m bs) ≡ true
taken-count bs zero from h = refl
taken-count [] (suc m) from h = refl
taken-count (b ∷ bs) (suc m) from h =
    let p = and_parts _ _ h in
    and_from _ _ p.0 (taken-count bs m (suc from) p.1)

pub reached-counted : KeepsCounted reached_code
unfolding reached_code
reached-counted code c =
    let m = up_to_last (is_reached code) (length code.blocks) in
    passed-count (is_reached code) (take m code.blocks) 0 (taken-count code.blocks m 0 c)
