-- Directed code leads from block to block as the other.
use Rattle.std.proofs.Common.{◌≡◌, ℕ, suc, Bool, ◌&&◌, List, [], ◌∷◌, map, refl, ap, ◌∙◌}
use Rattle.tac_form.specs.declared.tac.Block.{Block}
use Rattle.tac_form.specs.Fits.{blocks_count}
use Rattle.tac_copies.specs.Once.{is_once}
use Rattle.tac_copies.specs.Directed.{directed_block, directed_code}
use Rattle.tac_copies.specs.Laws.{KeepsCounted}

and-same : (a b c : Bool) → b ≡ c → (a && b) ≡ (a && c)
and-same a b c e = ap (λ z. a && z) e

same-count : (once : ℕ → Bool) (from : ℕ) (bs : List Block) →
    blocks_count from (map (directed_block once) bs) ≡ blocks_count from bs
same-count once from [] = refl
same-count once from (b ∷ bs) = and-same _ _ _ (same-count once (suc from) bs)

pub directed-counted : KeepsCounted directed_code
unfolding directed_code
directed-counted code c = same-count (is_once code) 0 code.blocks ∙ c
