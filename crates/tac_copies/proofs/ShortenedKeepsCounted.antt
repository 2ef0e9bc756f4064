-- Shortened code has the edges that it had.
use Rattle.std.proofs.Common.{◌≡◌, ℕ, suc, Bool, List, [], ◌∷◌, map, refl, ◌∙◌}
use Rattle.tac_form.specs.declared.tac.Exit.{Exit}
use Rattle.tac_form.specs.declared.tac.Exit.TheVariants.{Jump, Branch, Return, Fail}
use Rattle.tac_form.specs.declared.tac.Block.{Block}
use Rattle.tac_form.specs.Fits.{blocks_count}
use Rattle.tac_copies.specs.Once.{is_once}
use Rattle.tac_copies.specs.Shortened.{named_exit, own_names, shortened_block, shortened_code}
use Rattle.tac_copies.specs.Laws.{KeepsCounted}
use Rattle.tac_copies.proofs.ShortenedKeepsStep.{exit-kept}

-- a block of which its exit alone is told
abbrev ends : Exit → Block
ends e = record { instructions = []; exit = e }

same-edges : (from : ℕ) (bs : List Block) (names : ℕ → ℕ) (e : Exit) →
    blocks_count from (ends (named_exit names e) ∷ bs) ≡ blocks_count from (ends e ∷ bs)
same-edges from bs names (Jump e) = refl
same-edges from bs names (Branch a e f) = refl
same-edges from bs names (Return v) = refl
same-edges from bs names (Fail kind at) = refl

count-same : (once : ℕ → Bool) (from : ℕ) (bs : List Block) → blocks_count from (map (shortened_block once) bs) ≡ blocks_count from bs
count-same once from [] = refl
count-same once from (b ∷ bs) =
    exit-kept (λ e. blocks_count from (ends e ∷ map (shortened_block once) bs)) (same-edges from (map (shortened_block once) bs)) once
    own_names b.instructions b.exit
    ∙ rw (count-same once (suc from) bs)

pub keeps-counted : KeepsCounted shortened_code
unfolding shortened_code
keeps-counted code h = count-same (is_once code) 0 code.blocks ∙ h
