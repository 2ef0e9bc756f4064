-- Code without the blocks that no way leads to, as those behind a `return`: the blocks behind the last one that is reached go, and those
-- between do nothing but go on to the next.
use Rattle.std.specs.Prelude.{ℕ, zero, suc, Bool, false, ◌&&◌, ◌||◌, nat_eq, nat_le, if◌then◌else◌, List, [], ◌∷◌, length, take}
use Rattle.tac_form.specs.declared.tac.Exit.TheVariants.{Jump}
use Rattle.tac_form.specs.declared.tac.Block.{Block}
use Rattle.tac_form.specs.declared.tac.Tac.{Tac}
use Rattle.tac_form.specs.Graph.{exit_next}
use Rattle.tac_form.specs.Live.{has}

-- ---- which blocks are reached

-- whether a block leads to the one of a number
abbrev pub leads_to : Block → ℕ → Bool
leads_to b n = has (exit_next b.exit) n

-- whether one of the blocks from a number on leads to itself or to one before it
abbrev pub leads_back : (from : ℕ) → List Block → ℕ → Bool
leads_back from [] n = false
leads_back from (b ∷ bs) n = (nat_le n from && leads_to b n) || leads_back (suc from) bs n

-- what is reached by what is known to be, and by the blocks from a number on in turn: where one is known to be reached, what it leads to is
abbrev pub reached_on : (known : ℕ → Bool) → (from : ℕ) → List Block → ℕ → Bool
reached_on known from [] n = known n
reached_on known from (b ∷ bs) n = reached_on (λ m. known m || (known from && leads_to b m)) (suc from) bs n

-- Reached are the first block, those to which a block leads back, and those to which an earlier one leads that is reached.
unfoldable pub is_reached : Tac → ℕ → Bool
is_reached code n = reached_on (λ m. nat_eq m 0 || leads_back 0 code.blocks m) 0 code.blocks n

-- ---- the code without the others

-- a block that only goes on to the next
abbrev pub passed : (at : ℕ) → Block
passed at = record { instructions = []; exit = Jump (record { block = suc at; counts = false }) }

-- the blocks from a number on, of which those that aren't reached only go on to the next
abbrev pub passed_where : (reached : ℕ → Bool) → (from : ℕ) → List Block → List Block
passed_where reached from [] = []
passed_where reached from (b ∷ bs) = (if reached from then b else passed from) ∷ passed_where reached (suc from) bs

-- how many of so many blocks there are up to the last that is reached
abbrev pub up_to_last : (reached : ℕ → Bool) → ℕ → ℕ
up_to_last reached zero = zero
up_to_last reached (suc n) = if reached n then suc n else up_to_last reached n

abbrev pub reached_blocks : (reached : ℕ → Bool) → List Block → List Block
reached_blocks reached bs = passed_where reached 0 (take (up_to_last reached (length bs)) bs)

unfoldable pub reached_code : Tac → Tac
reached_code code = record code { blocks = reached_blocks (is_reached code) code.blocks }
