-- Code without the blocks that no way leads to has no more words, and the same private bytes.
use Rattle.std.proofs.Common.{◌≡◌, ◌≤◌, ℕ, zero, suc, ◌+◌, ◌*◌, Bool, true, false, List, [], ◌∷◌, length, take, arith}
use Rattle.std.specs.Prelude.{if◌then◌else◌, sum_by}
use Rattle.std.proofs.lemmas.List.Sums.{sum_by-cons}
use Rattle.tac_form.specs.declared.tac.Edge.{Edge}
use Rattle.tac_form.specs.declared.tac.Exit.{Exit}
use Rattle.tac_form.specs.declared.tac.Exit.TheVariants.{Jump, Branch, Return, Fail}
use Rattle.tac_form.specs.declared.tac.Block.{Block}
use Rattle.tac_form.specs.declared.tac.Tac.{Tac}
use Rattle.tac_form.specs.Weights.{block_words, code_words, edge_words, entered_words, exit_words, received, words_of}
use Rattle.tac_copies.specs.Reached.{is_reached, passed, passed_where, reached_blocks, reached_code, up_to_last}
use Rattle.tac_copies.specs.Laws.{KeepsSized}

weight : List Block → ℕ
weight bs = sum_by block_words bs

weight-cons : (b : Block) (bs : List Block) → weight (b ∷ bs) ≡ block_words b + weight bs
unfolding weight
weight-cons b bs = sum_by-cons block_words b bs

more : (w v a c n m : ℕ) → n ≡ w + a → m ≡ v + c → w ≤ v → a ≤ c → n ≤ m
more w v a c n m e f h g = omega (arith, e, f, h, g)

least : (n : ℕ) → n ≤ n
least n = omega arith

-- an exit has two words at least, as a jump has that doesn't count
edge-least : (e : Edge) → 2 ≤ edge_words e
edge-least e = by e.counts
  where
    by : (b : Bool) → 2 ≤ (if b then 5 else 2)
    by true = omega arith
    by false = omega arith

exit-least : (e : Exit) → 2 ≤ exit_words e
exit-least (Jump e) = edge-least e
exit-least (Branch a e f) = some (edge_words e) (edge_words f)
  where
    some : (n m : ℕ) → 2 ≤ 8 + 1 + n + m
    some n m = omega arith
exit-least (Return v) = omega arith
exit-least (Fail kind at) = omega arith

passed-least : (c : ℕ) (b : Block) → block_words (passed c) ≤ block_words b
passed-least c b = behind (sum_by words_of b.instructions) (exit_words b.exit) (exit-least b.exit)
  where
    behind : (n m : ℕ) → 2 ≤ m → 0 + 2 ≤ n + m
    behind n m h = omega (arith, h)

few-blocks : (reached : ℕ → Bool) (bs : List Block) (from : ℕ) → weight (passed_where reached from bs) ≤ weight bs
few-blocks reached [] from = least (weight [])
few-blocks reached (b ∷ bs) from =
    more (block_words (if reached from then b else passed from)) (block_words b) (weight (passed_where reached (suc from) bs)) (weight bs)
    (weight (passed_where reached from (b ∷ bs))) (weight (b ∷ bs))
    (weight-cons (if reached from then b else passed from) (passed_where reached (suc from) bs)) (weight-cons b bs)
    (by (reached from)) (few-blocks reached bs (suc from))
  where
    by : (r : Bool) → block_words (if r then b else passed from) ≤ block_words b
    by true = least (block_words b)
    by false = passed-least from b

few-taken : (bs : List Block) (m : ℕ) → weight (take m bs) ≤ weight bs
unfolding weight
few-taken bs zero = omega arith
few-taken [] (suc m) = omega arith
few-taken (b ∷ bs) (suc m) =
    more (block_words b) (block_words b) (weight (take m bs)) (weight bs) (weight (b ∷ take m bs)) (weight (b ∷ bs))
    (sum_by-cons block_words b (take m bs)) (sum_by-cons block_words b bs) (least (block_words b)) (few-taken bs m)

few-all : (reached : ℕ → Bool) (bs : List Block) → sum_by block_words (reached_blocks reached bs) ≤ sum_by block_words bs
unfolding weight
few-all reached bs =
    let m = up_to_last reached (length bs) in
    under (weight (passed_where reached 0 (take m bs))) (weight (take m bs)) (weight bs) (few-blocks reached (take m bs) 0) (few-taken bs m)
  where
    under : (a c d : ℕ) → a ≤ c → c ≤ d → a ≤ d
    under a c d h g = omega (arith, h, g)

pub reached-fewer : (code : Tac) → code_words (reached_code code) ≤ code_words code
unfolding reached_code
reached-fewer code =
    sum (entered_words + sum_by received code.parameters) (sum_by block_words (reached_blocks (is_reached code) code.blocks))
    (sum_by block_words code.blocks) (few-all (is_reached code) code.blocks)
  where
    sum : (w a c : ℕ) → a ≤ c → w + a ≤ w + c
    sum w a c h = omega (arith, h)

pub reached-sized : KeepsSized reached_code
unfolding reached_code
reached-sized code s = record {
  in_words = under (code_words (reached_code code)) (code_words code) (250 * code.nodes) (reached-fewer code) s.in_words;
  in_bytes = s.in_bytes;
}
  where
    under : (a c d : ℕ) → a ≤ c → c ≤ d → a ≤ d
    under a c d h g = omega (arith, h, g)
