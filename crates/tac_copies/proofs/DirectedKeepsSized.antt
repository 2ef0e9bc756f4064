-- Directed code has no more words, and the same private bytes.
use Rattle.std.proofs.Common.{◌≡◌, ◌≤◌, ℕ, ◌+◌, ◌*◌, Bool, List, [], ◌∷◌, map, arith}
use Rattle.std.specs.Prelude.{sum_by}
use Rattle.std.proofs.lemmas.List.Sums.{sum_by-cons}
use Rattle.tac_form.specs.declared.tac.Operand.TheVariants.{Temp}
use Rattle.tac_form.specs.declared.tac.Instruction.{Instruction}
use Rattle.tac_form.specs.declared.tac.Instruction.TheVariants.{Copy}
use Rattle.tac_form.specs.declared.tac.Block.{Block}
use Rattle.tac_form.specs.declared.tac.Tac.{Tac}
use Rattle.tac_form.specs.Weights.{block_words, code_words, entered_words, exit_words, received, words_of}
use Rattle.tac_copies.specs.Once.{is_once}
use Rattle.tac_copies.specs.Directed.{directed, directed_all, directed_block, directed_code}
use Rattle.tac_copies.specs.Laws.{KeepsSized}
use Rattle.tac_copies.proofs.DirectedKeeps.{by-merges, directed-words}

weight : List Instruction → ℕ
weight is = sum_by words_of is

weight-cons : (i : Instruction) (is : List Instruction) → weight (i ∷ is) ≡ words_of i + weight is
unfolding weight
weight-cons i is = sum_by-cons words_of i is

more : (i : Instruction) (xs ys : List Instruction) → weight xs ≤ weight ys → weight (i ∷ xs) ≤ weight (i ∷ ys)
more i xs ys h = sum (words_of i) (weight xs) (weight ys) (weight (i ∷ xs)) (weight (i ∷ ys)) (weight-cons i xs) (weight-cons i ys) h
  where
    sum : (w a c n m : ℕ) → n ≡ w + a → m ≡ w + c → a ≤ c → n ≤ m
    sum w a c n m e f h = omega (arith, e, f, h)

merge : (x u : ℕ) (i : Instruction) (is : List Instruction) → weight (directed x i ∷ is) ≤ weight (i ∷ Copy x (Temp u) ∷ is)
merge x u i is =
    sum (words_of i) (words_of (directed x i)) (words_of (Copy x (Temp u))) (weight is) (weight (Copy x (Temp u) ∷ is))
    (weight (directed x i ∷ is)) (weight (i ∷ Copy x (Temp u) ∷ is)) (directed-words x i) (weight-cons (directed x i) is)
    (weight-cons (Copy x (Temp u)) is) (weight-cons i (Copy x (Temp u) ∷ is))
  where
    sum : (w v c a k n m : ℕ) → v ≡ w → n ≡ v + a → k ≡ c + a → m ≡ w + k → n ≤ m
    sum w v c a k n m e f g h = omega (arith, e, f, g, h)

few-words : (once : ℕ → Bool) (is : List Instruction) → weight (directed_all once is) ≤ weight is
few-words once is =
    by-merges once (λ xs ys. weight xs ≤ weight ys) (λ is. least (weight is)) more
    (λ xs ys zs h g. through (weight xs) (weight ys) (weight zs) h g)
    (λ x u i is m o. merge x u i is) is
  where
    least : (n : ℕ) → n ≤ n
    least n = omega arith

    through : (a c d : ℕ) → a ≤ c → c ≤ d → a ≤ d
    through a c d h g = omega (arith, h, g)

few-blocks : (once : ℕ → Bool) (bs : List Block) → sum_by block_words (map (directed_block once) bs) ≤ sum_by block_words bs
unfolding weight
few-blocks once [] = omega arith
few-blocks once (b ∷ bs) =
    sum (weight (directed_all once b.instructions)) (weight b.instructions) (exit_words b.exit)
    (sum_by block_words (map (directed_block once) bs)) (sum_by block_words bs)
    (sum_by block_words (directed_block once b ∷ map (directed_block once) bs)) (sum_by block_words (b ∷ bs))
    (sum_by-cons block_words (directed_block once b) (map (directed_block once) bs)) (sum_by-cons block_words b bs)
    (few-words once b.instructions) (few-blocks once bs)
  where
    sum : (a c x p q n m : ℕ) → n ≡ a + x + p → m ≡ c + x + q → a ≤ c → p ≤ q → n ≤ m
    sum a c x p q n m e f h g = omega (arith, e, f, h, g)

pub directed-fewer : (code : Tac) → code_words (directed_code code) ≤ code_words code
unfolding directed_code
directed-fewer code =
    sum (entered_words + sum_by received code.parameters) (sum_by block_words (map (directed_block (is_once code)) code.blocks))
    (sum_by block_words code.blocks) (few-blocks (is_once code) code.blocks)
  where
    sum : (w a c : ℕ) → a ≤ c → w + a ≤ w + c
    sum w a c h = omega (arith, h)

pub directed-sized : KeepsSized directed_code
unfolding directed_code
directed-sized code s = record {
  in_words = under (code_words (directed_code code)) (code_words code) (250 * code.nodes) (directed-fewer code) s.in_words;
  in_bytes = s.in_bytes;
}
  where
    under : (a c d : ℕ) → a ≤ c → c ≤ d → a ≤ d
    under a c d h g = omega (arith, h, g)
