-- Shortened code has the words of its instructions that stay, and the private bytes that it had.
use Rattle.std.proofs.Common.{◌≡◌, ℕ, ◌+◌, ◌≤◌, Bool, List, [], ◌∷◌, map, length, refl, arith}
use Rattle.std.specs.List.{sum_by}
use Rattle.std.proofs.lemmas.List.Sums.{sum_by-cons}
use Rattle.tac_form.specs.declared.tac.Address.TheVariants.{Word, Frame}
use Rattle.tac_form.specs.declared.tac.Spot.{Spot}
use Rattle.tac_form.specs.declared.tac.Spot.TheVariants as spots
use Rattle.tac_form.specs.declared.tac.Part.{Part}
use Rattle.tac_form.specs.declared.tac.Instruction.{Instruction}
use Rattle.tac_form.specs.declared.tac.Instruction.TheVariants.{Compute, TestDivisor, Copy, Locate, Load, Store, Move, Clear, Call}
use Rattle.tac_form.specs.declared.tac.Instruction.TheVariants.{CallValue, PutByte, Write, Alloc}
use Rattle.tac_form.specs.declared.tac.Exit.{Exit}
use Rattle.tac_form.specs.declared.tac.Exit.TheVariants.{Jump, Branch, Return, Fail}
use Rattle.tac_form.specs.declared.tac.Block.{Block}
use Rattle.tac_form.specs.declared.tac.Tac.{Tac}
use Rattle.tac_form.specs.Flow.{put}
use Rattle.tac_form.specs.Weights.{reached, words_of, exit_words, block_words, code_words, private_bytes}
use Rattle.tac_copies.specs.Once.{is_once}
use Rattle.tac_copies.specs.Shortened.{named_spot, named_part, named_in, named_exit, own_names, shortened, shortened_block}
use Rattle.tac_copies.specs.Shortened.{shortened_code}
use Rattle.tac_copies.specs.Laws.{KeepsSized}
use Rattle.tac_copies.proofs.ShortenedKeepsStep.{by-step, exit-kept}

spot-same : (names : ℕ → ℕ) (spot : Spot) → reached (named_spot names spot) ≡ reached spot
spot-same names (spots.Region at (Word a)) = refl
spot-same names (spots.Region at (Frame offset)) = refl
spot-same names (spots.Area n offset) = refl

parts-same : (names : ℕ → ℕ) (parts : List Part) → length (map (named_part names) parts) ≡ length parts
parts-same names [] = refl
parts-same names (p ∷ ps) = let e = parts-same names ps in omega (arith, e)

words-same : (names : ℕ → ℕ) (i : Instruction) → words_of (named_in names i) ≡ words_of i
words-same names (Compute d op form a b) = refl
words-same names (TestDivisor at a) = refl
words-same names (Copy d a) = refl
words-same names (Locate d offset) = refl
words-same names (Load d form spot) = rw (spot-same names spot)
words-same names (Store spot size a) = rw (spot-same names spot)
words-same names (Move to from size) = rw (spot-same names to, spot-same names from)
words-same names (Clear n size) = refl
words-same names (Call to at f arguments) = rw (parts-same names arguments)
words-same names (CallValue to at sig a arguments) = rw (parts-same names arguments)
words-same names (PutByte a) = refl
words-same names (Write at a b) = refl
words-same names (Alloc d a) = refl

exit-same : (names : ℕ → ℕ) (e : Exit) → exit_words (named_exit names e) ≡ exit_words e
exit-same names (Jump e) = refl
exit-same names (Branch a e f) = refl
exit-same names (Return v) = refl
exit-same names (Fail kind at) = refl

no-more : (once : ℕ → Bool) (names : ℕ → ℕ) (is : List Instruction) (e : Exit) →
    sum_by words_of (shortened once names is e).instructions ≤ sum_by words_of is
no-more once names [] e = omega arith
no-more once names (i ∷ is) e =
    by-step (λ c. sum_by words_of c.instructions ≤ sum_by words_of (i ∷ is)) once names i is e
    (stays _ _ _ _ _ _ (sum_by-cons words_of (named_in names i) (shortened once names is e).instructions) (sum_by-cons words_of i is)
    (words-same names i)
    (no-more once names is e))
    (λ t s is_copy gone. goes-too _ _ _ _ (sum_by-cons words_of i is) (no-more once (put names t (names s)) is e))
  where
    stays : (l r k w u v : ℕ) → l ≡ w + k → r ≡ u + v → w ≡ u → k ≤ v → l ≤ r
    stays l r k w u v a b c d = omega (arith, a, b, c, d)

    goes-too : (l r u v : ℕ) → r ≡ u + v → l ≤ v → l ≤ r
    goes-too l r u v a b = omega (arith, a, b)

blocks-no-more : (once : ℕ → Bool) (bs : List Block) → sum_by block_words (map (shortened_block once) bs) ≤ sum_by block_words bs
blocks-no-more once [] = omega arith
blocks-no-more once (b ∷ bs) =
    sums _ _ _ _ _ _ _ _ (sum_by-cons block_words (shortened_block once b) (map (shortened_block once) bs)) (sum_by-cons block_words b bs)
    (no-more once own_names b.instructions b.exit) (exit-kept exit_words exit-same once own_names b.instructions b.exit)
    (blocks-no-more once bs)
  where
    sums : (l r x y u v k j : ℕ) → l ≡ (x + y) + k → r ≡ (u + v) + j → x ≤ u → y ≡ v → k ≤ j → l ≤ r
    sums l r x y u v k j a b c d e = omega (arith, a, b, c, d, e)

pub words-no-more : (code : Tac) → code_words (shortened_code code) ≤ code_words code
unfolding shortened_code
words-no-more code = let h = blocks-no-more (is_once code) code.blocks in omega (arith, h)

pub bytes-same : (code : Tac) → private_bytes (shortened_code code) ≡ private_bytes code
unfolding shortened_code
bytes-same code = refl

pub keeps-sized : KeepsSized shortened_code
unfolding shortened_code
keeps-sized code h = record {
  in_words = let l = words-no-more code in let k = h.in_words in omega (arith, l, k);
  in_bytes = h.in_bytes;
}
