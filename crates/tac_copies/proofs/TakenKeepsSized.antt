-- Code whose parameters are taken at once has no more words, and the same private bytes.
use Rattle.std.proofs.Common.{◌≡◌, ◌≤◌, ℕ, zero, suc, ◌+◌, ◌*◌, List, [], ◌∷◌, map, length, refl, sym, ap, ◌∙◌, subst, arith, inl, inr}
use Rattle.std.specs.Prelude.{sum_by}
use Rattle.std.proofs.lemmas.List.{length-map}
use Rattle.std.proofs.lemmas.List.Sums.{sum_by-cons}
use Rattle.tac_form.specs.declared.tac.Operand.TheVariants.{Temp}
use Rattle.tac_form.specs.declared.tac.Destination.{Destination}
use Rattle.tac_form.specs.declared.tac.Destination.TheVariants as destinations
use Rattle.tac_form.specs.declared.tac.Instruction.{Instruction}
use Rattle.tac_form.specs.declared.tac.Instruction.TheVariants.{Copy}
use Rattle.tac_form.specs.declared.tac.Exit.{Exit}
use Rattle.tac_form.specs.declared.tac.Block.{Block}
use Rattle.tac_form.specs.declared.tac.Tac.{Tac}
use Rattle.tac_form.specs.Weights.{block_words, code_words, entered_words, exit_words, most_moved, private_bytes, received, words_of}
use Rattle.tac_copies.specs.Taken.{goes_instead, most_taken, taken_code, taken_once, taken_times}
use Rattle.tac_copies.specs.Laws.{KeepsSized}
use Rattle.tac_copies.proofs.TakenShape.{Shape, block-with, shape}

received-same : (p v : ℕ) (ds : List Destination) → sum_by received (map (goes_instead p v) ds) ≡ sum_by received ds
received-same p v [] = refl
received-same p v (d ∷ ds) =
    sum_by-cons received (goes_instead p v d) (map (goes_instead p v) ds)
    ∙ ap (λ n. received (goes_instead p v d) + n) (received-same p v ds)
    ∙ ap (λ n. n + sum_by received ds) (one d) ∙ sym (sum_by-cons received d ds)
  where
    one : (c : Destination) → received (goes_instead p v c) ≡ received c
    one (destinations.Temp t) = refl
    one (destinations.Area n) = refl
    one destinations.Nothing = refl

-- the first block has a copy less
first-fewer : (i : Instruction) (is : List Instruction) (e : Exit) (bs : List Block) →
    sum_by block_words (block-with is e ∷ bs) ≤ sum_by block_words (block-with (i ∷ is) e ∷ bs)
first-fewer i is e bs =
    fewer (words_of i) (sum_by words_of is) (exit_words e) (sum_by block_words bs) (sum_by words_of (i ∷ is))
    (sum_by block_words (block-with is e ∷ bs)) (sum_by block_words (block-with (i ∷ is) e ∷ bs))
    (sum_by-cons words_of i is) (sum_by-cons block_words (block-with is e) bs) (sum_by-cons block_words (block-with (i ∷ is) e) bs)
  where
    fewer : (w a x b c n m : ℕ) → c ≡ w + a → n ≡ a + x + b → m ≡ c + x + b → n ≤ m
    fewer w a x b c n m f g h = omega (arith, f, g, h)

under : (a c d : ℕ) → a ≤ c → c ≤ d → a ≤ d
under a c d h g = omega (arith, h, g)

pub once-fewer : (code : Tac) → code_words (taken_once code) ≤ code_words code
once-fewer code = by (shape code)
  where
    least : (n : ℕ) → n ≤ n
    least n = omega arith

    sum : (w a b c d : ℕ) → a ≡ b → c ≤ d → w + a + c ≤ w + b + d
    sum w a b c d e h = omega (arith, e, h)

    by : Shape code → code_words (taken_once code) ≤ code_words code
    by (inl q) = subst (λ c. code_words c ≤ code_words code) (sym q) (least (code_words code))
    by (inr k) =
        subst (λ c. code_words c ≤ code_words code) (sym k.made)
        (sum entered_words (sum_by received (map (goes_instead k.p k.v) code.parameters)) (sum_by received code.parameters)
        (sum_by block_words (block-with k.is k.e ∷ k.bs)) (sum_by block_words code.blocks)
        (received-same k.p k.v code.parameters)
        (subst (λ bs. sum_by block_words (block-with k.is k.e ∷ k.bs) ≤ sum_by block_words bs) (sym k.blocks)
        (first-fewer (Copy k.v (Temp k.p)) k.is k.e k.bs)))

pub once-bytes : (code : Tac) → private_bytes (taken_once code) ≡ private_bytes code
once-bytes code = by (shape code)
  where
    by : Shape code → private_bytes (taken_once code) ≡ private_bytes code
    by (inl q) = ap private_bytes q
    by (inr k) =
        ap private_bytes k.made
        ∙ ap (λ n. 8 * 11 + 8 * code.temps + 8 * n + sum_by (λ (size : ℕ). most_moved) code.areas)
        (length-map code.parameters (goes_instead k.p k.v))

once-nodes : (code : Tac) → (taken_once code).nodes ≡ code.nodes
once-nodes code = by (shape code)
  where
    by : Shape code → (taken_once code).nodes ≡ code.nodes
    by (inl q) = ap (λ c. c.nodes) q
    by (inr k) = ap (λ c. c.nodes) k.made

once-sized : KeepsSized taken_once
once-sized code s = record {
  in_words = subst (λ n. code_words (taken_once code) ≤ 250 * n) (sym (once-nodes code))
      (under (code_words (taken_once code)) (code_words code) (250 * code.nodes) (once-fewer code) s.in_words);
  in_bytes = subst (λ n. private_bytes (taken_once code) ≤ 136 * n + 65536) (sym (once-nodes code))
      (subst (λ n. n ≤ 136 * code.nodes + 65536) (sym (once-bytes code)) s.in_bytes);
}

times-sized : (n : ℕ) → KeepsSized (taken_times n)
times-sized zero code s = s
times-sized (suc n) code s = times-sized n (taken_once code) (once-sized code s)

pub taken-sized : KeepsSized taken_code
unfolding taken_code
taken-sized code s = times-sized most_taken code s

-- ---- what it leaves alone

times-nodes : (n : ℕ) (code : Tac) → (taken_times n code).nodes ≡ code.nodes
times-nodes zero code = refl
times-nodes (suc n) code = times-nodes n (taken_once code) ∙ once-nodes code

pub taken-nodes : (code : Tac) → (taken_code code).nodes ≡ code.nodes
unfolding taken_code
taken-nodes code = times-nodes most_taken code

once-number : (code : Tac) → length (taken_once code).parameters ≡ length code.parameters
once-number code = by (shape code)
  where
    by : Shape code → length (taken_once code).parameters ≡ length code.parameters
    by (inl q) = ap (λ c. length c.parameters) q
    by (inr k) = ap (λ c. length c.parameters) k.made ∙ length-map code.parameters (goes_instead k.p k.v)

times-number : (n : ℕ) (code : Tac) → length (taken_times n code).parameters ≡ length code.parameters
times-number zero code = refl
times-number (suc n) code = times-number n (taken_once code) ∙ once-number code

pub taken-number : (code : Tac) → length (taken_code code).parameters ≡ length code.parameters
unfolding taken_code
taken-number code = times-number most_taken code
