-- The blocks of a function's code have the code at its begin.
use Rattle.std.proofs.Common.{◌≡◌, suc, ◌<◌, ◌⊎◌, inl, inr, List, [], ◌∷◌, ◌++◌, length, Some, None, refl, sym, ap, ◌∙◌, subst, arith}
use Rattle.std.proofs.Common.{append_assoc, append-nil, length-append}
use Rattle.std.specs.Prelude.{slice_get}
use Rattle.std.proofs.lemmas.Option.{slice_get-get_or}
use Rattle.std.proofs.Math.Seq.{get_or-append_seam}
use Rattle.tac_form.specs.declared.tac.Instruction.{Instruction}
use Rattle.tac_form.specs.declared.tac.Block.{Block}
use Rattle.tac_lower.specs.Items.{Item, does, ends, Ending, exit_of, Draft, empty_draft, with_item, with_items, blocks_of}
use Rattle.tac_lower.proofs.Places.{Point, start_of, HasAt}

seam : {A : Type 0} → (xs : List A) (y : A) (ys : List A) → slice_get (xs ++ y ∷ ys) (length xs) ≡ Some y
seam xs y ys =
    let lt : length xs < length (xs ++ y ∷ ys) = omega (arith, length-append xs (y ∷ ys)) in
    slice_get-get_or (xs ++ y ∷ ys) (length xs) y lt ∙ ap Some (get_or-append_seam xs y ys y)

past : {A : Type 0} → (xs : List A) → slice_get xs (length xs) ≡ None
past [] = refl
past (x ∷ xs) = past xs

-- the block in progress goes on so
record Opens (code : List Instruction) (later : List Block) : Type 0 where
  block : Block
  more : List Block
  rest : List Instruction
  first : later ≡ block ∷ more
  begins : block.instructions ≡ code ++ rest

-- blocks begin with a draft's
record Has (blocks : List Block) (d : Draft) : Type 0 where
  later : List Block
  are : blocks ≡ d.blocks ++ later
  goes : Opens d.code later ⊎ (d.code ≡ [])

ended : Draft → Ending → Block
ended d e = record { instructions = d.code; exit = exit_of 0 (length d.blocks) e }

opened : (i : Instruction) (code : List Instruction) (later : List Block) → Opens (code ++ i ∷ []) later ⊎ (code ++ i ∷ [] ≡ []) →
    Opens (code ++ i ∷ []) later
opened i code later (inl o) = o
opened i code later (inr e) = let n = ap length e in absurd (omega (arith, n, length-append code (i ∷ [])))

abbrev point : Draft → Point
point d = record { block = length d.blocks; at = length d.code }

has-all : (blocks : List Block) (is : List Item) (d : Draft) → Has blocks (with_items d is) → HasAt blocks 0 (point d) is × Has blocks d
unfolding ended
has-all blocks [] d h = (tt, h)
has-all blocks (does i ∷ is) d h =
    let r = has-all blocks is (with_item d (does i)) h in
    let o = opened i d.code r.1.later r.1.goes in
    let all = r.1.are ∙ ap (λ l. d.blocks ++ l) o.first in
    let instructions = o.begins ∙ append_assoc d.code (i ∷ []) o.rest in
    let n : length (d.code ++ i ∷ []) ≡ suc (length d.code) = omega (arith, length-append d.code (i ∷ [])) in (
      (
        record {
          block = o.block;
          there = ap (λ l. slice_get l (length d.blocks)) all ∙ seam d.blocks o.block o.more;
          does = ap (λ l. slice_get l (length d.code)) instructions ∙ seam d.code i o.rest;
        },
        subst (λ m. HasAt blocks 0 (record { block = length d.blocks; at = m }) is) n r.0,
      ),
      record {
        later = r.1.later;
        are = r.1.are;
        goes = inl (record { block = o.block; more = o.more; rest = i ∷ o.rest; first = o.first; begins = instructions });
      },
    )
has-all blocks (ends e ∷ is) d h =
    let r = has-all blocks is (with_item d (ends e)) h in
    let b : Block = ended d e in
    let all : blocks ≡ d.blocks ++ b ∷ r.1.later = r.1.are ∙ append_assoc d.blocks (b ∷ []) r.1.later in
    let n : length (d.blocks ++ b ∷ []) ≡ suc (length d.blocks) = omega (arith, length-append d.blocks (b ∷ [])) in (
      (
        record {
          block = b;
          there = ap (λ l. slice_get l (length d.blocks)) all ∙ seam d.blocks b r.1.later;
          does = past d.code;
          ends = refl;
        },
        subst (λ m. HasAt blocks 0 (start_of m) is) n r.0,
      ),
      record {
        later = b ∷ r.1.later;
        are = all;
        goes = inl (record { block = b; more = r.1.later; rest = []; first = refl; begins = sym (append-nil d.code) });
      },
    )

-- a function's code stands at the begin of its blocks, where it ends with the end of a block
pub has-whole : (is : List Item) → (with_items empty_draft is).code ≡ [] → HasAt (blocks_of is) 0 (start_of 0) is
has-whole is e =
    (has-all (blocks_of is) is empty_draft (record { later = []; are = sym (append-nil (blocks_of is)); goes = inr e })).0
