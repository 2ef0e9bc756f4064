-- Of code either no parameter is taken at once, or the first copy goes and its parameter goes to where that copied it.
use Rattle.std.proofs.Common.{◌≡◌, ℕ, Bool, true, false, ◌&&◌, ◌||◌, List, [], ◌∷◌, map, refl, ap, ◌∙◌, inl, inr}
use Rattle.std.specs.Prelude.{if◌then◌else◌, not, ◌⊎◌}
use Rattle.std.specs.List.{list_any}
use Rattle.std.proofs.lemmas.Bool.{and_parts, not-true, or_parts}
use Rattle.tac_form.specs.declared.tac.Operand.TheVariants.{Temp}
use Rattle.tac_form.specs.declared.tac.Instruction.{Instruction}
use Rattle.tac_form.specs.declared.tac.Instruction.TheVariants.{Copy}
use Rattle.tac_form.specs.declared.tac.Exit.{Exit}
use Rattle.tac_form.specs.declared.tac.Block.{Block}
use Rattle.tac_form.specs.declared.tac.Tac.{Tac}
use Rattle.tac_form.specs.Graph.{exit_next}
use Rattle.tac_form.specs.Live.{has}
use Rattle.tac_form.specs.Fits.{goes_to}
use Rattle.tac_copies.specs.Reached.{leads_to}
use Rattle.tac_copies.specs.Taken.{block_reads, goes_instead, is_needed, is_needed_from, may_go, reads, taken_by, taken_once}

abbrev pub block-with : List Instruction → Exit → Block
block-with is e = record { instructions = is; exit = e }

-- the code without the copy of p to v, where v stands for p among the parameters
abbrev pub instead : Tac → (p v : ℕ) → List Instruction → Exit → List Block → Tac
instead code p v is e bs = record code { parameters = map (goes_instead p v) code.parameters; blocks = block-with is e ∷ bs }

pub record Takes (code : Tac) : Type 0 where
  pub p : ℕ
  pub v : ℕ
  pub is : List Instruction
  pub e : Exit
  pub bs : List Block
  pub blocks : code.blocks ≡ block-with (Copy v (Temp p) ∷ is) e ∷ bs
  pub goes : may_go code.parameters p v is e bs ≡ true
  pub made : taken_once code ≡ instead code p v is e bs

abbrev pub Shape : Tac → Type 0
Shape code = (taken_once code ≡ code) ⊎ Takes code

module _ (code : Tac) where
  first : (is : List Instruction) (e : Exit) (bs : List Block) → code.blocks ≡ block-with is e ∷ bs → Shape code
  unfolding taken_once
  first (Copy v (Temp p) ∷ is) e bs q = decide (may_go code.parameters p v is e bs) refl
    where
      decide : (b : Bool) → may_go code.parameters p v is e bs ≡ b → Shape code
      decide true g = inr (record {
        p = p;
        v = v;
        is = is;
        e = e;
        bs = bs;
        blocks = q;
        goes = g;
        made = ap (taken_by code) q ∙ ap (λ b. if b then instead code p v is e bs else code) g;
      })
      decide false g = inl (ap (taken_by code) q ∙ ap (λ b. if b then instead code p v is e bs else code) g)
  first [] e bs q = inl (ap (taken_by code) q)
  first (i ∷ is) e bs q = inl (ap (taken_by code) q)

  by-blocks : (bs : List Block) → code.blocks ≡ bs → Shape code
  unfolding taken_once
  by-blocks [] q = inl (ap (taken_by code) q)
  by-blocks (b ∷ bs) q = first b.instructions b.exit bs q

  pub shape : Shape code
  shape = by-blocks code.blocks refl

-- ---- what the test says

module _ (code : Tac) (k : Takes code) where
  pub is-parameter : list_any (goes_to k.p) code.parameters ≡ true
  is-parameter = (and_parts (list_any (goes_to k.p) code.parameters) _ k.goes).0

  behind-first : (not (list_any (goes_to k.v) code.parameters) &&
      (not (reads k.p k.is k.e || list_any (block_reads k.p) k.bs) &&
      (not (has (exit_next k.e) 0 || list_any (λ b. leads_to b 0) k.bs) && is_needed k.v k.is k.e (is_needed_from k.v 1 k.bs)))) ≡ true
  behind-first = (and_parts (list_any (goes_to k.p) code.parameters) _ k.goes).1

  pub is-free : list_any (goes_to k.v) code.parameters ≡ false
  is-free = not-true (list_any (goes_to k.v) code.parameters) (and_parts (not (list_any (goes_to k.v) code.parameters)) _ behind-first).0

  behind-second : (not (reads k.p k.is k.e || list_any (block_reads k.p) k.bs) &&
      (not (has (exit_next k.e) 0 || list_any (λ b. leads_to b 0) k.bs) && is_needed k.v k.is k.e (is_needed_from k.v 1 k.bs))) ≡ true
  behind-second = (and_parts (not (list_any (goes_to k.v) code.parameters)) _ behind-first).1

  pub is-unread : (reads k.p k.is k.e ≡ false) × (list_any (block_reads k.p) k.bs ≡ false)
  is-unread =
      or_parts (reads k.p k.is k.e) (list_any (block_reads k.p) k.bs)
      (not-true (reads k.p k.is k.e || list_any (block_reads k.p) k.bs)
      (and_parts (not (reads k.p k.is k.e || list_any (block_reads k.p) k.bs)) _ behind-second).0)

  behind-third : (not (has (exit_next k.e) 0 || list_any (λ b. leads_to b 0) k.bs) &&
      is_needed k.v k.is k.e (is_needed_from k.v 1 k.bs)) ≡ true
  behind-third = (and_parts (not (reads k.p k.is k.e || list_any (block_reads k.p) k.bs)) _ behind-second).1

  pub none-back : (has (exit_next k.e) 0 ≡ false) × (list_any (λ b. leads_to b 0) k.bs ≡ false)
  none-back =
      or_parts (has (exit_next k.e) 0) (list_any (λ b. leads_to b 0) k.bs)
      (not-true (has (exit_next k.e) 0 || list_any (λ b. leads_to b 0) k.bs)
      (and_parts (not (has (exit_next k.e) 0 || list_any (λ b. leads_to b 0) k.bs)) _ behind-third).0)

  pub goes-needed : is_needed k.v k.is k.e (is_needed_from k.v 1 k.bs) ≡ true
  goes-needed = (and_parts (not (has (exit_next k.e) 0 || list_any (λ b. leads_to b 0) k.bs)) _ behind-third).1
