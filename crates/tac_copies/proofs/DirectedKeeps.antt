-- Directed code is made of the other by merges of an instruction with the copy behind it, so what each merge keeps it keeps.
use Rattle.std.proofs.Common.{◌≡◌, ℕ, Bool, true, false, ◌&&◌, List, [], ◌∷◌, Some, refl, ap}
use Rattle.std.specs.Prelude.{if◌then◌else◌}
use Rattle.std.proofs.lemmas.Bool.{and_parts, eqb-true, false≢true}
use Rattle.tac_form.specs.declared.tac.Operand.TheVariants.{Temp, Constant}
use Rattle.tac_form.specs.declared.tac.Instruction.{Instruction}
use Rattle.tac_form.specs.declared.tac.Instruction.TheVariants.{Compute, Copy, Locate, Load, Alloc}
use Rattle.tac_form.specs.Graph.{instruction_reads, instruction_write}
use Rattle.tac_form.specs.Weights.{words_of}
use Rattle.tac_copies.specs.Directed.{before, directed, directed_all, makes}

module _ (once : ℕ → Bool) (R : List Instruction → List Instruction → Type 0) (same : (is : List Instruction) → R is is)
    (more : (i : Instruction) (xs ys : List Instruction) → R xs ys → R (i ∷ xs) (i ∷ ys))
    (both : (xs ys zs : List Instruction) → R xs ys → R ys zs → R xs zs)
    (merge : (x u : ℕ) (i : Instruction) (is : List Instruction) → makes u i ≡ true → once u ≡ true →
    R (directed x i ∷ is) (i ∷ Copy x (Temp u) ∷ is)) where
  choice : (x u : ℕ) (i : Instruction) (is : List Instruction) (b : Bool) → (makes u i && once u) ≡ b →
      R (if b then directed x i ∷ is else i ∷ Copy x (Temp u) ∷ is) (i ∷ Copy x (Temp u) ∷ is)
  choice x u i is true e = let p = and_parts (makes u i) (once u) e in merge x u i is p.0 p.1
  choice x u i is false e = same (i ∷ Copy x (Temp u) ∷ is)

  first : (i : Instruction) (is : List Instruction) → R (before once i is) (i ∷ is)
  first i [] = same (i ∷ [])
  first i (Copy x (Temp u) ∷ is) = choice x u i is (makes u i && once u) refl
  first i (Copy x (Constant c) ∷ is) = same (i ∷ Copy x (Constant c) ∷ is)
  first i (j ∷ is) = same (i ∷ j ∷ is)

  pub by-merges : (is : List Instruction) → R (directed_all once is) is
  by-merges [] = same []
  by-merges (i ∷ is) =
      both (before once i (directed_all once is)) (i ∷ directed_all once is) (i ∷ is) (first i (directed_all once is))
      (more i (directed_all once is) is (by-merges is))

-- the instruction with another result reads the same, has the same weight, and writes the other temporary
pub directed-reads : (x : ℕ) (i : Instruction) → instruction_reads (directed x i) ≡ instruction_reads i
directed-reads x (Compute d op form a b) = refl
directed-reads x (Locate d offset) = refl
directed-reads x (Load d form spot) = refl
directed-reads x (Alloc d a) = refl
directed-reads x _ = refl

pub directed-words : (x : ℕ) (i : Instruction) → words_of (directed x i) ≡ words_of i
directed-words x (Compute d op form a b) = refl
directed-words x (Locate d offset) = refl
directed-words x (Load d form spot) = refl
directed-words x (Alloc d a) = refl
directed-words x _ = refl

pub makes-write : (u : ℕ) (i : Instruction) → makes u i ≡ true → instruction_write i ≡ Some u
makes-write u (Compute d op form a b) e = ap Some (eqb-true d u e)
makes-write u (Locate d offset) e = ap Some (eqb-true d u e)
makes-write u (Load d form spot) e = ap Some (eqb-true d u e)
makes-write u (Alloc d a) e = ap Some (eqb-true d u e)
makes-write u _ e = absurd (false≢true e)

pub directed-write : (x u : ℕ) (i : Instruction) → makes u i ≡ true → instruction_write (directed x i) ≡ Some x
directed-write x u (Compute d op form a b) e = refl
directed-write x u (Locate d offset) e = refl
directed-write x u (Load d form spot) e = refl
directed-write x u (Alloc d a) e = refl
directed-write x u _ e = absurd (false≢true e)
