-- Code in which a result goes at once to where the next instruction copies it, where nothing else reads it from the temporary between.
use Rattle.std.specs.Prelude.{ℕ, Bool, false, ◌&&◌, nat_eq, if◌then◌else◌, List, [], ◌∷◌, map}
use Rattle.tac_form.specs.declared.tac.Operand.TheVariants.{Temp}
use Rattle.tac_form.specs.declared.tac.Instruction.{Instruction}
use Rattle.tac_form.specs.declared.tac.Instruction.TheVariants.{Compute, Copy, Locate, Load, Alloc}
use Rattle.tac_form.specs.declared.tac.Block.{Block}
use Rattle.tac_form.specs.declared.tac.Tac.{Tac}
use Rattle.tac_copies.specs.Once.{is_once}

-- whether the instruction works out a word and puts it to the temporary
abbrev pub makes : ℕ → Instruction → Bool
makes t (Compute d op form a b) = nat_eq d t
makes t (Locate d offset) = nat_eq d t
makes t (Load d form spot) = nat_eq d t
makes t (Alloc d a) = nat_eq d t
makes t _ = false

-- the same instruction, with its word put to another temporary
abbrev pub directed : ℕ → Instruction → Instruction
directed x (Compute d op form a b) = Compute x op form a b
directed x (Locate d offset) = Locate x offset
directed x (Load d form spot) = Load x form spot
directed x (Alloc d a) = Alloc x a
directed x i = i

-- an instruction, and those behind it, of which the first may copy its result
abbrev pub before : (once : ℕ → Bool) → Instruction → List Instruction → List Instruction
before once i (Copy x (Temp t) ∷ is) = if makes t i && once t then directed x i ∷ is else i ∷ Copy x (Temp t) ∷ is
before once i is = i ∷ is

abbrev pub directed_all : (once : ℕ → Bool) → List Instruction → List Instruction
directed_all once [] = []
directed_all once (i ∷ is) = before once i (directed_all once is)

abbrev pub directed_block : (once : ℕ → Bool) → Block → Block
directed_block once b = record { instructions = directed_all once b.instructions; exit = b.exit }

unfoldable pub directed_code : Tac → Tac
directed_code code = record code { blocks = map (directed_block (is_once code)) code.blocks }
