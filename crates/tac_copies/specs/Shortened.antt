-- Code in which what is copied is read where it was copied from: a copy goes whose temporary is read once, shortly behind it, before either
-- temporary is written.
use Rattle.std.specs.Prelude.{ℕ, zero, suc, Bool, false, not, ◌&&◌, ◌||◌, nat_eq, if◌then◌else◌, List, [], ◌∷◌, map}
use Rattle.tac_form.specs.declared.tac.Operand.{Operand}
use Rattle.tac_form.specs.declared.tac.Operand.TheVariants.{Temp, Constant}
use Rattle.tac_form.specs.declared.tac.Address.{Address}
use Rattle.tac_form.specs.declared.tac.Address.TheVariants.{Word, Frame}
use Rattle.tac_form.specs.declared.tac.Spot.{Spot}
use Rattle.tac_form.specs.declared.tac.Spot.TheVariants as spots
use Rattle.tac_form.specs.declared.tac.Part.{Part}
use Rattle.tac_form.specs.declared.tac.Part.TheVariants as parts
use Rattle.tac_form.specs.declared.tac.Instruction.{Instruction}
use Rattle.tac_form.specs.declared.tac.Instruction.TheVariants.{Compute, TestDivisor, Copy, Locate, Load, Store, Move, Clear, Call}
use Rattle.tac_form.specs.declared.tac.Instruction.TheVariants.{CallValue, PutByte, Write, Alloc}
use Rattle.tac_form.specs.declared.tac.Exit.{Exit}
use Rattle.tac_form.specs.declared.tac.Exit.TheVariants.{Jump, Branch, Return, Fail}
use Rattle.tac_form.specs.declared.tac.Block.{Block}
use Rattle.tac_form.specs.declared.tac.Tac.{Tac}
use Rattle.tac_form.specs.Flow.{put}
use Rattle.tac_form.specs.Graph.{instruction_reads, instruction_write, exit_reads}
use Rattle.tac_form.specs.Live.{has, is_written}
use Rattle.tac_copies.specs.Once.{is_once}

-- ---- reading a temporary by another name

abbrev pub named : (names : ℕ → ℕ) → Operand → Operand
named names (Temp t) = Temp (names t)
named names (Constant c) = Constant c

abbrev pub named_address : (names : ℕ → ℕ) → Address → Address
named_address names (Word a) = Word (named names a)
named_address names (Frame offset) = Frame offset

abbrev pub named_spot : (names : ℕ → ℕ) → Spot → Spot
named_spot names (spots.Region at a) = spots.Region at (named_address names a)
named_spot names (spots.Area n offset) = spots.Area n offset

abbrev pub named_part : (names : ℕ → ℕ) → Part → Part
named_part names (parts.Word a) = parts.Word (named names a)
named_part names (parts.Area n) = parts.Area n

-- an instruction that reads temporaries by their names, and writes the same as before
abbrev pub named_in : (names : ℕ → ℕ) → Instruction → Instruction
named_in names (Compute d op form a b) = Compute d op form (named names a) (named names b)
named_in names (TestDivisor at a) = TestDivisor at (named names a)
named_in names (Copy d a) = Copy d (named names a)
named_in names (Locate d offset) = Locate d offset
named_in names (Load d form spot) = Load d form (named_spot names spot)
named_in names (Store spot size a) = Store (named_spot names spot) size (named names a)
named_in names (Move to from size) = Move (named_spot names to) (named_spot names from) size
named_in names (Clear n size) = Clear n size
named_in names (Call to at f arguments) = Call to at f (map (named_part names) arguments)
named_in names (CallValue to at sig a arguments) = CallValue to at sig (named names a) (map (named_part names) arguments)
named_in names (PutByte a) = PutByte (named names a)
named_in names (Write at a b) = Write at (named names a) (named names b)
named_in names (Alloc d a) = Alloc d (named names a)

abbrev pub named_exit : (names : ℕ → ℕ) → Exit → Exit
named_exit names (Jump e) = Jump e
named_exit names (Branch a e f) = Branch (named names a) e f
named_exit names (Return v) = Return (named_part names v)
named_exit names (Fail kind at) = Fail kind at

-- ---- which copies go

-- how many instructions behind a copy are looked at
abbrev pub few : ℕ
few = 16

-- whether t is read by one of so many instructions, or by the exit behind them, before t or s is written
abbrev pub reads_first : ℕ → (t s : ℕ) → List Instruction → Exit → Bool
reads_first n t s [] e = has (exit_reads e) t
reads_first zero t s (i ∷ is) e = false
reads_first (suc n) t s (i ∷ is) e =
    has (instruction_reads i) t ||
    (not (is_written (instruction_write i) t || is_written (instruction_write i) s) && reads_first n t s is e)

-- the temporaries of a copy that goes
abbrev pub goes : (once : ℕ → Bool) → (t s : ℕ) → List Instruction → Exit → Bool
goes once t s is e = once t && (not (nat_eq t s) && reads_first few t s is e)

-- instructions and the exit behind them
pub record Code : Type 0 where
  pub instructions : List Instruction
  pub exit : Exit

abbrev pub with_first : Instruction → Code → Code
with_first i c = record { instructions = i ∷ c.instructions; exit = c.exit }

-- An instruction whose operands have their names already, and those behind it: `rest` is what becomes of these by any names.
abbrev pub shortened_at : (once : ℕ → Bool) → (names : ℕ → ℕ) → Instruction → List Instruction → Exit → (rest : (ℕ → ℕ) → Code) → Code
shortened_at once names (Copy t (Temp s)) is e rest =
    if goes once t s is e then rest (put names t s) else with_first (Copy t (Temp s)) (rest names)
shortened_at once names i is e rest = with_first i (rest names)

abbrev pub shortened : (once : ℕ → Bool) → (names : ℕ → ℕ) → List Instruction → Exit → Code
shortened once names [] e = record { instructions = []; exit = named_exit names e }
shortened once names (i ∷ is) e =
    shortened_at once names (named_in names i) is e (λ names'. shortened once names' is e)

abbrev pub own_names : ℕ → ℕ
own_names t = t

abbrev pub block_in : Code → Block
block_in c = record { instructions = c.instructions; exit = c.exit }

abbrev pub shortened_block : (once : ℕ → Bool) → Block → Block
shortened_block once b = block_in (shortened once own_names b.instructions b.exit)

unfoldable pub shortened_code : Tac → Tac
shortened_code code = record code { blocks = map (shortened_block (is_once code)) code.blocks }
