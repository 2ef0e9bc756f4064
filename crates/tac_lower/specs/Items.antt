-- Code in a line: instructions, and the ends of blocks, of which the forward ones skip so many of the blocks that follow. So a
-- piece of code is the same wherever it stands, and pieces are put one after the other.
use Rattle.std.specs.Prelude.{ℕ, suc, ◌+◌, ◌-◌, false, true, List, [], ◌∷◌, ◌++◌, length}
use Rattle.tl_base.specs.declared.place.Place.{Place}
use Rattle.terra_words.specs.declared.words.FaultKind.{FaultKind}
use Rattle.tac_form.specs.declared.tac.Operand.{Operand}
use Rattle.tac_form.specs.declared.tac.Part.{Part}
use Rattle.tac_form.specs.declared.tac.Instruction.{Instruction}
use Rattle.tac_form.specs.declared.tac.Edge.{Edge}
use Rattle.tac_form.specs.declared.tac.Exit.{Exit}
use Rattle.tac_form.specs.declared.tac.Exit.TheVariants.{Jump, Branch, Return, Fail}
use Rattle.tac_form.specs.declared.tac.Block.{Block}

-- how a block ends
pub data Ending : Type 0 where
  -- past so many blocks
  skips : (blocks : ℕ) → Ending
  -- to the next block where the word isn't zero, and else past so many
  tests : (test : Operand) (blocks : ℕ) → Ending
  -- so many blocks back, which counts
  repeats : (blocks : ℕ) → Ending
  -- to the next block where the word isn't zero, and else so many back, which counts
  repeats_unless : (test : Operand) (blocks : ℕ) → Ending
  -- out of the loop around, which isn't known yet
  leaves : Ending
  gives : Part → Ending
  fails : FaultKind → Place → Ending

pub data Item : Type 0 where
  does : Instruction → Item
  ends : Ending → Item

-- how many blocks end in a piece of code
abbrev pub count_ends : List Item → ℕ
count_ends [] = 0
count_ends (does i ∷ is) = count_ends is
count_ends (ends e ∷ is) = suc (count_ends is)

-- A loop's code: what left it skips the blocks up to its end.
abbrev pub left_by : Ending → (behind : ℕ) → Ending
left_by leaves behind = skips behind
left_by e behind = e

abbrev pub loop_of : List Item → List Item
loop_of [] = []
loop_of (does i ∷ is) = does i ∷ loop_of is
loop_of (ends e ∷ is) = ends (left_by e (count_ends is)) ∷ loop_of is

-- edges

abbrev pub onward : ℕ → Edge
onward block = record { block = block; counts = false }

abbrev pub backward : ℕ → Edge
backward block = record { block = block; counts = true }

-- the exit of a block that ends so; what leaves a loop goes to the block `out`
abbrev pub exit_of : (out block : ℕ) → Ending → Exit
exit_of out n (skips k) = Jump (onward (suc n + k))
exit_of out n (tests a k) = Branch a (onward (suc n)) (onward (suc n + k))
exit_of out n (repeats k) = Jump (backward (n - k))
exit_of out n (repeats_unless a k) = Branch a (onward (suc n)) (backward (n - k))
exit_of out n leaves = Jump (onward out)
exit_of out n (gives v) = Return v
exit_of out n (fails kind at) = Fail kind at

-- Blocks in progress: those that have ended, and the instructions of the one that hasn't.
pub record Draft : Type 0 where
  pub blocks : List Block
  pub code : List Instruction

abbrev pub empty_draft : Draft
empty_draft = record { blocks = []; code = [] }

abbrev pub with_item : Draft → Item → Draft
with_item d (does i) = record d { code = d.code ++ i ∷ [] }
with_item d (ends e) = record {
  blocks = d.blocks ++ record { instructions = d.code; exit = exit_of 0 (length d.blocks) e } ∷ [];
  code = [];
}

abbrev pub with_items : Draft → List Item → Draft
with_items d [] = d
with_items d (i ∷ is) = with_items (with_item d i) is

-- the blocks of a function's code
abbrev pub blocks_of : List Item → List Block
blocks_of is = (with_items empty_draft is).blocks
