-- How many words of machine code and private bytes three-address code may take.
use Rattle.std.specs.Prelude.{ℕ, ◌+◌, ◌*◌, ◌≤◌, if◌then◌else◌, List, length, sum_by}
use Rattle.tl_base.specs.declared.limits.TheConstants.{MAX_VALUE_BYTES}
use Rattle.terra_words.specs.declared.words.BinaryOperator.{BinaryOperator}
use Rattle.tac_form.specs.declared.tac.Operand.{Operand}
use Rattle.tac_form.specs.declared.tac.Destination.{Destination}
use Rattle.tac_form.specs.declared.tac.Destination.TheVariants as destinations
use Rattle.tac_form.specs.declared.tac.Spot.{Spot}
use Rattle.tac_form.specs.declared.tac.Spot.TheVariants as spots
use Rattle.tac_form.specs.declared.tac.Address.TheVariants.{Word, Frame}
use Rattle.tac_form.specs.declared.tac.Instruction.{Instruction}
use Rattle.tac_form.specs.declared.tac.Instruction.TheVariants.{Compute, TestDivisor, Copy, Locate, Load, Store, Move, Clear, Call}
use Rattle.tac_form.specs.declared.tac.Instruction.TheVariants.{CallValue, PutByte, Write, Alloc}
use Rattle.tac_form.specs.declared.tac.Exit.{Exit}
use Rattle.tac_form.specs.declared.tac.Exit.TheVariants.{Jump, Branch, Return, Fail}
use Rattle.tac_form.specs.declared.tac.Edge.{Edge}
use Rattle.tac_form.specs.declared.tac.Block.{Block}
use Rattle.tac_form.specs.declared.tac.Part.{Part}
use Rattle.tac_form.specs.declared.tac.Tac.{Tac}

-- the most words that load a constant of 64 bits
abbrev pub longest_constant : ℕ
longest_constant = 8

-- Those that take an operand into a scratch register. A temporary in a slot takes three and a small constant one or
-- two, but each operand weighs as the longest constant: then code weighs no more where a constant stands for a temporary.
abbrev pub operand_words : Operand → ℕ
operand_words a = longest_constant

-- those that put a scratch register into a home
abbrev placed : ℕ
placed = 3

-- An operator on two scratch registers. Its result is cut to the form in at most two words, and a shift's count before
-- it in one. Each operator weighs as a shift, so that one may stand for another.
abbrev pub operator_words : BinaryOperator → ℕ
operator_words op = 4

-- those that end the run by a fault: the kind, the place, and the call to the machine
abbrev failed : ℕ
failed = 11

-- a jump of any distance
abbrev jumped : ℕ
jumped = 2

-- where code counts, those that take a count, and break where none is left
abbrev one_count : ℕ
one_count = 3

-- Those of a call that count it as one that waits before its jump and no more behind that, and take its result. Those
-- that take its count are weighed here too, and not with what is received: so they have room wherever the result goes.
abbrev counted : ℕ
counted = 3 + one_count

-- those that reach a spot, with the test of its bounds
abbrev pub reached : Spot → ℕ
reached (spots.Region at (Word a)) = operand_words a + 5 + failed
reached (spots.Region at (Frame offset)) = 9
reached (spots.Area n offset) = placed

-- the test that a call isn't too deep, before its arguments are stored: under the last frame there is no room
abbrev deep : ℕ
deep = 6

-- the loads and stores of a copy of at most 128 bytes: eight bytes at a time, then four, two and one
abbrev copied : ℕ
copied = 36

-- results and parameters that are words, or the address of an area that is copied, or that nothing reads
abbrev pub received : Destination → ℕ
received (destinations.Temp t) = placed + placed
received (destinations.Area n) = placed + placed + copied
received destinations.Nothing = 0

-- what is passed, at most as many for each part
abbrev passed : List Part → ℕ
passed parts = (longest_constant + placed) * length parts

abbrev pub words_of : Instruction → ℕ
words_of (Compute d op form a b) = operand_words a + operand_words b + operator_words op + placed
words_of (TestDivisor at a) = operand_words a + 1 + failed
words_of (Copy d a) = operand_words a + placed
words_of (Locate d offset) = 9 + placed
words_of (Load d form spot) = reached spot + 2 + placed
words_of (Store spot size a) = reached spot + operand_words a + 1
words_of (Move to from size) = reached to + reached from + copied
words_of (Clear n size) = placed + 16
words_of (Call to at f arguments) = counted + longest_constant + deep + passed arguments + jumped + received to
words_of (CallValue to at sig a arguments) =
    counted + longest_constant + 18 + failed + operand_words a + deep + passed arguments + jumped + received to
words_of (PutByte a) = placed + 8
words_of (Write at a b) = operand_words a + operand_words b + 8 + failed + 5
words_of (Alloc d a) = operand_words a + 18 + placed

abbrev pub edge_words : Edge → ℕ
edge_words e = if e.counts then jumped + one_count else jumped

abbrev pub exit_words : Exit → ℕ
exit_words (Jump e) = edge_words e
exit_words (Branch a e f) = operand_words a + 1 + edge_words e + edge_words f
exit_words (Return v) = longest_constant + jumped
exit_words (Fail kind at) = failed

abbrev pub block_words : Block → ℕ
block_words b = sum_by words_of b.instructions + exit_words b.exit

-- entering a function as the entry or by a call, with the test of the data stack, and leaving it
abbrev pub entered_words : ℕ
entered_words = 17 + 36 + 26

abbrev pub code_words : Tac → ℕ
code_words code = entered_words + sum_by received code.parameters + sum_by block_words code.blocks

-- the most bytes of an area, which are moved by straight code
abbrev pub most_moved : ℕ
most_moved = MAX_VALUE_BYTES

abbrev full_area : ℕ → ℕ
full_area size = most_moved

-- the return address and the ten registers that a function keeps for its caller, a word each
abbrev pub kept_bytes : ℕ
kept_bytes = 8 * 11

-- what is kept for the caller, a word for each temporary and parameter, and a full area for each area
abbrev pub private_bytes : Tac → ℕ
private_bytes code = kept_bytes + 8 * code.temps + 8 * length code.parameters + sum_by full_area code.areas

-- The whole code keeps within 250 words and 136 private bytes for each typed node, and 65,536 private bytes more.
pub record Sized (code : Tac) : Type 0 where
  pub in_words : code_words code ≤ 250 * code.nodes
  pub in_bytes : private_bytes code ≤ 136 * code.nodes + 65536
