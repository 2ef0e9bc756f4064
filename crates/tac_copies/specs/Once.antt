-- How often code reads a temporary.
use Rattle.std.specs.Prelude.{ℕ, ◌+◌, Bool, nat_eq, if◌then◌else◌, List, [], ◌∷◌, sum_by}
use Rattle.tac_form.specs.declared.tac.Instruction.{Instruction}
use Rattle.tac_form.specs.declared.tac.Block.{Block}
use Rattle.tac_form.specs.declared.tac.Tac.{Tac}
use Rattle.tac_form.specs.Graph.{instruction_reads, exit_reads}

-- how often a list has a number
abbrev pub times : ℕ → List ℕ → ℕ
times t [] = 0
times t (u ∷ us) = (if nat_eq u t then 1 else 0) + times t us

abbrev pub instruction_times : ℕ → Instruction → ℕ
instruction_times t i = times t (instruction_reads i)

abbrev pub block_times : ℕ → Block → ℕ
block_times t b = sum_by (instruction_times t) b.instructions + times t (exit_reads b.exit)

-- how many operands of the code are the temporary
abbrev pub reads_in : Tac → ℕ → ℕ
reads_in code t = sum_by (block_times t) code.blocks

-- it is read at one place alone
unfoldable pub is_once : Tac → ℕ → Bool
is_once code t = nat_eq (reads_in code t) 1
