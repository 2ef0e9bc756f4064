-- Which comparisons have one code with the branch on their result: those that are the last instruction of a block, and whose result the
-- block's branch reads and nothing else in the function.
use Rattle.std.specs.Prelude.{ℕ, ◌-◌, Bool, true, false, ◌&&◌, if◌then◌else◌, nat_eq, List, [], ◌∷◌, length, take, replicate, Option, Some}
use Rattle.std.specs.Prelude.{None, slice_get, slice_set, slice_index_or}
use Rattle.tac_form.specs.declared.tac.Operand.TheVariants.{Temp}
use Rattle.tac_form.specs.declared.tac.Instruction.{Instruction}
use Rattle.tac_form.specs.declared.tac.Instruction.TheVariants.{Compute}
use Rattle.tac_form.specs.declared.tac.Exit.{Exit}
use Rattle.tac_form.specs.declared.tac.Exit.TheVariants.{Branch}
use Rattle.tac_form.specs.declared.tac.Block.{Block}
use Rattle.tac_form.specs.declared.tac.Tac.{Tac}
use Rattle.tac_form.specs.declared.graph.Step.{Step}
use Rattle.tac_form.specs.declared.graph.FlowBlock.{FlowBlock}
use Rattle.tac_form.specs.Graph.{graph_of}
use Rattle.rv_operators.specs.Codes.{is_comparison}
use Rattle.rv_select.specs.declared.pairs.Reads.{Reads}
use Rattle.rv_select.specs.declared.pairs.Reads.TheVariants.{Never, Once, Often}
use Rattle.rv_select.specs.declared.pairs.Pair.{Pair}

-- how often each temporary is read, by how often it is read so far, and with what is read next
abbrev pub once_more : Reads → Reads
once_more Never = Once
once_more Once = Often
once_more Often = Often

abbrev pub reads_at : List Reads → ℕ → Reads
reads_at reads t = slice_index_or reads t Often

abbrev pub counted : List Reads → List ℕ → List Reads
counted reads [] = reads
counted reads (t ∷ ts) = counted (slice_set reads t (once_more (reads_at reads t))) ts

abbrev pub counted_steps : List Reads → List Step → List Reads
counted_steps reads [] = reads
counted_steps reads (s ∷ ss) = counted_steps (counted reads s.reads) ss

abbrev pub counted_blocks : List Reads → List FlowBlock → List Reads
counted_blocks reads [] = reads
counted_blocks reads (b ∷ bs) = counted_blocks (counted (counted_steps reads b.steps) b.reads) bs

-- how often each temporary is read in a function
unfoldable pub reads_of : Tac → List Reads
reads_of code = counted_blocks (replicate code.temps Never) (graph_of code)

abbrev pub is_once : Reads → Bool
is_once Once = true
is_once _ = false

-- a comparison and the branch that alone reads its result, by a block's last instruction and its exit
unfoldable pub pair_at : List Reads → Option Instruction → Exit → Option Pair
pair_at reads (Some (Compute d op form a b)) (Branch (Temp t) e f) =
    if nat_eq d t && (is_comparison op && is_once (reads_at reads t))
    then Some (record { operator = op; form = form; a = a; b = b; first = e; second = f })
    else None
pair_at reads _ _ = None

abbrev pub pair_of : List Reads → Block → Option Pair
pair_of reads b = pair_at reads (slice_get b.instructions (length b.instructions - 1)) b.exit

-- the instructions that have code of their own
abbrev pub but_pair : Option Pair → List Instruction → List Instruction
but_pair None is = is
but_pair (Some pair) is = take (length is - 1) is

abbrev pub plain_of : List Reads → Block → List Instruction
plain_of reads b = but_pair (pair_of reads b) b.instructions
