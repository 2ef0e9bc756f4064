-- What of three-address code matters for registers: which temporaries each part reads, which one it writes, and
-- which blocks follow a block.
use Rattle.std.specs.Prelude.{ℕ, List, [], ◌∷◌, ◌++◌, Option, Some, None, map}
use Rattle.std.specs.List.{flat_map}
use Rattle.tac_form.specs.declared.tac.Operand.{Operand}
use Rattle.tac_form.specs.declared.tac.Operand.TheVariants.{Temp, Constant}
use Rattle.tac_form.specs.declared.tac.Address.{Address}
use Rattle.tac_form.specs.declared.tac.Address.TheVariants.{Word, Frame}
use Rattle.tac_form.specs.declared.tac.Spot.{Spot}
use Rattle.tac_form.specs.declared.tac.Spot.TheVariants as spots
use Rattle.tac_form.specs.declared.tac.Part.{Part}
use Rattle.tac_form.specs.declared.tac.Part.TheVariants as parts
use Rattle.tac_form.specs.declared.tac.Destination.{Destination}
use Rattle.tac_form.specs.declared.tac.Destination.TheVariants as destinations
use Rattle.tac_form.specs.declared.tac.Instruction.{Instruction}
use Rattle.tac_form.specs.declared.tac.Instruction.TheVariants.{Compute, TestDivisor, Copy, Locate, Load, Store, Move, Clear, Call}
use Rattle.tac_form.specs.declared.tac.Instruction.TheVariants.{CallValue, PutByte, Write, Alloc}
use Rattle.tac_form.specs.declared.tac.Exit.{Exit}
use Rattle.tac_form.specs.declared.tac.Exit.TheVariants.{Jump, Branch, Return, Fail}
use Rattle.tac_form.specs.declared.tac.Block.{Block}
use Rattle.tac_form.specs.declared.tac.Tac.{Tac}
use Rattle.tac_form.specs.declared.graph.Step.{Step}
use Rattle.tac_form.specs.declared.graph.FlowBlock.{FlowBlock}

abbrev pub operand_reads : Operand → List ℕ
operand_reads (Temp t) = t ∷ []
operand_reads (Constant c) = []

abbrev pub address_reads : Address → List ℕ
address_reads (Word a) = operand_reads a
address_reads (Frame offset) = []

abbrev pub spot_reads : Spot → List ℕ
spot_reads (spots.Region at a) = address_reads a
spot_reads (spots.Area n offset) = []

abbrev pub part_reads : Part → List ℕ
part_reads (parts.Word a) = operand_reads a
part_reads (parts.Area n) = []

abbrev pub parts_reads : List Part → List ℕ
parts_reads ps = flat_map part_reads ps

-- what an instruction reads
abbrev pub instruction_reads : Instruction → List ℕ
instruction_reads (Compute d op w a b) = operand_reads a ++ operand_reads b
instruction_reads (TestDivisor at a) = operand_reads a
instruction_reads (Copy d a) = operand_reads a
instruction_reads (Locate d offset) = []
instruction_reads (Load d form spot) = spot_reads spot
instruction_reads (Store spot size a) = spot_reads spot ++ operand_reads a
instruction_reads (Move to from size) = spot_reads to ++ spot_reads from
instruction_reads (Clear n size) = []
instruction_reads (Call to at f arguments) = parts_reads arguments
instruction_reads (CallValue to at sig a arguments) = operand_reads a ++ parts_reads arguments
instruction_reads (PutByte a) = operand_reads a
instruction_reads (Write at a b) = operand_reads a ++ operand_reads b
instruction_reads (Alloc d a) = operand_reads a

abbrev pub destination_write : Destination → Option ℕ
destination_write (destinations.Temp t) = Some t
destination_write (destinations.Area n) = None
destination_write destinations.Nothing = None

-- what it writes
abbrev pub instruction_write : Instruction → Option ℕ
instruction_write (Compute d op w a b) = Some d
instruction_write (TestDivisor at a) = None
instruction_write (Copy d a) = Some d
instruction_write (Locate d offset) = Some d
instruction_write (Load d form spot) = Some d
instruction_write (Store spot size a) = None
instruction_write (Move to from size) = None
instruction_write (Clear n size) = None
instruction_write (Call to at f arguments) = destination_write to
instruction_write (CallValue to at sig a arguments) = destination_write to
instruction_write (PutByte a) = None
instruction_write (Write at a b) = None
instruction_write (Alloc d a) = Some d

abbrev pub exit_reads : Exit → List ℕ
exit_reads (Jump e) = []
exit_reads (Branch a e f) = operand_reads a
exit_reads (Return part) = part_reads part
exit_reads (Fail kind at) = []

abbrev pub exit_next : Exit → List ℕ
exit_next (Jump e) = e.block ∷ []
exit_next (Branch a e f) = e.block ∷ f.block ∷ []
exit_next (Return part) = []
exit_next (Fail kind at) = []

abbrev pub step_of : Instruction → Step
step_of i = record { reads = instruction_reads i; write = instruction_write i }

abbrev pub steps_of : List Instruction → List Step
steps_of is = map step_of is

abbrev pub block_of : Block → FlowBlock
block_of b = record { steps = steps_of b.instructions; reads = exit_reads b.exit; next = exit_next b.exit }

-- the flow graph of code, block by block
abbrev pub graph_of : Tac → List FlowBlock
graph_of code = map block_of code.blocks
