-- Which code machine code may be made of.
use Rattle.std.specs.Prelude.{ℕ, suc, ◌+◌, ◌*◌, ◌^◌, ◌≤◌, ◌↔◌, Bool, true, false, not, ◌&&◌, ◌||◌, nat_eq, nat_le, nat_lt, IsTrue, List, []}
use Rattle.std.specs.Prelude.{◌∷◌, length}
use Rattle.std.specs.List.{list_all, list_any}
use Rattle.tl_base.specs.declared.limits.TheConstants.{MAX_COMPILED_NODES}
use Rattle.tac_form.specs.declared.tac.Operand.{Operand}
use Rattle.tac_form.specs.declared.tac.Operand.TheVariants.{Temp, Constant}
use Rattle.tac_form.specs.declared.tac.Address.TheVariants.{Word, Frame}
use Rattle.tac_form.specs.declared.tac.Spot.{Spot}
use Rattle.tac_form.specs.declared.tac.Spot.TheVariants as spots
use Rattle.tac_form.specs.declared.tac.Part.{Part}
use Rattle.tac_form.specs.declared.tac.Part.TheVariants as parts
use Rattle.tac_form.specs.declared.tac.Destination.{Destination}
use Rattle.tac_form.specs.declared.tac.Destination.TheVariants as destinations
use Rattle.tac_form.specs.declared.tac.Instruction.{Instruction}
use Rattle.tac_form.specs.declared.tac.Instruction.TheVariants.{Compute, TestDivisor, Copy, Locate, Load, Store, Move, Clear, Call}
use Rattle.tac_form.specs.declared.tac.Instruction.TheVariants.{CallValue, PutByte, Write, Alloc}
use Rattle.tac_form.specs.declared.tac.Exit.{Exit}
use Rattle.tac_form.specs.declared.tac.Exit.TheVariants.{Jump, Branch, Return, Fail}
use Rattle.tac_form.specs.declared.tac.Edge.{Edge}
use Rattle.tac_form.specs.declared.tac.Block.{Block}
use Rattle.tac_form.specs.declared.tac.Tac.{Tac}
use Rattle.tac_form.specs.Flow.{area_size, bytes_of}
use Rattle.tac_form.specs.Graph.{graph_of}
use Rattle.tac_form.specs.Live.{IsLive}
use Rattle.tac_form.specs.Weights.{code_words, private_bytes, most_moved}
pub use Rattle.tl_base.specs.Places.{is_placed as place_fits}

-- every way round the graph counts: an edge that doesn't count leads to a later block
abbrev edge_counts : (from : ℕ) → Edge → Bool
edge_counts from e = e.counts || nat_lt from e.block

abbrev exit_counts : (from : ℕ) → Exit → Bool
exit_counts from (Jump e) = edge_counts from e
exit_counts from (Branch a e f) = edge_counts from e && edge_counts from f
exit_counts from _ = true

abbrev pub blocks_count : (from : ℕ) → List Block → Bool
blocks_count from [] = true
blocks_count from (b ∷ bs) = exit_counts from b.exit && blocks_count (suc from) bs

abbrev pub Counted : Tac → Type 0
Counted code = IsTrue (blocks_count 0 code.blocks)

-- an operand is a temporary of the code or a word
abbrev pub operand_fits : Tac → Operand → Bool
operand_fits code (Temp t) = nat_lt t code.temps
operand_fits code (Constant c) = nat_lt c (2 ^ 64)

abbrev pub area_there : Tac → ℕ → Bool
area_there code n = nat_lt n (length code.areas)

abbrev pub part_fits : Tac → Part → Bool
part_fits code (parts.Word a) = operand_fits code a
part_fits code (parts.Area n) = area_there code n

abbrev pub destination_fits : Tac → Destination → Bool
destination_fits code (destinations.Temp t) = nat_lt t code.temps
destination_fits code (destinations.Area n) = area_there code n
destination_fits code destinations.Nothing = true

-- an access of so many bytes at a spot lies wholly in the frame, or in the area, where it is one of these
abbrev pub spot_fits : Tac → ℕ → Spot → Bool
spot_fits code size (spots.Region at (Word a)) = place_fits at && operand_fits code a
spot_fits code size (spots.Region at (Frame offset)) = place_fits at && nat_le (offset + size) code.frame
spot_fits code size (spots.Area n offset) = area_there code n && nat_le (offset + size) (area_size code n)

-- bytes are moved a few at a time, so the two spots share none: at most one is in the region, and areas are two
abbrev pub are_apart : Spot → Spot → Bool
are_apart (spots.Region at a) (spots.Region other b) = false
are_apart (spots.Area n offset) (spots.Area m other) = not (nat_eq n m)
are_apart _ _ = true

abbrev pub instruction_fits : Tac → Instruction → Bool
instruction_fits code (Compute d op form a b) = nat_lt d code.temps && operand_fits code a && operand_fits code b
instruction_fits code (TestDivisor at a) = place_fits at && operand_fits code a
instruction_fits code (Copy d a) = nat_lt d code.temps && operand_fits code a
instruction_fits code (Locate d offset) = nat_lt d code.temps && nat_le offset code.frame
instruction_fits code (Load d form spot) = nat_lt d code.temps && spot_fits code (bytes_of form.size) spot
instruction_fits code (Store spot size a) = spot_fits code (bytes_of size) spot && operand_fits code a
instruction_fits code (Move to from size) =
    spot_fits code size to && spot_fits code size from && are_apart to from && nat_le size most_moved
instruction_fits code (Clear n size) = area_there code n && nat_le size (area_size code n)
instruction_fits code (Call to at f arguments) =
    destination_fits code to && place_fits at && list_all (part_fits code) arguments
instruction_fits code (CallValue to at sig a arguments) =
    destination_fits code to && place_fits at && operand_fits code a && list_all (part_fits code) arguments
instruction_fits code (PutByte a) = operand_fits code a
instruction_fits code (Write at a b) = place_fits at && operand_fits code a && operand_fits code b
instruction_fits code (Alloc d a) = nat_lt d code.temps && operand_fits code a

abbrev pub edge_fits : Tac → Edge → Bool
edge_fits code e = nat_lt e.block (length code.blocks)

abbrev pub exit_fits : Tac → Exit → Bool
exit_fits code (Jump e) = edge_fits code e
exit_fits code (Branch a e f) = operand_fits code a && edge_fits code e && edge_fits code f
exit_fits code (Return v) = part_fits code v
exit_fits code (Fail kind at) = place_fits at

abbrev pub block_fits : Tac → Block → Bool
block_fits code b = list_all (instruction_fits code) b.instructions && exit_fits code b.exit

abbrev pub area_fits : ℕ → Bool
area_fits size = nat_le size most_moved

-- what the code names is there, what it reaches lies within, no area has more than 128 bytes, and there is a block to enter
abbrev pub is_within : Tac → Bool
is_within code =
    list_all (block_fits code) code.blocks && list_all (destination_fits code) code.parameters &&
    list_all area_fits code.areas && place_fits code.place && nat_lt code.frame (2 ^ 63) && nat_lt 0 (length code.blocks)

-- the most typed nodes that are compiled at once
abbrev pub most_nodes : ℕ
most_nodes = MAX_COMPILED_NODES

-- a parameter goes to the temporary
abbrev pub goes_to : ℕ → Destination → Bool
goes_to t (destinations.Temp d) = nat_eq d t
goes_to t (destinations.Area n) = false
goes_to t destinations.Nothing = false

abbrev pub receives : Tac → ℕ → Bool
receives code t = list_any (goes_to t) code.parameters

-- Code of which machine code may be made. It has no more words and private bytes than the most typed nodes may take, so
-- that an offset of private memory and the distance of a jump are numbers of 32 bits. The temporaries that are live where
-- it is entered are those where its parameters go, so what the others hold then doesn't matter; a parameter that nothing
-- reads goes to nothing.
pub record Fits (code : Tac) : Type 0 where
  pub within : IsTrue (is_within code)
  pub short : code_words code ≤ 250 * most_nodes
  pub few : private_bytes code ≤ 136 * most_nodes + 65536
  pub begins : (t : ℕ) → IsLive (graph_of code) 0 0 t ↔ IsTrue (receives code t)
