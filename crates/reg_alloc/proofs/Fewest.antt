-- Code of which machine code may be made reads and writes temporaries of its own alone.
use Rattle.std.proofs.Common.{◌≡◌, ℕ, ◌^◌, Bool, true, false, ◌&&◌, List, [], ◌∷◌, ◌++◌, map, refl}
use Rattle.std.specs.Prelude.{nat_le, nat_lt, length}
use Rattle.std.specs.List.{list_all}
use Rattle.std.proofs.lemmas.Bool.{and_parts}
use Rattle.tac_form.specs.declared.tac.Operand.{Operand}
use Rattle.tac_form.specs.declared.tac.Operand.TheVariants.{Temp, Constant}
use Rattle.tac_form.specs.declared.tac.Address.TheVariants.{Word, Frame}
use Rattle.tac_form.specs.declared.tac.Spot.{Spot}
use Rattle.tac_form.specs.declared.tac.Spot.TheVariants as spots
use Rattle.tac_form.specs.declared.tac.Part.{Part}
use Rattle.tac_form.specs.declared.tac.Part.TheVariants as parts
use Rattle.tac_form.specs.declared.tac.Destination.{Destination}
use Rattle.tac_form.specs.declared.tac.Destination.TheVariants as destinations
use Rattle.tac_form.specs.declared.tac.Instruction.{Instruction}
use Rattle.tac_form.specs.declared.tac.Instruction.TheVariants.{Compute, TestDivisor, Copy, Locate, Load, Store, Move, Clear, Call}
use Rattle.tac_form.specs.declared.tac.Instruction.TheVariants.{CallValue, PutByte, Write, Alloc}
use Rattle.tac_form.specs.declared.tac.Exit.{Exit}
use Rattle.tac_form.specs.declared.tac.Exit.TheVariants.{Jump, Branch, Return, Fail}
use Rattle.tac_form.specs.declared.tac.Block.{Block}
use Rattle.tac_form.specs.declared.tac.Tac.{Tac}
use Rattle.tac_form.specs.Flow.{bytes_of}
use Rattle.tac_form.specs.Weights.{most_moved}
use Rattle.tac_form.specs.Graph.{block_of, destination_write, exit_reads, graph_of, operand_reads}
use Rattle.tac_form.specs.Graph.{part_reads, parts_reads, spot_reads, step_of}
use Rattle.tac_form.specs.Fits.{are_apart, area_fits, block_fits, destination_fits, edge_fits, exit_fits, instruction_fits}
use Rattle.tac_form.specs.Fits.{is_within, operand_fits, part_fits, place_fits, spot_fits}
use Rattle.reg_alloc.specs.Homes.{all_below, are_below, block_below, step_below, write_below}

both : (a b : Bool) → a ≡ true → b ≡ true → (a && b) ≡ true
both true b e h = h
both false b e h = cc

-- a test of all, from another
all-mapped : {X Y : Type 0} (p : X → Bool) (q : Y → Bool) (f : X → Y) → ((x : X) → p x ≡ true → q (f x) ≡ true) → (xs : List X) → list_all p xs ≡ true → list_all q (map f xs) ≡ true
all-mapped p q f h [] e = refl
all-mapped p q f h (x ∷ xs) e =
    let s = and_parts (p x) (list_all p xs) e in
    both (q (f x)) (list_all q (map f xs)) (h x s.0) (all-mapped p q f h xs s.1)

below-both : (n : ℕ) (xs ys : List ℕ) → all_below n xs ≡ true → all_below n ys ≡ true → all_below n (xs ++ ys) ≡ true
below-both n [] ys h k = k
below-both n (x ∷ xs) ys h k =
    let s = and_parts (nat_lt x n) (all_below n xs) h in
    both (nat_lt x n) (all_below n (xs ++ ys)) s.0 (below-both n xs ys s.1 k)

-- the parts of code
operand-below : (code : Tac) (a : Operand) → operand_fits code a ≡ true → all_below code.temps (operand_reads a) ≡ true
operand-below code (Temp t) h = both (nat_lt t code.temps) true h refl
operand-below code (Constant c) h = refl

spot-below : (code : Tac) (size : ℕ) (s : Spot) → spot_fits code size s ≡ true → all_below code.temps (spot_reads s) ≡ true
spot-below code size (spots.Region at (Word a)) h = operand-below code a (and_parts (place_fits at) (operand_fits code a) h).1
spot-below code size (spots.Region at (Frame offset)) h = refl
spot-below code size (spots.Area n offset) h = refl

part-below : (code : Tac) (p : Part) → part_fits code p ≡ true → all_below code.temps (part_reads p) ≡ true
part-below code (parts.Word a) h = operand-below code a h
part-below code (parts.Area n) h = refl

parts-below : (code : Tac) (ps : List Part) → list_all (part_fits code) ps ≡ true → all_below code.temps (parts_reads ps) ≡ true
parts-below code [] h = refl
parts-below code (p ∷ ps) h =
    let s = and_parts (part_fits code p) (list_all (part_fits code) ps) h in
    below-both code.temps (part_reads p) (parts_reads ps) (part-below code p s.0) (parts-below code ps s.1)

destination-below : (code : Tac) (d : Destination) → destination_fits code d ≡ true → write_below code.temps (destination_write d) ≡ true
destination-below code (destinations.Temp t) h = h
destination-below code (destinations.Area n) h = refl
destination-below code destinations.Nothing h = refl

step : (code : Tac) (i : Instruction) → instruction_fits code i ≡ true → step_below code.temps (step_of i) ≡ true
step code (Compute d op form a b) h =
    let s = and_parts (nat_lt d code.temps && operand_fits code a) (operand_fits code b) h in
    let t = and_parts (nat_lt d code.temps) (operand_fits code a) s.0 in
    both (nat_lt d code.temps) _ t.0 (below-both code.temps (operand_reads a) (operand_reads b) (operand-below code a t.1) (operand-below code b s.1))
step code (TestDivisor at a) h = operand-below code a (and_parts (place_fits at) (operand_fits code a) h).1
step code (Copy d a) h =
    let s = and_parts (nat_lt d code.temps) (operand_fits code a) h in both (nat_lt d code.temps) _ s.0 (operand-below code a s.1)
step code (Locate d offset) h = both (nat_lt d code.temps) true (and_parts (nat_lt d code.temps) (nat_le offset code.frame) h).0 refl
step code (Load d form spot) h =
    let s = and_parts (nat_lt d code.temps) (spot_fits code (bytes_of form.size) spot) h in
    both (nat_lt d code.temps) _ s.0 (spot-below code (bytes_of form.size) spot s.1)
step code (Store spot size a) h =
    let s = and_parts (spot_fits code (bytes_of size) spot) (operand_fits code a) h in
    below-both code.temps (spot_reads spot) (operand_reads a) (spot-below code (bytes_of size) spot s.0) (operand-below code a s.1)
step code (Move to from size) h =
    let s = and_parts ((spot_fits code size to && spot_fits code size from) && are_apart to from) (nat_le size most_moved) h in
    let t = and_parts (spot_fits code size to && spot_fits code size from) (are_apart to from) s.0 in
    let u = and_parts (spot_fits code size to) (spot_fits code size from) t.0 in
    below-both code.temps (spot_reads to) (spot_reads from) (spot-below code size to u.0) (spot-below code size from u.1)
step code (Clear n size) h = refl
step code (Call to at f arguments) h =
    let s = and_parts (destination_fits code to && place_fits at) (list_all (part_fits code) arguments) h in
    let t = and_parts (destination_fits code to) (place_fits at) s.0 in
    both (write_below code.temps (destination_write to)) _ (destination-below code to t.0) (parts-below code arguments s.1)
step code (CallValue to at sig a arguments) h =
    let s = and_parts ((destination_fits code to && place_fits at) && operand_fits code a) (list_all (part_fits code) arguments) h in
    let t = and_parts (destination_fits code to && place_fits at) (operand_fits code a) s.0 in
    let u = and_parts (destination_fits code to) (place_fits at) t.0 in
    both (write_below code.temps (destination_write to)) _ (destination-below code to u.0)
    (below-both code.temps (operand_reads a) (parts_reads arguments) (operand-below code a t.1) (parts-below code arguments s.1))
step code (PutByte a) h = operand-below code a h
step code (Write at a b) h =
    let s = and_parts (place_fits at && operand_fits code a) (operand_fits code b) h in
    let t = and_parts (place_fits at) (operand_fits code a) s.0 in
    below-both code.temps (operand_reads a) (operand_reads b) (operand-below code a t.1) (operand-below code b s.1)
step code (Alloc d a) h =
    let s = and_parts (nat_lt d code.temps) (operand_fits code a) h in both (nat_lt d code.temps) _ s.0 (operand-below code a s.1)

exit-below : (code : Tac) (e : Exit) → exit_fits code e ≡ true → all_below code.temps (exit_reads e) ≡ true
exit-below code (Jump e) h = refl
exit-below code (Branch a e f) h =
    let s = and_parts (operand_fits code a && edge_fits code e) (edge_fits code f) h in
    operand-below code a (and_parts (operand_fits code a) (edge_fits code e) s.0).0
exit-below code (Return v) h = part-below code v h
exit-below code (Fail kind at) h = refl

block : (code : Tac) (b : Block) → block_fits code b ≡ true → block_below code.temps (block_of b) ≡ true
block code b h =
    let s = and_parts (list_all (instruction_fits code) b.instructions) (exit_fits code b.exit) h in
    both _ (all_below code.temps (exit_reads b.exit))
    (all-mapped (instruction_fits code) (step_below code.temps) step_of (step code) b.instructions s.0) (exit-below code b.exit s.1)

pub own-temps : (code : Tac) → is_within code ≡ true → are_below code.temps (graph_of code) ≡ true
own-temps code h =
    let a = and_parts ((((list_all (block_fits code) code.blocks && list_all (destination_fits code) code.parameters) && list_all area_fits code.areas) && place_fits code.place) && nat_lt code.frame (2 ^ 63)) (nat_lt 0 (length code.blocks)) h in
    let b = and_parts (((list_all (block_fits code) code.blocks && list_all (destination_fits code) code.parameters) && list_all area_fits code.areas) && place_fits code.place) (nat_lt code.frame (2 ^ 63)) a.0 in
    let c = and_parts ((list_all (block_fits code) code.blocks && list_all (destination_fits code) code.parameters) && list_all area_fits code.areas) (place_fits code.place) b.0 in
    let d = and_parts (list_all (block_fits code) code.blocks && list_all (destination_fits code) code.parameters) (list_all area_fits code.areas) c.0 in
    let e = and_parts (list_all (block_fits code) code.blocks) (list_all (destination_fits code) code.parameters) d.0 in
    all-mapped (block_fits code) (block_below code.temps) block_of (block code) code.blocks e.0
