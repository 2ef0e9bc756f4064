-- A program of several functions in the machine, and what the machine holds for the calls that wait.
use Rattle.std.specs.Prelude.{◌≡◌, ◌≢◌, ℕ, zero, suc, ◌+◌, ◌*◌, ◌%◌, ◌^◌, ◌<◌, ◌≤◌, if◌then◌else◌, List, [], ◌∷◌, ◌++◌, length, take, drop}
use Rattle.std.specs.Prelude.{Bool, false, Option, Some, None, slice_get, IsTrue}
use Rattle.tl_base.specs.declared.limits.TheConstants.{REGION_ADDRESS}
use Rattle.tl_base.specs.declared.ids.FnId.{FnId}
use Rattle.tl_base.specs.declared.place.Place.{Place}
use Rattle.rv_isa.specs.declared.instr.Instr.{Instr}
use Rattle.reg_alloc.specs.declared.assignment.Home.{Home}
use Rattle.reg_alloc.specs.Right.{IsRight}
use Rattle.rv_machine.specs.declared.stops.Stop.TheVariants as stops
use Rattle.rv_machine.specs.Machine.{State, after_output, run_of, stands}
use Rattle.terra_memory.specs.Region.{end_address}
use Rattle.terra_words.specs.Runs.{Value, word, Returned, Fault, Stuck, Over, More}
use Rattle.tac_form.specs.declared.tac.Part.{Part}
use Rattle.tac_form.specs.declared.tac.Destination.{Destination}
use Rattle.tac_form.specs.declared.tac.Instruction.{Instruction}
use Rattle.tac_form.specs.declared.tac.Instruction.TheVariants.{Call}
use Rattle.tac_form.specs.declared.tac.Block.{Block}
use Rattle.tac_form.specs.declared.tac.Tac.{Tac}
use Rattle.tac_form.specs.Flow as tac
use Rattle.tac_form.specs.Flow.{Caller, Program, Goes, Stops}
use Rattle.tac_form.specs.Graph.{destination_write, graph_of}
use Rattle.tac_form.specs.Live.{InUse}
use Rattle.tac_form.specs.Fits.{Counted, Fits}
use Rattle.tac_form.specs.Weights.{most_moved}
use Rattle.rv_operators.specs.Runs.{Stands}
use Rattle.rv_select.specs.Places.{AreBytes, HasHome, Holds, IsHeld, Keeps, Layout, area_offset, frame_bytes, home_of, layout_of, link_in}
use Rattle.rv_select.specs.Places.{private_word, uses, word_at}
use Rattle.rv_select.specs.declared.pairs.Reads.{Reads}
use Rattle.rv_select.specs.Pairs.{plain_of, reads_of}
use Rattle.rv_select.specs.Shapes.{held_after, start_of}
use Rattle.rv_select.specs.Steps.{CountsLeft, EndsLeft, OnMore, world_of}
use Rattle.rv_select.specs.Entering.{begun, kept_offset}
use Rattle.rv_select.specs.Calls.{all_has_code, block_starts, call_begun, function_code, instruction_code}

-- Where a function is: the homes of its temporaries, and the address at which its code begins.
pub record Placed : Type 0 where
  pub homes : List (Option Home)
  pub at : ℕ

abbrev pub Image : Type 0
Image = FnId → Placed

-- where calls enter a function, behind the code by which it begins as the entry
abbrev pub entry_of : Option Tac → Placed → ℕ
entry_of None x = 0
entry_of (Some code) x = x.at + 4 * length (begun code)

abbrev pub entries_of : Program → Image → FnId → ℕ
entries_of p image f = entry_of (p.code f) (image f)

-- as many parts are passed as the function takes
abbrev pub PassesAll : Program → Tac → Type 0
PassesAll p code =
    (b k : ℕ) (block : Block) (to : Destination) (at : Place) (f : FnId) (arguments : List Part) (callee : Tac) →
    slice_get code.blocks b ≡ Some block → slice_get block.instructions k ≡ Some (Call to at f arguments) → p.code f ≡ Some callee →
    length arguments ≡ length callee.parameters

-- all functions count where one does
abbrev pub CountsAlike : Program → Tac → Type 0
CountsAlike p code = (f : FnId) (other : Tac) → p.code f ≡ Some other → other.counts ≡ code.counts

-- The code of a function stands in the machine: it is right, and below 2 ^ 30, its frame has at most so many bytes, its temporaries
-- have right homes, and it counts where the others do.
pub record IsPlaced (p : Program) (image : Image) (program : List (Option Instr)) (most : ℕ) (code : Tac) (x : Placed) : Type 0 where
  pub fits : Fits code
  pub counted : Counted code
  pub right : IsRight code x.homes
  pub has_code : IsTrue (all_has_code code)
  pub passes : PassesAll p code
  pub alike : CountsAlike p code
  pub aligned : x.at % 4 ≡ 0
  pub near : x.at + 4 * length (function_code (layout_of code x.homes) code (entries_of p image) x.at) + 256 ≤ 2 ^ 30
  pub frame : frame_bytes (layout_of code x.homes) ≤ most
  pub stands : Stands program x.at (function_code (layout_of code x.homes) code (entries_of p image) x.at)

-- Each function of a program stands in the machine.
abbrev pub IsLinked : Program → Image → List (Option Instr) → (most : ℕ) → Type 0
IsLinked p image program most =
    (f : FnId) (code : Tac) → p.code f ≡ Some code → IsPlaced p image program most code (image f)

-- where an instruction stands, by where the first does, and what T0 holds there
abbrev pub instruction_at : Layout → (sizes : List ℕ) → (places : FnId → ℕ) → (at : ℕ) → (held : Option ℕ) → List Instruction → ℕ → ℕ
instruction_at y sizes places at held is zero = at
instruction_at y sizes places at held [] (suc k) = at
instruction_at y sizes places at held (i ∷ is) (suc k) =
    instruction_at y sizes places (at + 4 * length (instruction_code y sizes places at held i)) (held_after i) is k

abbrev pub held_at : (held : Option ℕ) → List Instruction → ℕ → Option ℕ
held_at held is zero = held
held_at held [] (suc k) = held
held_at held (i ∷ is) (suc k) = held_at (held_after i) is k

-- the instructions of a block that have code of their own
abbrev pub plain_in : List Reads → Option Block → List Instruction
plain_in reads None = []
plain_in reads (Some b) = plain_of reads b

abbrev pub place_in : Program → Image → Tac → Placed → (block at : ℕ) → ℕ
place_in p image code x b k =
    let y : Layout = layout_of code x.homes in
    instruction_at y code.areas (entries_of p image) (start_of (block_starts y code x.at) b) None
    (plain_in (reads_of code) (slice_get code.blocks b)) k

abbrev pub held_in : Tac → (block at : ℕ) → Option ℕ
held_in code b k = held_at None (plain_in (reads_of code) (slice_get code.blocks b)) k

-- what the caller's registers are once the function has put them back
abbrev pub restored : Layout → (base : ℕ) → State → State
restored y base m =
    record m { registers = λ r. if uses y r then private_word m (base + kept_offset r) else m.registers r }

-- Below the frame there is room for each call that may still be made.
pub record HasRoom (most depth base : ℕ) : Type 0 where
  pub rest : ℕ
  pub calls : rest + depth ≡ 511
  pub room : rest * most ≤ base

-- A caller that waits, whose frame begins at an offset: the return address is behind its call, and all that it has in use afterwards
-- stands where its function's layout gives it a home, but for the result.
pub record Waiting (p : Program) (image : Image) (most : ℕ) (c : Caller) (depth link base placed : ℕ) (m : State) : Type 0 where
  pub code : Tac
  pub function : p.code c.waits.function ≡ Some code
  pub block : Block
  pub in_function : slice_get code.blocks c.waits.block ≡ Some block
  pub before : ℕ
  pub at : c.waits.at ≡ suc before
  pub place : Place
  pub callee : FnId
  pub arguments : List Part
  pub in_block : slice_get (plain_of (reads_of code) block) before ≡ Some (Call c.to place callee arguments)
  pub returns : link ≡ place_in p image code (image c.waits.function) c.waits.block before
      + 4 * length (call_begun (layout_of code (image c.waits.function).homes) (held_in code c.waits.block before) place arguments) + 8
  pub values : (t : ℕ) → InUse (graph_of code) c.waits.block c.waits.at t → destination_write c.to ≢ Some t →
      HasHome (layout_of code (image c.waits.function).homes) t → word_at base m (home_of (layout_of code (image c.waits.function).homes) t)
      ≡ c.waits.temps t
  pub words : (t : ℕ) → InUse (graph_of code) c.waits.block c.waits.at t → destination_write c.to ≢ Some t → c.waits.temps t < 2 ^ 64
  pub areas : (n : ℕ) → n < length code.areas →
      take (length (c.waits.areas n)) (drop (base + area_offset (layout_of code (image c.waits.function).homes) n) m.private) ≡
      c.waits.areas n
  pub short : (n : ℕ) → n < length code.areas → length (c.waits.areas n) ≤ most_moved
  pub area_bytes : (n : ℕ) → n < length code.areas → AreBytes (c.waits.areas n)
  pub placed_is : c.waits.base ≡ placed
  pub room : HasRoom most depth base

-- All callers wait, the last one first, each with its return address in its frame. The first function was entered with address 0 as the
-- return address, under the ends of private memory and of the region, which has so many bytes.
abbrev pub Waits : Program → Image → (most size : ℕ) → List Caller → (link base placed : ℕ) → State → Type 0
Waits p image most size [] link base placed m =
    (link ≡ 0) × (base ≡ length m.private) × (placed ≡ REGION_ADDRESS + size)
Waits p image most size (c ∷ cs) link base placed m =
    (w : Waiting p image most c (length cs) link base placed m) ×
    Waits p image most size cs (private_word m base) (base + frame_bytes (layout_of w.code (image c.waits.function).homes))
    (placed + w.code.frame)
    (restored (layout_of w.code (image c.waits.function).homes) base m)

-- The machine stands where three-address code does in a state: before the code of the next instruction, or of what ends the block. Between
-- a comparison and its branch, where both have one code, it never stands. It holds what three-address code sees, in T0 what the
-- instruction before left there, and in S1 the counts that are left, where code counts, and all callers wait; and below the frame there
-- is room for each call that may still be made.
pub record StandsIn (p : Program) (image : Image) (program : List (Option Instr)) (most size : ℕ) (s : tac.State) (base : ℕ) (m : State) :
    Type 0 where
  pub code : Tac
  pub function : p.code s.here.function ≡ Some code
  pub before_end : s.here.at ≤ length (plain_in (reads_of code) (slice_get code.blocks s.here.block))
  pub pc : m.pc ≡ place_in p image code (image s.here.function) s.here.block s.here.at
  pub holds : Holds (layout_of code (image s.here.function).homes) (InUse (graph_of code) s.here.block s.here.at) (world_of s) base m
  pub five : IsHeld (layout_of code (image s.here.function).homes) (held_in code s.here.block s.here.at) s.here.temps m
  pub counts : CountsLeft code.counts s.left m
  pub frame : s.here.base + code.frame ≤ end_address s.region
  pub region : length s.region.bytes ≡ size
  pub room : HasRoom most (length s.callers) base
  pub waits : Waits p image most size s.callers (link_in (layout_of code (image s.here.function).homes) base m)
      (base + frame_bytes (layout_of code (image s.here.function).homes))
      (s.here.base + code.frame) (restored (layout_of code (image s.here.function).homes) base m)

-- The machine comes, in at most so many steps and in at least as many as three-address code takes counts, of which it had so many left, to
-- a state in which it stands where three-address code does in another state.
pub record Arrives (p : Program) (image : Image) (program : List (Option Instr)) (most size bound left : ℕ) (out : List ℕ) (t : tac.State)
    (m : State) : Type 0 where
  pub steps : ℕ
  pub after : State
  pub base : ℕ
  pub enough : left ≤ t.left + steps
  pub few : steps ≤ bound
  pub runs : (more : ℕ) → run_of program m (steps + more) ≡ after_output out (run_of program after more)
  pub stands : StandsIn p image program most size t base after

-- The machine writes nothing, and ends the run in so many steps by giving back a word: that of the value, if it is one. Where code counts,
-- so many counts are left then.
pub record Finishes (counts : Bool) (program : List (Option Instr)) (v : Value) (bound left : ℕ) (m : State) : Type 0 where
  pub steps : ℕ
  pub last : State
  pub few : steps ≤ bound
  pub runs : (more : ℕ) → run_of program m (steps + more) ≡ stands (stops.Returned (last.registers 10)) last
  pub gives : (x : ℕ) → v ≡ word x → last.registers 10 ≡ x
  pub count : CountsLeft counts left last

-- whether a function counts
abbrev pub counts_in : Option Tac → Bool
counts_in None = false
counts_in (Some code) = code.counts

-- What the machine does for a step of three-address code, in at most so many steps of its own: it comes to where three-address code is
-- then, and writes what that writes, or ends the run as that does, with so many counts left if code counts. Where one more count is
-- needed it breaks the run off, if code counts, and else it only stands there; and of code that is stuck nothing is promised.
abbrev pub Stepped : Program → Image → List (Option Instr) → (most size left bound : ℕ) → tac.State → State → tac.Moved → Type 0
Stepped p image program most size left bound s m (Goes t) =
    (out : List ℕ) × (t.out ≡ s.out ++ out) × Arrives p image program most size bound s.left out t m
Stepped p image program most size left bound s m (Stops (Over (Fault kind at) out)) =
    (out ≡ s.out) × EndsLeft (counts_in (p.code s.here.function)) program kind at bound left m
Stepped p image program most size left bound s m (Stops (Over (Returned v) out)) =
    (out ≡ s.out) × Finishes (counts_in (p.code s.here.function)) program v bound left m
Stepped p image program most size left bound s m (Stops (Over Stuck out)) = Unit {0}
Stepped p image program most size left bound s m (Stops (More out)) =
    (out ≡ s.out) × (s.left ≡ 0) × OnMore (counts_in (p.code s.here.function)) program bound m

-- What waits goes on waiting where a function keeps what its callers rest on.
abbrev pub CallersGoOnWaiting : Type 0
CallersGoOnWaiting =
    (p : Program) (image : Image) (program : List (Option Instr)) (most size : ℕ) (y : Layout) (cs : List Caller) (base placed : ℕ)
    (m n : State) →
    IsLinked p image program most → Keeps y base m n →
    Waits p image most size cs (link_in y base m) (base + frame_bytes y) placed (restored y base m) →
    Waits p image most size cs (link_in y base n) (base + frame_bytes y) placed (restored y base n)
