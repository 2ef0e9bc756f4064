-- What the code of an instruction promises: one step of three-address code is at least one of the machine's steps and at most as many
-- as this code has words, and the machine holds afterwards what three-address code sees then.
use Rattle.std.specs.Prelude.{◌≡◌, ℕ, ◌+◌, ◌*◌, ◌^◌, ◌<◌, ◌≤◌, ◌%◌, Bool, true, false, nat_eq, if◌then◌else◌, List, ◌++◌, length, Option}
use Rattle.std.specs.Prelude.{Some, None, slice_get, IsTrue, ◌⊎◌}
use Rattle.std.specs.List.{list_all}
use Rattle.tl_base.specs.declared.place.Place.{Place}
use Rattle.rv_isa.specs.declared.instr.Instr.{Instr}
use Rattle.reg_alloc.specs.declared.assignment.Home.{Home}
use Rattle.reg_alloc.specs.Right.{IsRight}
use Rattle.rv_machine.specs.declared.stops.MachineKind.TheVariants.{Break}
use Rattle.rv_machine.specs.declared.stops.Stop.TheVariants.{MachineFault, TerraFault}
use Rattle.rv_machine.specs.Word.{low}
use Rattle.rv_machine.specs.Machine.{State, after_output, run_of, stands}
use Rattle.terra_memory.specs.Region.{end_address}
use Rattle.terra_words.specs.declared.words.FaultKind.{FaultKind}
use Rattle.terra_words.specs.Words.{fault_number}
use Rattle.terra_words.specs.Runs.{Returned, Fault, Stuck, Over, More}
use Rattle.tac_form.specs.declared.tac.Instruction.{Instruction}
use Rattle.tac_form.specs.declared.tac.Exit.{Exit}
use Rattle.tac_form.specs.declared.tac.Block.{Block}
use Rattle.tac_form.specs.declared.tac.Tac.{Tac}
use Rattle.tac_form.specs.declared.graph.FlowBlock.{FlowBlock}
use Rattle.tac_form.specs.Flow as tac
use Rattle.tac_form.specs.Flow.{Program, Goes, Stops, put, step}
use Rattle.tac_form.specs.Graph.{graph_of}
use Rattle.tac_form.specs.Live.{InUse}
use Rattle.tac_form.specs.Fits.{area_fits, exit_fits, instruction_fits}
use Rattle.tac_form.specs.Weights.{code_words, exit_words, words_of}
use Rattle.rv_operators.specs.Runs.{Stands}
use Rattle.rv_select.specs.declared.settings.Setting.{Setting}
use Rattle.rv_select.specs.Asked.{asks, exit_asks}
use Rattle.rv_select.specs.Places.{HaveHomes, IsHeld, Layout, World, Holds, Keeps, is_near, is_short, layout_of}
use Rattle.rv_select.specs.Shapes.{exit_shape, has_exit_shape, has_shape, held_after, place_number, shape_of}

-- what is in use after an instruction was in use before it, or is what it writes
abbrev pub Follows : (Used Next : ℕ → Type 0) → (d : ℕ) → Type 0
Follows Used Next d = (t : ℕ) → Next t → (t ≡ d) ⊎ Used t

-- what three-address code sees once a temporary has another word
abbrev pub with_temp : World → ℕ → ℕ → World
with_temp w d v = record w { temps = put w.temps d v }

-- the address behind code
abbrev pub behind : State → List Instr → ℕ
behind m code = low (m.pc + 4 * length code)

-- The machine writes these bytes and comes, in at least one and at most so many steps, whatever it does then, to this address, where
-- it holds this.
pub record Comes (y : Layout) (program : List (Option Instr)) (Next : ℕ → Type 0) (w : World) (base most target : ℕ) (out : List ℕ)
    (m : State) : Type 0 where
  pub steps : ℕ
  pub after : State
  pub some : 1 ≤ steps
  pub few : steps ≤ most
  pub runs : (more : ℕ) → run_of program m (steps + more) ≡ after_output out (run_of program after more)
  pub at : after.pc ≡ target
  pub holds : Holds y Next w base after
  pub keeps : Keeps y base m after

-- The machine writes nothing, and ends the run in at most so many steps by a fault. Then S1 is as it was.
pub record Ends (program : List (Option Instr)) (kind : FaultKind) (at : Place) (most : ℕ) (m : State) : Type 0 where
  pub steps : ℕ
  pub last : State
  pub few : steps ≤ most
  pub runs : (more : ℕ) → run_of program m (steps + more) ≡ stands (TerraFault (fault_number kind) (place_number at)) last
  pub count : last.registers 9 ≡ m.registers 9

-- The machine writes nothing, and breaks the run off in at most so many steps.
pub record Breaks (program : List (Option Instr)) (most : ℕ) (m : State) : Type 0 where
  pub steps : ℕ
  pub last : State
  pub few : steps ≤ most
  pub runs : (more : ℕ) → run_of program m (steps + more) ≡ stands (MachineFault Break last.pc) last

-- In code that counts S1 holds so many counts that are left.
abbrev pub CountsLeft : (counts : Bool) → (left : ℕ) → State → Type 0
CountsLeft true left m = (m.registers 9 ≡ left) × (left < 2 ^ 64)
CountsLeft false left m = Unit {0}

abbrev pub with_count : (counts : Bool) → (left : ℕ) → State → State
with_count true left m = record m { registers = λ r. if nat_eq r 9 then left else m.registers r }
with_count false left m = m

-- The machine ends the run so where code counts and has so many counts left then.
pub record EndsLeft (counts : Bool) (program : List (Option Instr)) (kind : FaultKind) (at : Place) (most left : ℕ) (m : State) :
    Type 0 where
  pub steps : ℕ
  pub last : State
  pub few : steps ≤ most
  pub runs : (more : ℕ) → run_of program m (steps + more) ≡ stands (TerraFault (fault_number kind) (place_number at)) last
  pub count : CountsLeft counts left last

-- Where three-address code needs one more count, code that counts breaks the run off, and of any other nothing is promised.
abbrev pub OnMore : (counts : Bool) → List (Option Instr) → (most : ℕ) → State → Type 0
OnMore true program most m = Breaks program most m
OnMore false program most m = Unit {0}

-- what is in use after an instruction that writes no temporary was in use before it
abbrev pub AreFewer : (Used Next : ℕ → Type 0) → Type 0
AreFewer Used Next = (t : ℕ) → Next t → Used t

-- places of tokens are in one word
abbrev pub IsPlace : Place → Type 0
IsPlace at = place_number at < 2 ^ 64

-- what three-address code sees in a state
abbrev pub world_of : tac.State → World
world_of s = record {
  temps = s.here.temps;
  areas = s.here.areas;
  region = s.region;
  placed = s.here.base;
  depth = length s.callers;
}

-- The machine does from a state what three-address code does in a step from another, on the code of one instruction, in at most as many
-- steps as this code has words. Where the step goes on, it comes behind this code to a state that holds what three-address code sees then,
-- in T0 too, and writes what it writes; where the step ends the run by a fault, it ends the run by the same. Of code that is stuck nothing
-- is promised.
abbrev pub Carried : Layout → List FlowBlock → List (Option Instr) → (base : ℕ) → (held : Option ℕ) → List Instr → tac.State →
    State → tac.Moved → Type 0
Carried y graph program base held code s m (Goes t) =
    (out : List ℕ) × (t.out ≡ s.out ++ out) ×
    (c : Comes y program (InUse graph t.here.block t.here.at) (world_of t) base (length code) (behind m code) out m)
    × IsHeld y held t.here.temps c.after
Carried y graph program base held code s m (Stops (Over (Fault kind at) out)) = (out ≡ s.out) × Ends program kind at (length code) m
Carried y graph program base held code s m (Stops (Over (Returned v) out)) = ⊥
Carried y graph program base held code s m (Stops (Over Stuck out)) = Unit {0}
Carried y graph program base held code s m (Stops (More out)) = ⊥

-- Where a function's code stands at one of its instructions: its three-address code is right for machine code, its temporaries have
-- right homes, those have one that the instruction's code asks for, and the machine stands before this code and holds what three-address
-- code sees, in T0 too.
pub record StandsBefore (p : Program) (code : Tac) (homes : List (Option Home)) (held : Option ℕ) (i : Instruction) (s : tac.State)
    (program : List (Option Instr)) (base : ℕ) (m : State) : Type 0 where
  pub block : Block
  pub function : p.code s.here.function ≡ Some code
  pub in_function : slice_get code.blocks s.here.block ≡ Some block
  pub in_block : slice_get block.instructions s.here.at ≡ Some i
  pub fits : IsTrue (instruction_fits code i)
  pub areas : IsTrue (list_all area_fits code.areas)
  pub frame : s.here.base + code.frame ≤ end_address s.region
  pub right : IsRight code homes
  pub asked : HaveHomes (layout_of code homes) (asks held i)
  pub stands : Stands program m.pc (shape_of (layout_of code homes) held i)
  pub holds : Holds (layout_of code homes) (InUse (graph_of code) s.here.block s.here.at) (world_of s) base m
  pub five : IsHeld (layout_of code homes) held s.here.temps m

-- Each instruction that has code so far is carried out by it.
abbrev pub InstructionsAreCarried : Type 0
InstructionsAreCarried =
    (p : Program) (code : Tac) (homes : List (Option Home)) (held : Option ℕ) (i : Instruction) (s : tac.State)
    (program : List (Option Instr)) (base : ℕ)
    (m : State) → IsTrue (has_shape i) → StandsBefore p code homes held i s program base m →
    Carried (layout_of code homes) (graph_of code) program base (held_after i) (shape_of (layout_of code homes) held i) s m (step p s)

-- The code of an instruction has at most as many words as its weight.
abbrev pub ShapesKeepWithin : Type 0
ShapesKeepWithin = (y : Layout) (held : Option ℕ) (i : Instruction) → IsTrue (has_shape i) → length (shape_of y held i) ≤ words_of i

-- The machine stands already at this address, where it holds this.
pub record Remains (y : Layout) (Next : ℕ → Type 0) (w : World) (base target : ℕ) (m : State) : Type 0 where
  pub at : m.pc ≡ target
  pub holds : Holds y Next w base m

-- The machine comes, in at least one and at most so many steps, and writes nothing, to this address, where it holds this, and what callers
-- rest on is as in another state.
pub record LeadsTo (y : Layout) (program : List (Option Instr)) (Next : ℕ → Type 0) (w : World) (base most target : ℕ) (before m : State) :
    Type 0 where
  pub steps : ℕ
  pub after : State
  pub some : 1 ≤ steps
  pub few : steps ≤ most
  pub runs : (more : ℕ) → run_of program m (steps + more) ≡ run_of program after more
  pub at : after.pc ≡ target
  pub holds : Holds y Next w base after
  pub keeps : Keeps y base before after

-- The machine does from a state what an exit does that stays in its function, in at most so many steps: it comes to the address of the
-- block at which three-address code stands then, and what callers rest on is as it was, but for S1, which has the counts that are left
-- then, where code counts; or it stands there already, where that takes no count.
abbrev pub Left : Layout → List FlowBlock → List (Option Instr) → (base most : ℕ) → (starts : ℕ → ℕ) → tac.State → State → tac.Moved →
    Type 0
Left y graph program base most starts s m (Goes t) =
    (t.out ≡ s.out) ×
    (LeadsTo y program (InUse graph t.here.block t.here.at) (world_of t) base most (starts t.here.block)
    (with_count y.extent.counts t.left m) m
    ⊎ ((s.left ≡ t.left) × Remains y (InUse graph t.here.block t.here.at) (world_of t) base (starts t.here.block) m))
Left y graph program base most starts s m (Stops (Over (Fault kind at) out)) = (out ≡ s.out) × Ends program kind at most m
Left y graph program base most starts s m (Stops (Over (Returned v) out)) = ⊥
Left y graph program base most starts s m (Stops (Over Stuck out)) = Unit {0}
Left y graph program base most starts s m (Stops (More out)) = OnMore y.extent.counts program most m

-- Each block begins at most as far from an address as a function's code is long by its weight.
abbrev pub IsReached : Tac → (starts : ℕ → ℕ) → (from : ℕ) → Type 0
IsReached code starts from =
    (b : ℕ) → b < length code.blocks → (from ≤ starts b + 4 * code_words code) × (starts b ≤ from + 4 * code_words code)

-- Where a function's code stands at a block's exit. Code and blocks stand at addresses below 2 ^ 30, and behind this code the next block.
pub record StandsAtExit (p : Program) (code : Tac) (homes : List (Option Home)) (held : Option ℕ) (exit : Exit) (starts : ℕ → ℕ)
    (s : tac.State) (program : List (Option Instr)) (base : ℕ) (m : State) : Type 0 where
  pub block : Block
  pub function : p.code s.here.function ≡ Some code
  pub in_function : slice_get code.blocks s.here.block ≡ Some block
  pub in_block : slice_get block.instructions s.here.at ≡ None
  pub is : block.exit ≡ exit
  pub fits : IsTrue (exit_fits code exit)
  pub right : IsRight code homes
  pub asked : HaveHomes (layout_of code homes) (exit_asks held exit)
  pub near : m.pc + 256 ≤ 2 ^ 30
  pub blocks : (b : ℕ) → (starts b < 2 ^ 30) × (starts b % 2 ≡ 0)
  pub reach : IsReached code starts m.pc
  pub setting : Setting
  pub near_is : setting.near ≡ is_near code
  pub short_is : setting.short ≡ is_short code
  pub counts_is : setting.counts ≡ code.counts
  pub stands : Stands program m.pc (exit_shape (layout_of code homes) setting held m.pc starts exit)
  pub next_there : (n : ℕ) → setting.next ≡ Some n →
      starts n ≡ m.pc + 4 * length (exit_shape (layout_of code homes) setting held m.pc starts exit)
  pub holds : Holds (layout_of code homes) (InUse (graph_of code) s.here.block s.here.at) (world_of s) base m
  pub five : IsHeld (layout_of code homes) held s.here.temps m
  pub counts : CountsLeft code.counts s.left m

-- Each exit that has code so far is carried out by it, in at most as many steps as this code has words.
abbrev pub ExitsAreCarried : Type 0
ExitsAreCarried =
    (p : Program) (code : Tac) (homes : List (Option Home)) (held : Option ℕ) (exit : Exit) (starts : ℕ → ℕ) (s : tac.State)
    (program : List (Option Instr))
    (base : ℕ) (m : State) → IsTrue (has_exit_shape exit) → (x : StandsAtExit p code homes held exit starts s program base m) →
    Left (layout_of code homes) (graph_of code) program base
    (length (exit_shape (layout_of code homes) x.setting held m.pc starts exit)) starts s m (step p s)

-- The code of an exit has at most as many words as its weight, and as many wherever it and the blocks stand.
abbrev pub ExitsKeepWithin : Type 0
ExitsKeepWithin =
    (y : Layout) (setting : Setting) (held : Option ℕ) (exit : Exit) (at other : ℕ) (starts others : ℕ → ℕ) → IsTrue (has_exit_shape exit) →
    (length (exit_shape y setting held at starts exit) ≤ exit_words exit) ×
    (length (exit_shape y setting held at starts exit) ≡ length (exit_shape y setting held other others exit))
