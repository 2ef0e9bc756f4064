-- What the code does where it traces a run.
use Rattle.std.specs.Prelude.{ℕ, ◌≡◌, ◌≢◌, ◌-◌, ◌/◌, nat_eq, if◌then◌else◌, List, [], ◌∷◌, ◌++◌, Option, Some, None}
use Rattle.std.specs.Prelude.{Bool, true, false, not, ◌&&◌}
use Rattle.std.specs.Prelude.{Vec, option_map, slice_index}
use Rattle.std.specs.Coded.{Coded-set, coded_ℕ, ×_prop, Π_prop, →_prop, Unit-prop}
use Rattle.std.specs.List.{concat}
use Rattle.tl_base.specs.declared.limits.TheConstants.{TEXT_ADDRESS}
use Rattle.tl_base.specs.Outside.{with_back, IsRisen}
use Rattle.rv_isa.specs.declared.instr.Instr.{Instr}
use Rattle.rv_isa.specs.Finds.{Finds}
use Rattle.rv_isa.specs.Table.{word_of}
use Rattle.rv_machine.specs.declared.stops.Stop.{Stop}
use Rattle.rv_machine.specs.declared.stops.Stop.TheVariants.{Returned, Unfinished, WriteFault, MachineFault, TerraFault}
use Rattle.rv_machine.specs.Machine.{State, Ran, fetch, register_at, run_of}
use Rattle.rv_machine.specs.Program.{IsProgram}
use Rattle.rv_listing.specs.Trace.{Trace}

-- words that are given
abbrev pub words_in : {Z : Type 0} → Option (Vec ℕ Z) → Option (List ℕ)
words_in words = option_map (λ it. it.items) words

-- these are the words of a program, where words are given
abbrev pub IsTextOf : Option (List ℕ) → List (Option Instr) → Type 0
IsTextOf None program = Unit {0}
IsTextOf (Some words) program = IsProgram words program

-- Each of these facts holds in one way, so that a struct may have it.
Finds-prop : (w : ℕ) (found : Option Instr) → IsProp (Finds word_of w found)
Finds-prop w (Some i) = Coded-set coded_ℕ (word_of i) w
Finds-prop w None = Π_prop (λ i. →_prop (λ a b. absurd a))

IsProgram-prop : (words : List ℕ) (program : List (Option Instr)) → IsProp (IsProgram words program)
IsProgram-prop [] [] = Unit-prop
IsProgram-prop (w ∷ words) (found ∷ program) = ×_prop (Finds-prop w found) (IsProgram-prop words program)
IsProgram-prop [] (found ∷ program) = λ a b. absurd a
IsProgram-prop (w ∷ words) [] = λ a b. absurd a

pub IsTextOf-prop : (words : Option (List ℕ)) (program : List (Option Instr)) → IsProp (IsTextOf words program)
IsTextOf-prop None program = Unit-prop
IsTextOf-prop (Some words) program = IsProgram-prop words program

-- the lines of at most that many steps, the first of which has this number
abbrev pub lines_of : List (Option Instr) → List ℕ → State → (number steps : ℕ) → List ℕ
lines_of program words s number steps = concat (Trace program words s number steps)

-- what a run writes: lines where words are given, and else the program's output
abbrev pub written_of : Option (List ℕ) → List (Option Instr) → State → (steps : ℕ) → List ℕ
written_of None program s steps = (run_of program s steps).output
written_of (Some words) program s steps = lines_of program words s 1 steps

-- a run came to this end, in this state
pub record Ended (ran : Ran) (stop : Stop) (s : State) : Type 0 where
  pub stops : ran.stop ≡ stop
  pub stands : ran.state ≡ s

-- a sink took these bytes, and no fault was counted. Where there are none it stays the same
pub record TookAll
    (bytes : List ℕ) (old new : Option (List ℕ)) (faults_old faults_new : ℕ) (Same : Type 0) : Type 0 where
  pub took : new ≡ with_back old bytes
  pub quiet : faults_new ≡ faults_old
  pub none : bytes ≡ [] → Same

-- a sink took a front of these bytes, which isn't all of them, and its count of faults rose
pub record TookPart (bytes : List ℕ) (old new : Option (List ℕ)) (faults_old faults_new : ℕ) : Type 0 where
  pub part : List ℕ
  pub rest : List ℕ
  pub front : bytes ≡ part ++ rest
  pub some : bytes ≢ []
  pub took : new ≡ with_back old part
  pub rose : IsRisen faults_old faults_new

-- what stands at an address of text: nothing, or a word, which the program has there
abbrev pub Fetched : List ℕ → (address : ℕ) → Option ℕ → Type 0
Fetched words address None = (program : List (Option Instr)) → IsProgram words program → fetch program address ≡ None
Fetched words address (Some word) =
    (program : List (Option Instr)) → IsProgram words program →
    (found : Option Instr) × (fetch program address ≡ Some found) × Finds word_of word found
    × (slice_index words ((address - TEXT_ADDRESS) / 4) ≡ word)

-- a run that stopped so ended by no fault
abbrev pub goes_on : Stop → Bool
goes_on (Returned value) = true
goes_on Unfinished = true
goes_on (MachineFault kind pc) = false
goes_on (TerraFault kind place) = false
goes_on WriteFault = false

-- what a step changed behind which this state stands: a register other than x0, unless it ended the run by a fault
abbrev pub change_behind : Stop → State → (register : ℕ) → Option (ℕ × ℕ)
change_behind stop s register =
    if goes_on stop && not (nat_eq register 0) then Some (register, register_at s register) else None
