-- How many steps runs take, and the machine's count of them.
use Rattle.std.specs.Prelude.{◌≡◌, ◌≢◌, ℕ, zero, suc, ◌+◌, ◌-◌, ◌^◌, ◌<◌, min, nat_eq, if◌then◌else◌, List, Option}
use Rattle.rv_isa.specs.declared.instr.Instr.{Instr}
use Rattle.rv_machine.specs.declared.stops.Stop.{Stop}
use Rattle.rv_machine.specs.declared.stops.Stop.TheVariants.{Returned, TerraFault, MachineFault, Unfinished, WriteFault}
use Rattle.rv_machine.specs.Machine.{State, Moved, GoesOn, Writes, Faults, Throws, step, Ran, run_of}
use Rattle.rv_machine.specs.Runs.{IsBeforeWrite}

-- the steps of a run from a step on. An instruction that stops the run counts too
abbrev pub steps_from : Moved → (State → ℕ) → ℕ
steps_from (GoesOn next) go = suc (go next)
steps_from (Writes next bytes) go = suc (go next)
steps_from (Faults kind) go = 1
steps_from (Throws kind place) go = 1

-- how many steps a run of at most that many takes. To see address 0 takes none
abbrev pub steps_of : List (Option Instr) → State → ℕ → ℕ
steps_of program s zero = 0
steps_of program s (suc steps) =
    if nat_eq s.pc 0 then 0 else steps_from (step program s) (λ next. steps_of program next steps)

-- so many steps lead a run from one state to another
abbrev pub StepsBetween : List (Option Instr) → State → State → ℕ → Type 0
StepsBetween program start now count =
    (rest : ℕ) → steps_of program start (count + rest) ≡ count + steps_of program now rest

-- the steps that a stop takes. A write that a sink doesn't take is none: the machine stands before it
abbrev pub steps_to : Stop → ℕ
steps_to (MachineFault kind pc) = 1
steps_to (TerraFault kind place) = 1
steps_to (Returned value) = 0
steps_to Unfinished = 0
steps_to WriteFault = 0

-- a count after some more steps: it stays at the largest number of 64 bits where it would be more
abbrev pub count_after : (count more : ℕ) → ℕ
count_after count more = min (count + more) (2 ^ 64 - 1)

-- the call came to an instruction that writes, and the count rose by the steps up to there
abbrev pub CountsToWrite :
    List (Option Instr) → (start : State) → (steps : ℕ) → State → (before after : Option (List ℕ)) → (old new : ℕ) → Type 0
CountsToWrite program start steps s before after old new =
    (came : IsBeforeWrite program start steps s before after) × (new ≡ count_after old came.done)

-- a run that isn't over took all its steps
abbrev pub UnfinishedTakesAll : Type 0
UnfinishedTakesAll =
    (program : List (Option Instr)) (s : State) (steps : ℕ) →
    (run_of program s steps).stop ≡ Unfinished → steps_of program s steps ≡ steps

-- a run that is over is over after the steps that it took
abbrev pub OverAfterTaken : Type 0
OverAfterTaken =
    (program : List (Option Instr)) (s : State) (steps : ℕ) (ran : Ran) →
    run_of program s steps ≡ ran → ran.stop ≢ Unfinished → run_of program s (steps_of program s steps) ≡ ran

-- and not after fewer
abbrev pub NotOverBefore : Type 0
NotOverBefore =
    (program : List (Option Instr)) (s : State) (steps fewer : ℕ) →
    fewer < steps_of program s steps → (run_of program s fewer).stop ≡ Unfinished

-- a run in parts takes the steps of its parts
abbrev pub PartsTakeSteps : Type 0
PartsTakeSteps =
    (program : List (Option Instr)) (s middle : State) (output : List ℕ) (first : ℕ) →
    run_of program s first ≡ record { stop = Unfinished; state = middle; output = output } →
    StepsBetween program s middle first
