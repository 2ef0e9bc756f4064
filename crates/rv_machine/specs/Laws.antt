-- What runs keep.
use Rattle.std.specs.Prelude.{◌≡◌, ◌≢◌, ℕ, suc, ◌+◌, List, Option}
use Rattle.rv_isa.specs.declared.instr.Instr.{Instr}
use Rattle.rv_machine.specs.declared.stops.Stop.TheVariants.{Unfinished}
use Rattle.rv_machine.specs.Machine.{State, Ran, stands, after_output, run_of}
use Rattle.rv_machine.specs.Program.{IsProgram}

-- a run that isn't over after some steps goes on from where it stands: the run of `first + rest` steps is the run of
-- `rest` steps from there, and what it wrote before
abbrev pub RunsGoOn : Type 0
RunsGoOn =
    (program : List (Option Instr)) (s middle : State) (output : List ℕ) (first rest : ℕ) →
    run_of program s first ≡ record { stop = Unfinished; state = middle; output = output } →
    run_of program s (first + rest) ≡ after_output output (run_of program middle rest)

-- a run that is over stays over: more steps change nothing
abbrev pub RunsStayOver : Type 0
RunsStayOver =
    (program : List (Option Instr)) (s : State) (ran : Ran) (first more : ℕ) →
    run_of program s first ≡ ran → ran.stop ≢ Unfinished → run_of program s (first + more) ≡ ran

-- a stop that ended a run ends it again: from where it stands, it stops so at the next step, and writes nothing
abbrev pub RunsStopAgain : Type 0
RunsStopAgain =
    (program : List (Option Instr)) (s : State) (ran : Ran) (first more : ℕ) →
    run_of program s first ≡ ran → ran.stop ≢ Unfinished →
    run_of program ran.state (suc more) ≡ stands ran.stop ran.state

-- words have one program
abbrev pub OneProgram : Type 0
OneProgram =
    (words : List ℕ) (p q : List (Option Instr)) → IsProgram words p → IsProgram words q → p ≡ q
