-- From what instructions do to runs of the whole machine.
use Rattle.std.specs.Prelude.{◌≡◌, ℕ, ◌+◌, ◌*◌, ◌^◌, ◌≤◌, Bool, true, false, IsTrue, List, [], ◌∷◌, ◌++◌, length, map, Option, Some}
use Rattle.std.specs.List.{list_all}
use Rattle.tl_base.specs.declared.limits.TheConstants.{TEXT_ADDRESS}
use Rattle.rv_isa.specs.declared.instr.Instr.{Instr}
use Rattle.rv_isa.specs.declared.instr.Instr.TheVariants.{Lui, Auipc, Load, Store, RegisterImmediate, Shift, Addiw, ShiftWord}
use Rattle.rv_isa.specs.declared.instr.Instr.TheVariants.{RegisterRegister, RegisterRegisterWord}
use Rattle.rv_isa.specs.Table.{word_of}
use Rattle.rv_machine.specs.Word.{low}
use Rattle.rv_machine.specs.Machine.{State, GoesOn, fetch, run_of}
use Rattle.rv_machine.specs.Program.{IsProgram}
use Rattle.rv_operators.specs.Claims.{acts}

-- an instruction that goes on behind itself wherever it goes on, and writes nothing to the output
abbrev pub is_straight : Instr → Bool
is_straight (Lui rd imm) = true
is_straight (Auipc rd imm) = true
is_straight (Load op rd rs1 offset) = true
is_straight (Store op rs1 rs2 offset) = true
is_straight (RegisterImmediate op rd rs1 imm) = true
is_straight (Shift op rd rs1 count) = true
is_straight (Addiw rd rs1 imm) = true
is_straight (ShiftWord op rd rs1 count) = true
is_straight (RegisterRegister op rd rs1 rs2) = true
is_straight (RegisterRegisterWord op rd rs1 rs2) = true
is_straight _ = false

abbrev pub AreStraight : List Instr → Type 0
AreStraight code = IsTrue (list_all is_straight code)

-- the instructions stand at an address, one word after the other
abbrev pub Stands : List (Option Instr) → ℕ → List Instr → Type 0
Stands program pc [] = Unit {0}
Stands program pc (i ∷ is) = (fetch program pc ≡ Some (Some i)) × Stands program (low (pc + 4)) is

-- Where straight instructions stand and come to a state, the machine's run comes there in as many steps: what it does in more
-- steps it does from there, and the output has nothing besides.
abbrev pub StraightCodeRuns : Type 0
StraightCodeRuns =
    (program : List (Option Instr)) (code : List Instr) (s after : State) →
    Stands program s.pc code → AreStraight code → acts code s ≡ GoesOn after →
    (more : ℕ) → run_of program s (length code + more) ≡ run_of program after more

-- instructions stand where their words are in the text
abbrev pub WordsStand : Type 0
WordsStand =
    (before rest : List ℕ) (code : List Instr) (program : List (Option Instr)) →
    IsProgram (before ++ (map word_of code ++ rest)) program →
    TEXT_ADDRESS + 4 * (length before + length code) ≤ 2 ^ 64 →
    Stands program (TEXT_ADDRESS + 4 * length before) code
