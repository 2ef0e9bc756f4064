-- The instructions of text.
use Rattle.std.specs.Prelude.{ℕ, List, [], ◌∷◌, Option}
use Rattle.rv_isa.specs.declared.instr.Instr.{Instr}
use Rattle.rv_isa.specs.Finds.{Finds}
use Rattle.rv_isa.specs.Table.{word_of}

-- A program is the instructions of words, in order: for each word the instruction that has it, or None where none has.
abbrev pub IsProgram : List ℕ → List (Option Instr) → Type 0
IsProgram [] [] = Unit {0}
IsProgram (w ∷ words) (found ∷ program) = Finds word_of w found × IsProgram words program
IsProgram [] (found ∷ program) = ⊥
IsProgram (w ∷ words) [] = ⊥
