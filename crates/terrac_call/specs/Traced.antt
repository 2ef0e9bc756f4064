-- What goes to `out` of a run of an image before the line of its end: what the program writes; or, where the run is traced, a
-- line for each step that fetched a word.
use Rattle.std.specs.Prelude.{ℕ, Bool, List, Option, if◌then◌else◌}
use Rattle.std.specs.List.{concat}
use Rattle.elf_image.specs.declared.image.Image.{Image}
use Rattle.rv_isa.specs.declared.instr.Instr.{Instr}
use Rattle.rv_machine.specs.Machine.{Ran}
use Rattle.rv_machine.specs.ImageRun.{image_start}
use Rattle.rv_listing.specs.Trace.{Trace}

-- the lines of a run of at most so many steps, from an address with these arguments, by the image's program. The first step has
-- number 1
abbrev pub trace_text : Image → (address : ℕ) → (arguments : List ℕ) → (steps : ℕ) → List (Option Instr) → List ℕ
trace_text image address arguments steps program =
    concat (Trace program image.text (image_start image address arguments) 1 steps)

-- the same where the run is traced, and else its output
abbrev pub shown_run :
    Bool → Image → (address : ℕ) → (arguments : List ℕ) → (steps : ℕ) → List (Option Instr) → Ran → List ℕ
shown_run traced image address arguments steps program ran =
    if traced then trace_text image address arguments steps program else ran.output
