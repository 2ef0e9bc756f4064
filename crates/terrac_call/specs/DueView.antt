-- What values of the program show of what is due.
use Rattle.std.specs.Prelude.{ℕ, Bool, if◌then◌else◌, List, [], Option, Some, None, string_bytes}
use Rattle.elf_image.specs.declared.image.Image.{Image}
use Rattle.terrac_call.specs.declared.status.Status.{Status}
use Rattle.terrac_call.specs.declared.status.Status.TheVariants as statuses
use Rattle.terrac_call.specs.declared.due.Line.{Line}
use Rattle.terrac_call.specs.declared.due.Line.TheVariants as lines
use Rattle.terrac_call.specs.declared.due.Due.{Due as DueValue}
use Rattle.terrac_call.specs.declared.due.Ready.{Ready}
use Rattle.terrac_call.specs.declared.due.Rest.{Rest}
use Rattle.terrac_call.specs.declared.due.Rest.TheVariants as rests
use Rattle.terrac_call.specs.declared.due.Stream.{Stream}
use Rattle.terrac_call.specs.declared.due.Stream.TheVariants as streams
use Rattle.terrac_call.specs.declared.due.Work.{Work}
use Rattle.rv_machine.specs.declared.stops.Stop.{Stop}
use Rattle.rv_machine.specs.Machine.{Ran, run_of}
use Rattle.rv_machine.specs.Shown.{program_of, state_of}
use Rattle.terrac_call.specs.Due.{Due, after, noting}
use Rattle.terrac_call.specs.Exec.{due_of_stop}
use Rattle.terrac_call.specs.Tracing.{words_in, written_of}

abbrev pub line_bytes : Line → List ℕ
line_bytes (lines.Fixed text) = text.now
line_bytes (lines.Made text) = string_bytes text
line_bytes (lines.Bytes text) = text

-- the result goes to `out`, and any other line to `notes`
abbrev pub due_with : Status → List ℕ → Due
due_with statuses.Ok bytes = record { status = statuses.Ok; out = bytes; noted = []; notes = [] }
due_with status bytes = record { status = status; out = []; noted = []; notes = bytes }

abbrev pub shown_due : DueValue → Due
shown_due due = due_with due.status (line_bytes due.line)

-- ---- work

-- what a machine that is ready does in its steps
abbrev pub ran_of : Ready → Ran
ran_of it = run_of (program_of it.machine) (state_of it.machine) it.steps

-- what it writes
abbrev pub written_by : Ready → List ℕ
written_by it = written_of (words_in it.words) (program_of it.machine) (state_of it.machine) it.steps

-- the words of an image whose run is traced
abbrev pub words_traced : Bool → Image → Option (List ℕ)
words_traced traced image = if traced then Some image.text else None

abbrev pub due_of_ran : (front : List ℕ) → (code : ℕ) → (written : List ℕ) → Stop → Due
due_of_ran front code written stop = after written (due_of_stop front code stop)

-- what its run writes, and the line of its end
abbrev pub due_of_run : Ready → Due
due_of_run it = due_of_ran (string_bytes it.front) it.code (written_by it) (ran_of it).stop

-- behind the file of its image
abbrev pub due_of_ready : Ready → Due
due_of_ready it = noting it.file.items (due_of_run it)

abbrev pub due_of_rest : Rest → Due
due_of_rest (rests.Due due) = shown_due due
due_of_rest (rests.Run ready) = due_of_ready ready

-- what is due behind what was printed, by where that goes
abbrev pub told_to : Stream → List ℕ → Due → Due
told_to streams.Out printed rest = after printed rest
told_to streams.Notes printed rest = noting printed rest

abbrev pub due_of_work : Work → Due
due_of_work it = told_to it.to it.printed (due_of_rest it.rest)
