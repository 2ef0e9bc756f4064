-- What is due for `exec` and `trace`: an image is read, a function of it is called, and the run of the image says how that
-- ends.
use Rattle.std.specs.Prelude.{ℕ, ◌≡◌, ◌/◌, ◌%◌, ◌^◌, ◌<◌, ◌≤◌, ◌==◌, if◌then◌else◌, Bool, false, true, List, []}
use Rattle.std.specs.Prelude.{length, Option, Some, None}
use Rattle.tl_base.specs.declared.place.Place.{Place}
use Rattle.elf_image.specs.declared.error.ImageError.{ImageError}
use Rattle.elf_image.specs.declared.image.Image.{Image}
use Rattle.elf_image.specs.declared.image.Symbol.{Symbol}
use Rattle.elf_image.specs.declared.reading.TheConstants.{LONGEST_IMAGE}
use Rattle.elf_image.specs.Calls.{symbol_named}
use Rattle.elf_image.specs.Loads.{Loads, BadBytes}
use Rattle.elf_image.specs.Written.{bytes_of}
use Rattle.rv_machine.specs.declared.stops.MachineKind.{MachineKind}
use Rattle.rv_machine.specs.declared.stops.Stop.{Stop}
use Rattle.rv_machine.specs.declared.stops.Stop.TheVariants as stops
use Rattle.rv_machine.specs.Machine.{Ran}
use Rattle.rv_machine.specs.ImageRun.{RvRun}
use Rattle.terrac_call.specs.declared.status.Status.TheVariants as statuses
use Rattle.terrac_call.specs.declared.status.FaultKind.{FaultKind}
use Rattle.terrac_call.specs.declared.status.FaultKind.TheVariants.{BadAddress, DivZero, StackFull, CallDepth, NoReturn, BadCall}
use Rattle.terrac_call.specs.declared.status.ImageFault.{ImageFault}
use Rattle.terrac_call.specs.declared.status.ImageFault.TheVariants.{TooLong, Refused}
use Rattle.terrac_call.specs.Words.{Call, Stepping}
use Rattle.terrac_call.specs.Arguments.{Arguments, Good, Bad, arguments_of}
use Rattle.terrac_call.specs.Due.{Due, refused, after, noting, due_of_result, due_of_bad_argument, due_of_no_entry}
use Rattle.terrac_call.specs.Traced.{shown_run}

-- ---- bytes that are no image

-- how many bytes an image may have
abbrev pub longest_image : ℕ
longest_image = LONGEST_IMAGE

abbrev pub due_of_bad_image : ImageFault → Due
due_of_bad_image fault = refused (statuses.BadImage fault)

-- ---- how a run ends

-- the kind of a fault of the program by its number, which is from 1 to 6
abbrev pub fault_kind : ℕ → FaultKind
fault_kind number =
    if number == 1 then BadAddress
    else (if number == 2 then DivZero
    else (if number == 3 then StackFull
    else (if number == 4 then CallDepth
    else (if number == 5 then NoReturn
    else BadCall))))

-- the place of a fault: the line in the upper half of its word, and the number of the token on it in the lower
abbrev pub place_of : ℕ → Place
place_of place = record { line = place / 2 ^ 32; word = place % 2 ^ 32 }

abbrev pub due_of_fault : FaultKind → Place → Due
due_of_fault kind place = refused (statuses.Fault kind place)

abbrev pub due_of_machine_fault : MachineKind → ℕ → Due
due_of_machine_fault kind pc = refused (statuses.MachineFault kind pc)

-- what is due where a run stops so, behind its output. A defined run has no write that fails
abbrev pub due_of_stop : (front : List ℕ) → (code : ℕ) → Stop → Due
due_of_stop front code (stops.Returned word) = due_of_result front code word
due_of_stop front code (stops.TerraFault kind place) = due_of_fault (fault_kind kind) (place_of place)
due_of_stop front code (stops.MachineFault kind pc) = due_of_machine_fault kind pc
due_of_stop front code stops.Unfinished = refused statuses.Unfinished
due_of_stop front code stops.WriteFault = refused statuses.WriteFault

-- ---- the whole

-- How a call on an image is carried out: for at most how many steps, with which text before the line of its result, whether
-- the image goes to `notes` before it runs, and whether lines of its steps go out in place of what it writes.
pub record Manner : Type 0 where
  pub steps : ℕ
  pub front : List ℕ
  pub shows : Bool
  pub traced : Bool

-- the call on an image that is read: it isn't shown, and nothing stands before its result
abbrev pub plain : Stepping → Manner
plain it = record { steps = it.steps; front = []; shows = false; traced = it.traced }

-- the file of an image, where it is to be shown
abbrev pub file_shown : Bool → Image → List ℕ
file_shown shows image = if shows then bytes_of image else []

abbrev pub shown_file : Manner → Image → List ℕ
shown_file manner image = file_shown manner.shows image

-- for a function of an image that is called with these values
abbrev pub IsGoodDue : Image → Symbol → Manner → List ℕ → Due → Type 0
IsGoodDue image symbol manner values due =
    (ran : Ran) × (run : RvRun image symbol.address values manner.steps ran)
    × (due ≡ noting (shown_file manner image) (after
    (shown_run manner.traced image symbol.address values manner.steps run.program ran)
    (due_of_stop manner.front symbol.result ran.stop)))

-- for these arguments
abbrev pub IsRunDue : Image → Symbol → Manner → Arguments → Due → Type 0
IsRunDue image symbol manner (Bad position) due = due ≡ due_of_bad_argument position
IsRunDue image symbol manner (Good values) due = IsGoodDue image symbol manner values due

-- for the function that a call names
abbrev pub IsCallDue : Image → Call → Manner → Option Symbol → Due → Type 0
IsCallDue image call manner None due = due ≡ due_of_no_entry call.entry
IsCallDue image call manner (Some symbol) due = IsRunDue image symbol manner (arguments_of symbol.params 1 call.arguments) due

-- for bytes: too many of them; none that are an image; or the image that they are
pub data IsExecDue (call : Call) (stepping : Stepping) (bytes : List ℕ) (due : Due) : Type 0 where
  IsLong : longest_image < length bytes → due ≡ due_of_bad_image TooLong → IsExecDue call stepping bytes due
  IsBad : (error : ImageError) → length bytes ≤ longest_image → BadBytes bytes error
      → due ≡ due_of_bad_image (Refused error) → IsExecDue call stepping bytes due
  IsImage : (image : Image) → length bytes ≤ longest_image → Loads bytes image
      → IsCallDue image call (plain stepping) (symbol_named call.entry image.exports) due
      → IsExecDue call stepping bytes due

-- for a run of so many steps that is traced
abbrev pub IsTraceDue : Call → (steps : ℕ) → List ℕ → Due → Type 0
IsTraceDue call steps bytes due = IsExecDue call (record { steps = steps; traced = true }) bytes due
