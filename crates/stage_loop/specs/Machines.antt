-- Views of the code that runs images of Terra functions.
use Rattle.std.specs.Prelude.{◌≡◌, ◌≢◌, ℕ, ◌/◌, ◌%◌, ◌^◌, ◌==◌, List, if◌then◌else◌}
use Rattle.tl_base.specs.declared.ids.TypeId.{TypeId}
use Rattle.tl_base.specs.declared.place.Place.{Place}
use Rattle.elf_image.specs.declared.image.Image.{Image}
use Rattle.terra_words.specs.declared.words.FaultKind.{FaultKind}
use Rattle.terra_words.specs.declared.words.FaultKind.TheVariants.{BadAddress, DivZero, StackFull, CallDepth, NoReturn, BadCall}
use Rattle.terra_words.specs.Words.{wrapped}
use Rattle.terra_types.specs.declared.types.TypeForm.{TypeForm}
use Rattle.terra_meaning.specs.Values.{form_at, width_of}
use Rattle.rv_machine.specs.declared.stops.Stop.{Stop}
use Rattle.rv_machine.specs.declared.stops.Stop.TheVariants as stops
use Rattle.rv_machine.specs.Machine.{Ran}
use Rattle.rv_machine.specs.ImageRun.{EndsAfter, RvRun}
use Rattle.stage_model.specs.Words.{values_of}
use Rattle.stage_loop.specs.declared.running.MachineRan.{MachineRan}
use Rattle.stage_loop.specs.declared.running.RunEnd.{RunEnd}
use Rattle.stage_loop.specs.declared.running.RunEnd.TheVariants as run_ends

-- what the machine did is a run of the image, with the least number of steps where it is over
pub record HasRun (image : Image) (address : ℕ) (arguments : List ℕ) (most : ℕ) (it : MachineRan) : Type 0 where
  pub ran : Ran
  pub runs : RvRun image address arguments most ran
  pub stop : ran.stop ≡ it.stop
  pub left : ran.state.registers 9 ≡ it.left
  pub output : ran.output ≡ it.output
  pub ends : ran.stop ≢ stops.Unfinished → EndsAfter image address arguments it.steps ran

-- ---- how it ends

-- the kind of a fault by its number, which is from 1 to 6
abbrev pub fault_kind : ℕ → FaultKind
fault_kind number =
    if number == 1 then BadAddress
    else (if number == 2 then DivZero
    else (if number == 3 then StackFull
    else (if number == 4 then CallDepth
    else (if number == 5 then NoReturn
    else BadCall))))

-- the place of a fault: the line in the upper half of its word, and the number of the token on it in the lower
abbrev pub place_of : ℕ → Place
place_of place = record { line = place / 2 ^ 32; word = place % 2 ^ 32 }

-- what a stop comes to for a function with this result type, with what x9 has then; a run that neither returns nor faults broke off
abbrev pub end_seen : List TypeForm → TypeId → Stop → ℕ → RunEnd
end_seen types of (stops.Returned x) left =
    run_ends.Returned (values_of (form_at types of) (wrapped (width_of types of) x)) left
end_seen types of (stops.TerraFault kind place) left = run_ends.Fault (fault_kind kind) (place_of place) left
end_seen types of stop left = run_ends.Broken
