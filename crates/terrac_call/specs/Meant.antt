-- What is due for a call of what a source exports, by the exports, the types of their functions and what these mean: no machine is in it.
use Rattle.std.specs.Prelude.{ℕ, ◌≡◌, ◌≢◌, ◌↔◌, ◌+◌, ◌*◌, ◌≤◌, List, [], ◌++◌, length, map, Option, Some, None, slice_get, codes}
use Rattle.tl_base.specs.declared.place.Place.{Place}
use Rattle.tl_base.specs.Outside.{IsFront}
use Rattle.tl_tree.specs.Code.{Items}
use Rattle.elf_image.specs.declared.image.Image.{Image}
use Rattle.terra_words.specs.declared.words.FaultKind.{FaultKind as TerraFault}
use Rattle.terra_words.specs.declared.words.FaultKind.TheVariants as faults
use Rattle.terra_words.specs.Runs.{End, Returned, Fault, Stuck, Run, Over, output_of, word}
use Rattle.terra_types.specs.declared.types.TypeForm.{TypeForm}
use Rattle.terra_term.specs.declared.store.Export.{Export}
use Rattle.terra_term.specs.Stores.{Callable, callable_of, contents_of}
use Rattle.terra_meaning.specs.Values.{AreValues, form_at}
use Rattle.terra_meaning.specs.Meaning.{meaning}
use Rattle.back_end.specs.Compiled.{AreReady, HasTypedPart, IsCompiled}
use Rattle.exotype.specs.World.{StageState}
use Rattle.stage_model.specs.declared.staging.End.TheVariants.{Done}
use Rattle.stage_image.specs.Emitted.{defined_count}
use Rattle.terrac_call.specs.declared.status.FaultKind.{FaultKind}
use Rattle.terrac_call.specs.declared.status.FaultKind.TheVariants.{BadAddress, DivZero, StackFull, CallDepth, NoReturn, BadCall}
use Rattle.terrac_call.specs.declared.status.Status.TheVariants as statuses
use Rattle.terrac_call.specs.Arguments.{Arguments, Good, Bad}
use Rattle.terrac_call.specs.Values.{value_text, values_said}
use Rattle.terrac_call.specs.Due.{Due, after, due_of_bad_argument, due_of_no_entry, given, line, noting, refused}
use Rattle.terrac_call.specs.Exec.{due_of_fault, shown_file}
use Rattle.terrac_call.specs.Words.{Asking}
use Rattle.terrac_call.specs.Words as words
use Rattle.terrac_call.specs.Ranges.{AreLimits}
use Rattle.terrac_call.specs.Run.{IsImageDue, front_of, manner_of, memory_of}
use Rattle.terrac_call.specs.Staged.{IsTreeDue}

-- ---- how an export ends

-- the kind that a line has for a fault
abbrev pub fault_said : TerraFault → Option FaultKind
fault_said faults.BadAddress = Some BadAddress
fault_said faults.DivZero = Some DivZero
fault_said faults.StackFull = Some StackFull
fault_said faults.CallDepth = Some CallDepth
fault_said faults.NoReturn = Some NoReturn
fault_said faults.BadCall = Some BadCall

-- What is due where an export with a result of this type ends so: the line of the value, behind a text; or that of the fault, with its
-- place in the source. An export is never stuck.
abbrev pub IsEndSaid : (front : List ℕ) → TypeForm → End → Due → Type 0
IsEndSaid front form (Returned v) due = due ≡ given (line (front ++ codes "result " ++ value_text form v))
IsEndSaid front form (Fault kind at) due = (said : FaultKind) × (fault_said kind ≡ Some said) × (due ≡ due_of_fault said at)
IsEndSaid front form Stuck due = ⊥

-- What is due where an export has these runs by their counts, behind a file on `notes`: one of two.
pub data IsMeaningSaid (source : ℕ → Run) (form : TypeForm) (steps most : ℕ) (file front : List ℕ) (due : Due) : Type 0 where
  -- it is over at a count of as many as the steps: all that it prints is due, and how it ends
  IsOver : (end : End) (printed : List ℕ) (rest : Due) → source steps ≡ Over end printed → IsEndSaid front form end rest
      → due ≡ noting file (after printed rest) → IsMeaningSaid source form steps most file front due
  -- it isn't over at any count for which the steps suffice, where a count takes no more than so many: a front of what it prints is due,
  -- with all that it prints at each such count
  IsUnfinished : (printed : List ℕ) → ((n : ℕ) (end : End) (out : List ℕ) → (n + 1) * most ≤ steps → source n ≡ Over end out → ⊥)
      → IsFront printed (output_of (source steps)) → ((n : ℕ) → (n + 1) * most ≤ steps → IsFront (output_of (source n)) printed)
      → due ≡ noting file (after printed (refused statuses.Unfinished)) → IsMeaningSaid source form steps most file front due

-- ---- a call

-- The export that a call names, and its function.
pub record Named (it : Asking) (w : StageState) : Type 0 where
  pub i : ℕ
  pub e : Export
  pub there : slice_get w.exports.list i ≡ Some e
  pub named : e.name ≡ it.call.entry
  pub function : Callable
  pub is : callable_of (contents_of w.store) e.function ≡ Some function

-- the values that the words of the call say for the function's parameters, or the least position that is bad
abbrev pub arguments_said : (it : Asking) (w : StageState) → Named it w → Arguments
arguments_said it w x = values_said (contents_of w.store).types x.function.body.parameters 1 it.call.arguments

-- no export has the name that is called
abbrev pub HasNone : Asking → StageState → Type 0
HasNone it w = (i : ℕ) (e : Export) → slice_get w.exports.list i ≡ Some e → e.name ≢ it.call.entry

-- What is due for a call of the exports of a staging, whose image this is, and whose counts take no more than so many steps: one of three.
pub data IsCallMeant (it : Asking) (w : StageState) (image : Image) (most : ℕ) (due : Due) : Type 0 where
  -- no export has the name
  IsNoExport : HasNone it w → due ≡ due_of_no_entry it.call.entry → IsCallMeant it w image most due
  -- an export has it, and the word at this position is no value of its parameter's type, is missing or is one too many
  IsBadWord : (x : Named it w) (position : ℕ) → arguments_said it w x ≡ Bad position → due ≡ due_of_bad_argument position
      → IsCallMeant it w image most due
  -- an export has it, and the words are values of its parameters' types: what it means of them is due
  IsMeant : (x : Named it w) (values : List ℕ) → arguments_said it w x ≡ Good values
      → AreValues (contents_of w.store).types x.function.body.parameters (map word values)
      → IsMeaningSaid (λ n. meaning (contents_of w.store) [] (memory_of it) n x.e.function (map word values))
      (form_at (contents_of w.store).types x.function.body.result) it.running.steps most
      (shown_file (manner_of it (defined_count w.store)) image) (front_of it.generated (defined_count w.store)) due
      → IsCallMeant it w image most due

-- So it is for each call of a compiled image of exports that could be compiled, as those of each staging that is done, where a count takes
-- no more steps than the image has instructions.
abbrev pub CallsAreMeant : Type 0
CallsAreMeant =
    (it : Asking) (w : StageState) (due : Due) (x : IsImageDue it w due) →
    HasTypedPart (contents_of w.store) w.exports.list → AreReady (contents_of w.store) w.exports.list →
    IsCallMeant it w x.image (length x.image.text) due

-- `no entry` is due exactly where no export has the name, and `bad argument` exactly where one has it whose parameters take no such words,
-- with the least position that is bad.
pub record RefusesExactly (it : Asking) (w : StageState) (due : Due) : Type 0 where
  pub no_entry : (due.status ≡ statuses.NoEntry) ↔ HasNone it w
  pub bad_argument : (position : ℕ) →
      (due.status ≡ statuses.BadArgument position) ↔ ((x : Named it w) × (arguments_said it w x ≡ Bad position))

-- ---- a source

-- An image of the exports of a staging, and a call that is due as they mean.
pub record IsDoneMeant (it : Asking) (w : StageState) (due : Due) : Type 0 where
  pub image : Image
  pub compiled : IsCompiled (contents_of w.store) (memory_of it) w.exports.list image
  pub meant : IsCallMeant it w image (length image.text) due
  pub exact : RefusesExactly it w due

-- So it is, behind what was printed, for each source whose staging is done, within limits as words name them.
abbrev pub SourcesAreMeant : Type 0
SourcesAreMeant =
    (it : Asking) → AreLimits it.running.limits → (items : Items) (finish : Place) (due : Due) (x : IsTreeDue (words.Run it) items finish due) → x.ending.end ≡ Done →
    IsDoneMeant it x.ending.left.world.typing.stage x.rest
