-- What the run of a compiled image tells of Terra's meaning, and so what is due for a call of what a source exports.
use Rattle.std.specs.Prelude.{ℕ, ◌≡◌, ◌≢◌, ◌+◌, ◌*◌, ◌≤◌, List, [], length, map, Some, slice_get}
use Rattle.tl_base.specs.Outside.{IsFront}
use Rattle.elf_image.specs.declared.image.Image.{Image}
use Rattle.elf_image.specs.declared.image.Symbol.{Symbol}
use Rattle.elf_image.specs.Calls.{symbol_named}
use Rattle.terra_words.specs.Runs.{End, Run, Over, output_of, word}
use Rattle.terra_term.specs.declared.store.Export.{Export}
use Rattle.terra_term.specs.Stores.{Callable, Contents, callable_of, contents_of}
use Rattle.terra_meaning.specs.Values.{AreValues, form_at}
use Rattle.terra_meaning.specs.Meaning.{meaning}
use Rattle.rv_machine.specs.declared.stops.Stop.TheVariants as stops
use Rattle.rv_machine.specs.Machine.{Ran}
use Rattle.rv_machine.specs.ImageRun.{RvRun}
use Rattle.back_end.specs.Agrees.{SameEnd}
use Rattle.back_end.specs.Compiled.{IsCompiled, codes_of, type_code}
use Rattle.exotype.specs.World.{StageState}
use Rattle.stage_image.specs.Emitted.{defined_count}
use Rattle.terrac_call.specs.Arguments.{Good, arguments_of}
use Rattle.terrac_call.specs.Due.{Due, after, noting}
use Rattle.terrac_call.specs.Exec.{due_of_stop, shown_file}
use Rattle.terrac_call.specs.Words.{Asking}
use Rattle.terrac_call.specs.Run.{IsImageDue, front_of, manner_of, memory_of}

-- A run of so many steps at most, by what the function means at each count, where a count takes no more than so many steps.
pub record TellsMeaning (Same : End → Ran → Type 0) (source : ℕ → Run) (steps most : ℕ) (ran : Ran) : Type 0 where
  -- it ends only as the function does, with all that it prints
  pub ends_so : ran.stop ≢ stops.Unfinished → (e : End) × (source steps ≡ Over e ran.output) × Same e ran
  -- it is unfinished only where the function isn't over at any count for which the steps suffice
  pub unfinished : ran.stop ≡ stops.Unfinished → (n : ℕ) (e : End) (printed : List ℕ) → (n + 1) * most ≤ steps →
      source n ≡ Over e printed → ⊥
  -- what it printed is a front of what the function prints, and has all that it prints at a count for which the steps suffice
  pub prints_no_more : IsFront ran.output (output_of (source steps))
  pub prints_all : (n : ℕ) → (n + 1) * most ≤ steps → IsFront (output_of (source n)) ran.output

-- Each run of an export of a compiled image does so, for all arguments that are values of its parameters' types and all numbers of steps,
-- where a count takes no more steps than the image has instructions.
abbrev pub RunsTellMeaning : Type 0
RunsTellMeaning =
    (store : Contents) (memory : ℕ) (exports : List Export) (image : Image) (compiled : IsCompiled store memory exports image)
    (i : ℕ) (e : Export) (symbol : Symbol) (function : Callable) (values : List ℕ) (steps : ℕ) (ran : Ran) →
    slice_get exports i ≡ Some e → slice_get image.exports i ≡ Some symbol → callable_of store e.function ≡ Some function →
    AreValues store.types function.body.parameters (map word values) →
    RvRun image symbol.address values steps ran →
    TellsMeaning (λ end it. SameEnd store.types function.body.result end it.stop)
    (λ n. meaning store [] memory n e.function (map word values)) steps (length image.text) ran

-- What is due for a call of an export is what the export means: it is a run of the machine that tells this. As a run that tells it ends
-- only as the function does, no fault of the machine is due, and no write that failed.
pub record IsMeantDue (it : Asking) (w : StageState) (image : Image) (values : List ℕ) (due : Due) : Type 0 where
  -- an export has the name that is called
  pub i : ℕ
  pub e : Export
  pub there : slice_get w.exports.list i ≡ Some e
  pub named : e.name ≡ it.call.entry
  -- it is this function
  pub function : Callable
  pub is : callable_of (contents_of w.store) e.function ≡ Some function
  -- as the types of its parameters say, the words of the call are these values, which are of these types
  pub read : arguments_of (codes_of (contents_of w.store).types function.body.parameters) 1 it.call.arguments ≡ Good values
  pub are_values : AreValues (contents_of w.store).types function.body.parameters (map word values)
  -- a run tells what it means of them
  pub ran : Ran
  pub tells : TellsMeaning (λ end machine. SameEnd (contents_of w.store).types function.body.result end machine.stop)
      (λ n. meaning (contents_of w.store) [] (memory_of it) n e.function (map word values)) it.running.steps
      (length image.text) ran
  -- what the run printed is due, and how it ended, with a result as the function's type says, behind the image's file where that is shown
  pub due_is : due ≡ noting (shown_file (manner_of it (defined_count w.store)) image) (after ran.output
      (due_of_stop (front_of it.generated (defined_count w.store))
      (type_code (form_at (contents_of w.store).types function.body.result)) ran.stop))

-- So it is for each call of a compiled image that names a symbol, and whose words are good by the symbol's type codes.
abbrev pub DueTellsMeaning : Type 0
DueTellsMeaning =
    (it : Asking) (w : StageState) (due : Due) (x : IsImageDue it w due) (symbol : Symbol) (values : List ℕ) →
    symbol_named it.call.entry x.image.exports ≡ Some symbol → arguments_of symbol.params 1 it.call.arguments ≡ Good values →
    IsMeantDue it w x.image values due
