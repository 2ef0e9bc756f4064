-- What is due for a source that is staged: what its staging printed, and behind that what its task makes of it, or the line of how it ended.
use Rattle.std.specs.Prelude.{ℕ, ◌≡◌, ◌⊎◌, ◌*◌, List, Some}
use Rattle.tl_base.specs.declared.place.Place.{Place}
use Rattle.tl_base.specs.declared.limits.TheConstants.Limits.{MEMORY_UNIT}
use Rattle.tl_tree.specs.Code.{Items}
use Rattle.elf_image.specs.declared.image.Image.{Image}
use Rattle.elf_image.specs.Written as files
use Rattle.terra_term.specs.Stores.{contents_of}
use Rattle.exotype.specs.World.{StageState}
use Rattle.stage_text.specs.Terms.{terms_text}
use Rattle.spec_sound.specs.Sound.{ArePlaced}
use Rattle.stage_model.specs.declared.staging.End.{End}
use Rattle.stage_model.specs.declared.staging.End.TheVariants.{Done, Raised, Spent}
use Rattle.stage_model.specs.declared.staging.Mode.{Mode}
use Rattle.stage_model.specs.declared.staging.Mode.TheVariants.{CheckAll, Exports}
use Rattle.stage_model.specs.Staging.{Ending, outcome}
use Rattle.stage_model.specs.Texts.{checks_text}
use Rattle.back_end.specs.Compiled.{IsCompiled}
use Rattle.terrac_call.specs.declared.status.Status.TheVariants as statuses
use Rattle.terrac_call.specs.Words.{Limits, Task, Check, Terms, Emit, Run}
use Rattle.terrac_call.specs.Due.{Due, refused, given, after, noting, IsDueOfSource}
use Rattle.terrac_call.specs.Run.{IsImageDue}

-- ---- how a task stages a source

-- the bytes of a memory of so many KiB
abbrev pub bytes_of : ℕ → ℕ
bytes_of memory = memory * MEMORY_UNIT

abbrev pub limits_of : Task → Limits
limits_of (Check limits) = limits
limits_of (Terms limits) = limits
limits_of (Emit limits) = limits
limits_of (Run asking) = asking.running.limits

-- each function that is defined is checked, or exports are made
abbrev pub mode_of : Task → Mode
mode_of (Check limits) = CheckAll
mode_of (Terms limits) = Exports
mode_of (Emit limits) = Exports
mode_of (Run asking) = Exports

-- what is due behind what was printed, with that: it goes to `out`, and to `notes` where `out` takes an image
abbrev pub told : Task → List ℕ → Due → Due
told (Check limits) printed rest = after printed rest
told (Terms limits) printed rest = after printed rest
told (Emit limits) printed rest = noting printed rest
told (Run asking) printed rest = after printed rest

-- ---- what is due where a staging is done

-- the file of an image that compiling may give of the exports
pub record IsFileDue (limits : Limits) (w : StageState) (due : Due) : Type 0 where
  pub image : Image
  pub compiled : IsCompiled (contents_of w.store) (bytes_of limits.memory) w.exports.list image
  pub is : due ≡ given (files.bytes_of image)

-- a line for each check; the exports with their terms; the image's file; or a call of the image
abbrev pub IsDone : Task → Ending → Due → Type 0
IsDone (Check limits) it due = due ≡ given (checks_text it.left.world.typing.stage it.lines)
IsDone (Terms limits) it due = due ≡ given (terms_text it.left.world.typing.stage.store it.left.world.typing.stage.exports.list)
IsDone (Emit limits) it due = IsFileDue limits it.left.world.typing.stage due
IsDone (Run asking) it due = IsImageDue asking it.left.world.typing.stage due

-- whatever the end, that or the line of the refusal
abbrev pub IsEndDue : Task → Ending → End → Due → Type 0
IsEndDue task it Done due = IsDone task it due
IsEndDue task it (Raised text place) due = due ≡ refused (statuses.Raised text place)
IsEndDue task it Spent due = due ≡ refused statuses.BudgetSpent

-- ---- what is due for a source

-- For a tree of these nodes, whose text ends at this place: its staging comes to an ending, for which this is due behind what was printed.
-- The places of the nodes have numbers of 32 bits.
pub record IsTreeDueBy (IsRest : Task → Ending → Due → Type 0) (task : Task) (items : Items) (finish : Place) (due : Due) : Type 0 where
  pub placed : ArePlaced items
  pub n : ℕ
  pub ending : Ending
  pub comes : outcome items finish (mode_of task) n (limits_of task).budget (bytes_of (limits_of task).memory) ≡ Some ending
  pub rest : Due
  pub rest_is : IsRest task ending rest
  pub is : due ≡ told task ending.left.world.typing.stage.heap.printed rest

abbrev pub IsRestDue : Task → Ending → Due → Type 0
IsRestDue task it rest = IsEndDue task it it.end rest

abbrev pub IsTreeDue : Task → Items → Place → Due → Type 0
IsTreeDue task items finish due = IsTreeDueBy IsRestDue task items finish due

-- for the bytes of a source
abbrev pub IsSourceDue : Task → List ℕ → Due → Type 0
IsSourceDue task bytes due = IsDueOfSource (IsTreeDue task) bytes due

-- ---- where memory runs out

-- the tasks that compile what a source exports
abbrev pub Compiles : Task → Type 0
Compiles (Check limits) = ⊥
Compiles (Terms limits) = ⊥
Compiles (Emit limits) = Unit {0}
Compiles (Run asking) = Unit {0}

-- memory may run out behind the staging of a source that is compiled, where what was printed is told; the line then says so
abbrev pub IsRestOwed : Task → Ending → Due → Type 0
IsRestOwed task it rest = IsRestDue task it rest ⊎ (Compiles task × (rest ≡ refused statuses.NoMemory))

abbrev pub IsTreeOwed : Task → Items → Place → Due → Type 0
IsTreeOwed task items finish due = IsTreeDueBy IsRestOwed task items finish due

abbrev pub IsSourceOwed : Task → List ℕ → Due → Type 0
IsSourceOwed task bytes due = IsDueOfSource (IsTreeOwed task) bytes due
