-- The outcome of a source's staging: what it printed, and how it ended, with the lines of the checks that were asked for.
use Rattle.std.specs.Prelude.{ℕ, zero, suc, ◌+◌, Bool, true, false, nat_lt, if◌then◌else◌, List, [], ◌∷◌, ◌++◌, length, codes}
use Rattle.std.specs.Prelude.{Option, Some, None}
use Rattle.std.specs.Fmt.{signed_decimal}
use Rattle.tl_base.specs.declared.ids.FnId.{FnId}
use Rattle.tl_base.specs.declared.place.Place.{Place}
use Rattle.tl_base.specs.Layer.{State, state}
use Rattle.stage_form.specs.declared.staging.Outcome.{Outcome as Staging}
use Rattle.stage_form.specs.declared.staging.Outcome.TheVariants as stagings
use Rattle.stage_form.specs.Stage.{Final, Finished, Exhausted}
use Rattle.tl_tree.specs.Code.{Items}
use Rattle.lua_value.specs.declared.value.Value.{Value}
use Rattle.lua_value.specs.declared.value.Value.TheVariants as values
use Rattle.lua_table.specs.LuaState.{LuaState}
use Rattle.lua_table.specs.Heap.{text_at}
use Rattle.lua_model.specs.declared.job.LuaJob.TheVariants.{Chunk}
use Rattle.terra_types.specs.Opening.{opening_types}
use Rattle.exotype.specs.World.{StageState, with_heap}
use Rattle.exotype.specs.World as worlds
use Rattle.spec_model.specs.Making.{is_undefined}
use Rattle.stage_library.specs.declared.tasks.Task.TheVariants.{Evaluate}
use Rattle.terra_lib.specs.Opening as library
use Rattle.stage_check.specs.declared.jobs.Job.TheVariants as jobs
use Rattle.stage_check.specs.declared.jobs.JobEnd.{JobEnd}
use Rattle.stage_check.specs.declared.jobs.JobEnd.TheVariants as ends
use Rattle.stage_model.specs.declared.staging.CheckLine.{CheckLine}
use Rattle.stage_model.specs.declared.staging.End.{End}
use Rattle.stage_model.specs.declared.staging.End.TheVariants.{Done, Raised, Spent}
use Rattle.stage_model.specs.declared.staging.Mode.{Mode}
use Rattle.stage_model.specs.declared.staging.Mode.TheVariants.{Exports, CheckAll}
use Rattle.stage_model.specs.Stage.{StagingState, job_staged}

-- ---- the end of the chunk

-- whether a chunk ended without an error
abbrev pub gave_values : Staging JobEnd → Bool
gave_values (stagings.Ends (ends.Values vs)) = true
gave_values _ = false

-- a chunk that ended without an error makes its exports, at the place of the end of the text
abbrev pub exported : Items → ℕ → Place → JobEnd → State StagingState → Option (Final StagingState JobEnd)
exported items n place (ends.Values vs) s = job_staged items n (jobs.Export place) s
exported items n place end s = Some (Finished end s)

-- ---- checks of all functions

abbrev pub line_of : FnId → JobEnd → CheckLine
line_of f (ends.Refused why) = record { function = f; refusal = Some why }
line_of f end = record { function = f; refusal = None }

-- how a staging ended, with the checks that were made
pub record Checked : Type 0 where
  pub end : JobEnd
  pub lines : List CheckLine

abbrev pub checked_with : JobEnd → List CheckLine → Checked
checked_with end lines = record { end = end; lines = lines }

abbrev pub after_check : {A B : Type 0} → Option (Final StagingState A) → (A → State StagingState → Option (Final StagingState B)) →
    Option (Final StagingState B)
after_check None go = None
after_check (Some (Finished e s)) go = go e s
after_check (Some (Exhausted s)) go = Some (Exhausted s)

-- Each function that is defined when its number comes is checked, in order of number, from this number on; those that are made meanwhile
-- too. There is no value where a check, or the number of functions, goes deeper than n.
unfoldable pub checks : Items → ℕ → ℕ → List CheckLine → State StagingState → Option (Final StagingState Checked)
checks items zero i lines s = None
checks items (suc n) i lines s =
    if nat_lt i (length s.world.typing.stage.store.functions)
    then (if is_undefined s.world.typing.stage (record { 0 = i }) then checks items n (i + 1) lines s
    else after_check (job_staged items n (jobs.Check (record { 0 = i })) s) (λ end next.
    checks items n (i + 1) (lines ++ line_of (record { 0 = i }) end ∷ []) next))
    else Some (Finished (checked_with (ends.Values []) lines) s)

-- ---- the two ways to end

-- how what was run for the checks ended, as an end with its lines
abbrev pub checked_final : List CheckLine → Final StagingState JobEnd → Final StagingState Checked
checked_final lines (Finished e s) = Finished (checked_with e lines) s
checked_final lines (Exhausted s) = Exhausted s

abbrev pub by_mode : Mode → Items → ℕ → Place → JobEnd → State StagingState → Option (Final StagingState Checked)
by_mode Exports items n place end s = after_check (exported items n place end s) (λ e last. Some (Finished (checked_with e []) last))
by_mode CheckAll items n place (ends.Values vs) s = checks items n 0 [] s
by_mode CheckAll items n place end s = Some (Finished (checked_with end []) s)

-- ---- the outcome

-- how a staging ended, with the checks that were made, and with the world and the units that it left
pub record Ending : Type 0 where
  pub end : End
  pub lines : List CheckLine
  pub left : State StagingState

abbrev pub ending : End → List CheckLine → State StagingState → Ending
ending end lines left = record { end = end; lines = lines; left = left }

-- the text of an error: a text, or a number in decimal; other values have one in place of it
abbrev pub raised_text : LuaState → Value → List ℕ
raised_text heap (values.Text id) = text_at heap id
raised_text heap (values.Number n) = signed_decimal n
raised_text heap _ = codes "(error object is not a string)"

abbrev pub end_of : LuaState → JobEnd → End
end_of heap (ends.Raised v place) = Raised (raised_text heap v) place
end_of heap end = Done

abbrev pub end_in : LuaState → Staging JobEnd → End
end_in heap (stagings.Ends end) = end_of heap end
end_in heap stagings.Spent = Spent

-- the checks that count: none where units lacked
abbrev pub lines_in : Staging JobEnd → List CheckLine → List CheckLine
lines_in (stagings.Ends end) lines = lines
lines_in stagings.Spent lines = []

abbrev pub ending_of : Final StagingState Checked → Ending
ending_of (Finished c s) = ending (end_of s.world.typing.stage.heap c.end) c.lines s
ending_of (Exhausted s) = ending Spent [] s

abbrev pub ending_if_any : Option (Final StagingState Checked) → Option Ending
ending_if_any (Some final) = Some (ending_of final)
ending_if_any None = None

-- the world with which a source begins, whose program has so many bytes of memory
abbrev pub opened : ℕ → StageState
opened memory = with_heap (worlds.opening opening_types memory) library.opening

-- what a staging works in at the begin of a source, whose program has so many bytes of memory: no variable is in scope, and nothing ran
abbrev pub begun : ℕ → StagingState
begun memory = record { typing = record { stage = opened memory; variables = [] }; runs = [] }

-- what the staging of a source comes to that begins so, over the nodes of its tree and the place of the end of its text; there is no
-- value where layers ask one another, or are answered, more than n times in one another
abbrev pub outcome_from : Items → Place → Mode → ℕ → State StagingState → Option Ending
outcome_from items place mode n s =
    ending_if_any (after_check (job_staged items n (jobs.Stage (Evaluate Chunk)) s) (by_mode mode items n place))

-- what the staging of a source comes to, with so many units, for a program with so many bytes of memory
abbrev pub outcome : Items → Place → Mode → ℕ → (units memory : ℕ) → Option Ending
outcome items place mode n units memory = outcome_from items place mode n (state (begun memory) units)
