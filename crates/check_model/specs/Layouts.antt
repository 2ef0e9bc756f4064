-- What it means to settle the layout of a type, for a node or a call at a place.
use Rattle.std.specs.Prelude.{ℕ, zero, suc, codes, if◌then◌else◌, List, [], ◌∷◌, ◌++◌, Option, Some, None}
use Rattle.tl_base.specs.declared.place.Place.{Place}
use Rattle.tl_base.specs.declared.ids.TypeId.{TypeId}
use Rattle.tl_base.specs.Layer.{Given, Meaning}
use Rattle.tl_base.specs.Plan.{Plan, Give, AskFor, Read, Write, run, run_job, shown}
use Rattle.terra_types.specs.declared.types.TypeForm.{TypeForm}
use Rattle.terra_types.specs.declared.types.TypeForm.TheVariants as forms
use Rattle.terra_types.specs.declared.layout.Entry.{Entry}
use Rattle.terra_types.specs.declared.layout.Layout.{Layout}
use Rattle.terra_types.specs.Sizes.{size_of, for_some}
use Rattle.terra_types.specs.Layouts.{layout_of}
use Rattle.terra_types.specs.Making.{is_unsettled, with_settled}
use Rattle.lua_value.specs.declared.value.Value.{Value}
use Rattle.lua_value.specs.declared.value.Value.TheVariants as values
use Rattle.lua_value.specs.Values.{is_nil}
use Rattle.lua_table.specs.LuaState.{LuaState}
use Rattle.lua_table.specs.Heap.{table_at, found_text}
use Rattle.lua_table.specs.Metatables.{value_under}
use Rattle.lua_table.specs.Pairs.{Pairs, value_at, border_of}
use Rattle.lua_table.specs.Cells.{first_value}
use Rattle.terra_term.specs.declared.refusal.RefusalKind.{RefusalKind}
use Rattle.terra_term.specs.declared.refusal.RefusalKind.TheVariants.{Incomplete, BadEntries, CallbackRaised}
use Rattle.terra_term.specs.Held.{with_types}
use Rattle.exotype.specs.World.{StageState, KeptState, with_store}
use Rattle.exotype.specs.Properties.{known_of, with_known}
use Rattle.exotype.specs.declared.property.Property.TheVariants.{Entries}
use Rattle.exotype.specs.declared.property.Known.{Known}
use Rattle.exotype.specs.declared.property.Known.TheVariants as known
use Rattle.check_model.specs.declared.job.LayoutTask.{LayoutTask}
use Rattle.check_model.specs.declared.end.LayoutEnd.{LayoutEnd}
use Rattle.check_model.specs.declared.end.LayoutEnd.TheVariants as ends
use Rattle.check_model.specs.declared.question.LayoutQuestion.{LayoutQuestion}
use Rattle.check_model.specs.declared.question.LayoutQuestion.TheVariants.{CallLua, LayoutOf}
use Rattle.check_model.specs.declared.question.CheckAnswer.{CheckAnswer}
use Rattle.check_model.specs.declared.question.CheckAnswer.TheVariants as answers
use Rattle.check_model.specs.Typing.{form_in}
use Rattle.check_model.specs.Structs.{metamethod, entries_at}

-- there are no jobs: a layout pays nothing by itself. It ends by the answer that whoever asked for it is given
abbrev pub LayoutPlan : Type 0
LayoutPlan = Plan (Unit {0}) StageState LayoutQuestion CheckAnswer CheckAnswer

-- ---- entries, read raw

-- a text and a type
abbrev pub entry_of : Value → Value → Option Entry
entry_of (values.Text field) (values.TerraType of) = Some (record { field = field; of = of })
entry_of _ _ = None

abbrev pub first_of : Option Entry → Option Entry → Option Entry
first_of (Some x) other = Some x
first_of None other = other

abbrev pub entry_in : LuaState → Value → Option Entry
entry_in s (values.Table t) =
    first_of (entry_of (value_under s t (found_text s (codes "field"))) (value_under s t (found_text s (codes "type"))))
    (entry_of (value_at (table_at s t) 1) (value_at (table_at s t) 2))
entry_in s v = None

-- so many entries of a list, from the first on
abbrev pub entries_to : LuaState → Pairs → ℕ → Option (List Entry)
entries_to s pairs zero = Some []
entries_to s pairs (suc n) =
    for_some (entries_to s pairs n) (λ before. for_some (entry_in s (value_at pairs (suc n))) (λ x. Some (before ++ x ∷ [])))

abbrev pub entries_from : LuaState → Value → Option (List Entry)
entries_from s (values.Table t) = entries_to s (table_at s t) (border_of (table_at s t))
entries_from s v = None

-- ---- what is kept

abbrev pub kept_as : RefusalKind → Known
kept_as Incomplete = known.Unasked
kept_as kind = known.Refused kind

-- what is known of the entries of a struct from then on
abbrev pub keeping : TypeId → Known → LayoutPlan → LayoutPlan
keeping t k rest = Read (λ w. Write (record w { kept = with_known w.kept (Entries t) k }) rest)

-- the same where they are being asked for; whoever asked is the one who settles, so else nothing is changed
abbrev pub settled_as : Known → KeptState → TypeId → Known → KeptState
settled_as known.Asked kept t k = with_known kept (Entries t) k
settled_as _ kept t k = kept

abbrev pub settling : TypeId → Known → LayoutPlan → LayoutPlan
settling t k rest = Read (λ w. Write (record w { kept = settled_as (known_of w.kept (Entries t)) w.kept t k }) rest)

-- a refusal is kept but for Incomplete
abbrev pub keep : TypeId → RefusalKind → LayoutPlan
keep t kind = settling t (kept_as kind) (Give (answers.NoLayout kind))

-- of entries that were read the value is kept
abbrev pub settle : TypeId → Value → Option Layout → LayoutPlan
settle t v None = keep t BadEntries
settle t v (Some l) =
    Read (λ w.
    Write (with_store w (with_types w.store (with_settled w.store.types t (Some l)))) (settling t (known.Value v) (Give answers.Done)))

-- a layout is settled once
abbrev pub unless_settled : StageState → TypeId → Value → Option Layout → LayoutPlan
unless_settled w t v l = if is_unsettled w.store.types t then settle t v l else settling t (known.Value v) (Give answers.Done)

-- ---- structs

abbrev pub on_part : CheckAnswer → (RefusalKind → LayoutPlan) → LayoutPlan → LayoutPlan
on_part (answers.NoLayout kind) otherwise rest = otherwise kind
on_part _ otherwise rest = rest

-- the layout of each entry's type comes first
abbrev pub parts_of : TypeId → List Entry → Place → LayoutPlan → LayoutPlan
parts_of t [] at rest = rest
parts_of t (x ∷ xs) at rest = AskFor (LayoutOf x.of at) (λ a. on_part a (keep t) (parts_of t xs at rest))

abbrev pub with_entries : TypeId → Value → Option (List Entry) → Place → LayoutPlan
with_entries t v None at = keep t BadEntries
with_entries t v (Some xs) at = parts_of t xs at (Read (λ w. unless_settled w t v (layout_of w.store.types xs)))

abbrev pub by_entries : TypeId → Value → Place → LayoutPlan
by_entries t v at = Read (λ w. with_entries t v (entries_from w.heap v) at)

abbrev pub on_values : CheckAnswer → TypeId → Place → LayoutPlan
on_values (answers.Values vs) t at = by_entries t (first_value vs) at
on_values _ t at = keep t CallbackRaised

abbrev pub asked_entries : StageState → Value → TypeId → Place → LayoutPlan
asked_entries w h t at =
    if is_nil h then by_entries t (entries_at w t) at
    else AskFor (CallLua h (values.TerraType t ∷ []) at) (λ a. on_values a t at)

abbrev pub by_known : StageState → Known → TypeId → Place → LayoutPlan
by_known w (known.Value v) t at = Give answers.Done
by_known w (known.Refused kind) t at = Give (answers.NoLayout kind)
by_known w known.Asked t at = Give (answers.NoLayout Incomplete)
by_known w known.Unasked t at = keeping t known.Asked (asked_entries w (metamethod w t (codes "__getentries")) t at)

-- ---- each type

abbrev pub sized : Option ℕ → LayoutPlan
sized (Some n) = Give answers.Done
sized None = Give (answers.NoLayout BadEntries)

abbrev pub by_form : StageState → TypeForm → TypeId → Place → LayoutPlan
by_form w (forms.Struct number place layout) t at = by_known w (known_of w.kept (Entries t)) t at
by_form w (forms.Array of n) t at =
    AskFor (LayoutOf of at) (λ a. on_part a (λ kind. Give (answers.NoLayout kind)) (Read (λ v. sized (size_of v.store.types t))))
by_form w _ t at = Give answers.Done

abbrev pub layout_first : LayoutTask → LayoutPlan
layout_first task = Read (λ w. by_form w (form_in w task.of) task.of task.at)

abbrev pub layout_job : Unit {0} → LayoutPlan
layout_job j = Give answers.Done

-- ---- the meaning

-- an answer, with the state in which it is given
abbrev pub LayoutGiven : Type 0
LayoutGiven = Given StageState CheckAnswer

-- the end of the whole
abbrev pub close_layout : CheckAnswer → LayoutEnd
close_layout (answers.NoLayout kind) = ends.Refused kind
close_layout _ = ends.Done

-- what is seen of it, given the first answer, which is `Go`, and the answers after it
abbrev pub layout : LayoutTask → Meaning StageState LayoutQuestion CheckAnswer LayoutEnd
layout task first later = shown close_layout (run (run_job layout_job) (layout_first task) first.state later)
