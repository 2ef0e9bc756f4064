-- No job that is done ends as a refusal of the words, or as a read that failed.
use Rattle.std.proofs.Common.{◌≡◌, ◌≢◌, inl, inr, ℕ, Bool, true, false, List, [], Option, Some, None, refl, sym, ap, ◌∙◌}
use Rattle.elf_image.specs.declared.image.Image.{Image}
use Rattle.elf_image.specs.declared.image.Symbol.{Symbol}
use Rattle.elf_image.specs.Calls.{symbol_named}
use Rattle.rv_machine.specs.declared.stops.Stop.{Stop}
use Rattle.rv_machine.specs.declared.stops.Stop.TheVariants as stops
use Rattle.stage_model.specs.Staging.{Ending}
use Rattle.stage_model.specs.declared.staging.End.{End}
use Rattle.stage_model.specs.declared.staging.End.TheVariants.{Done, Raised, Spent}
use Rattle.stage_image.specs.Emitted.{defined_count}
use Rattle.terrac_call.specs.Run.{manner_of}
use Rattle.terrac_call.specs.declared.status.Status.{Status}
use Rattle.terrac_call.specs.declared.status.Status.TheVariants as statuses
use Rattle.terrac_call.specs.Words.{Call, Stepping, Job, Make, Stage, Exec, Task, Check, Terms, Emit, Run, Making, Rename, ListImage, Assemble}
use Rattle.terrac_call.specs.Words.{Asked, Named, Refused, Unlawful}
use Rattle.terrac_call.specs.Arguments.{Arguments, Good, Bad, arguments_of}
use Rattle.terrac_call.specs.Due.{Due, Reading, IsReadingDue, IsRefused, IsTree}
use Rattle.terrac_call.specs.Exec.{Manner, due_of_stop, plain, IsRunDue, IsCallDue, IsExecDue, IsLong, IsBad, IsImage}
use Rattle.terrac_call.specs.Staged.{IsDone, IsEndDue, IsRestOwed, IsTreeOwed}
use Rattle.terrac_call.specs.Rename as renames
use Rattle.terrac_call.specs.Listed as listed
use Rattle.terrac_call.specs.Assembled as assembled
use Rattle.terrac_call.specs.Making.{IsMakingDue}
use Rattle.terrac_call.specs.Answer.{Answered, IsOwed, OutOfMemory, Owed, Unread}
use Rattle.terrac_call.proofs.Answering.{told_status}

-- the statuses with which a job may end
abbrev ends_job : Status → Bool
ends_job statuses.Usage = false
ends_job statuses.ReadFault = false
ends_job statuses.Ok = true
ends_job (statuses.Syntax kind place) = true
ends_job statuses.NoEntry = true
ends_job (statuses.BadArgument number) = true
ends_job (statuses.Fault kind place) = true
ends_job statuses.Unfinished = true
ends_job (statuses.BadImage fault) = true
ends_job statuses.WriteFault = true
ends_job statuses.NoMemory = true
ends_job (statuses.MachineFault kind pc) = true
ends_job (statuses.BadAssembly kind number) = true
ends_job (statuses.Raised text place) = true
ends_job statuses.BudgetSpent = true

abbrev EndsJob : Due → Type 0
EndsJob due = ends_job due.status ≡ true

of_stop : (front : List ℕ) (code : ℕ) (stop : Stop) → EndsJob (due_of_stop front code stop)
of_stop front code (stops.Returned word) = refl
of_stop front code (stops.TerraFault kind place) = refl
of_stop front code (stops.MachineFault kind pc) = refl
of_stop front code stops.Unfinished = refl
of_stop front code stops.WriteFault = refl

as_that : (due other : Due) → due ≡ other → EndsJob other → EndsJob due
as_that due other same ends = ap (λ (d : Due). ends_job d.status) same ∙ ends

of_run : (image : Image) (symbol : Symbol) (manner : Manner) (given : Arguments) (due : Due) → IsRunDue image symbol manner given due
    → EndsJob due
of_run image symbol manner (Bad position) due is = as_that due _ is refl
of_run image symbol manner (Good values) due is = as_that due _ is.2 (of_stop manner.front symbol.result is.0.stop)

of_call : (image : Image) (call : Call) (manner : Manner) (symbol : Option Symbol) (due : Due) → IsCallDue image call manner symbol due
    → EndsJob due
of_call image call manner None due is = as_that due _ is refl
of_call image call manner (Some symbol) due is = of_run image symbol manner (arguments_of symbol.params 1 call.arguments) due is

of_exec : (call : Call) (stepping : Stepping) (bytes : List ℕ) (due : Due) → IsExecDue call stepping bytes due → EndsJob due
of_exec call stepping bytes due (IsLong more is) = as_that due _ is refl
of_exec call stepping bytes due (IsBad error few bad is) = as_that due _ is refl
of_exec call stepping bytes due (IsImage image few loads is) = of_call image call (plain stepping)
    (symbol_named call.entry image.exports) due is

of_rename : (bytes : List ℕ) (reading : Reading) (due : Due) → IsReadingDue (renames.IsTreeDue bytes) reading due → EndsJob due
of_rename bytes (IsRefused kind place) due is = as_that due _ is refl
of_rename bytes (IsTree tree finish) due is = as_that due _ is refl

of_list : (bytes : List ℕ) (due : Due) → listed.IsListDue bytes due → EndsJob due
of_list bytes due (listed.IsLong more is) = as_that due _ is refl
of_list bytes due (listed.IsBad error few bad is) = as_that due _ is refl
of_list bytes due (listed.IsImage image lines few loads listing is) = as_that due _ is refl

of_assembly : (entry : List ℕ) (memory : ℕ) (bytes : List ℕ) (due : Due) → assembled.IsAssemblyDue entry memory bytes due → EndsJob due
of_assembly entry memory bytes due (assembled.IsLong more is) = as_that due _ is refl
of_assembly entry memory bytes due (assembled.IsBad kind number few bad is) = as_that due _ is refl
of_assembly entry memory bytes due (assembled.IsGood words few good is) = as_that due _ is refl

of_making : (what : Making) (bytes : List ℕ) (due : Due) → IsMakingDue what bytes due → EndsJob due
of_making Rename bytes due is = of_rename bytes is.0 due is.2
of_making ListImage bytes due is = of_list bytes due is
of_making (Assemble entry memory) bytes due is = of_assembly entry memory bytes due is

of_done : (task : Task) (it : Ending) (due : Due) → IsDone task it due → EndsJob due
of_done (Check limits) it due is = as_that due _ is refl
of_done (Terms limits) it due is = as_that due _ is refl
of_done (Emit limits) it due is = as_that due _ is.is refl
of_done (Run asking) it due is =
    of_call is.image asking.call (manner_of asking (defined_count it.left.world.typing.stage.store))
    (symbol_named asking.call.entry is.image.exports) due is.due_is

of_end : (task : Task) (it : Ending) (end : End) (due : Due) → IsEndDue task it end due → EndsJob due
of_end task it Done due is = of_done task it due is
of_end task it (Raised text place) due is = as_that due _ is refl
of_end task it Spent due is = as_that due _ is refl

of_rest : (task : Task) (it : Ending) (due : Due) → IsRestOwed task it due → EndsJob due
of_rest task it due (inl is) = of_end task it it.end due is
of_rest task it due (inr none) = as_that due _ none.1 refl

of_reading : (task : Task) (reading : Reading) (due : Due) → IsReadingDue (IsTreeOwed task) reading due → EndsJob due
of_reading task (IsRefused kind place) due is = as_that due _ is refl
of_reading task (IsTree tree finish) due is =
    ap ends_job (ap (λ (d : Due). d.status) is.is ∙ told_status task is.ending.left.world.typing.stage.heap.printed is.rest)
    ∙ of_rest task is.ending is.rest is.rest_is

of_owed : (job : Job) (bytes : List ℕ) (due : Due) → IsOwed (Named job) bytes due → EndsJob due
of_owed (Make what) bytes due is = of_making what bytes due is
of_owed (Stage task) bytes due is = of_reading task is.0 due is.2
of_owed (Exec call stepping) bytes due is = of_exec call stepping bytes due is

not_ending : (due : Due) (status : Status) → ends_job status ≡ false → EndsJob due → due.status ≢ status
not_ending due status never ends is = let bad : true ≡ false = sym ends ∙ ap ends_job is ∙ never in absurd cc

-- a job isn't refused as bad usage
pub job_no_usage : (asked : Asked) (left : Option (List ℕ)) (Rose : Type 0) (due : Due) → asked ≢ Refused → asked ≢ Unlawful
    → Owed asked left Rose due → due.status ≢ statuses.Usage
job_no_usage Refused left Rose due taken lawful owed = absurd (taken refl)
job_no_usage Unlawful left Rose due taken lawful owed = absurd (lawful refl)
job_no_usage (Named job) left Rose due taken lawful (Answered bytes told is) = not_ending due statuses.Usage refl (of_owed job bytes due is)
job_no_usage (Named job) left Rose due taken lawful (Unread named rose is) = λ e. let bad : statuses.ReadFault ≡ statuses.Usage =
    sym (ap (λ (d : Due). d.status) is) ∙ e in absurd cc
job_no_usage (Named job) left Rose due taken lawful (OutOfMemory is) = λ e. let bad : statuses.NoMemory ≡ statuses.Usage =
    sym (ap (λ (d : Due). d.status) is) ∙ e in absurd cc

-- a read that failed is told only where the source's count of faults rose
pub read_fault_rose : (asked : Asked) (left : Option (List ℕ)) (Rose : Type 0) (due : Due) → Owed asked left Rose due
    → due.status ≡ statuses.ReadFault → Rose
read_fault_rose Refused left Rose due (Answered bytes told is) fault = let bad : statuses.Usage ≡ statuses.ReadFault =
    sym (ap (λ (d : Due). d.status) is.1) ∙ fault in absurd cc
read_fault_rose Unlawful left Rose due (Answered bytes told is) fault = let bad : statuses.Usage ≡ statuses.ReadFault =
    sym (ap (λ (d : Due). d.status) is) ∙ fault in absurd cc
read_fault_rose (Named job) left Rose due (Answered bytes told is) fault =
    absurd (not_ending due statuses.ReadFault refl (of_owed job bytes due is) fault)
read_fault_rose asked left Rose due (Unread named rose is) fault = rose
read_fault_rose asked left Rose due (OutOfMemory is) fault = let bad : statuses.NoMemory ≡ statuses.ReadFault =
    sym (ap (λ (d : Due). d.status) is) ∙ fault in absurd cc
