-- What a check means: functions are taken from a queue in the order in which they were first reached.
use Rattle.std.specs.Prelude.{ℕ, ◌+◌, Bool, false, ◌==◌, ◌||◌, nat_lt, if◌then◌else◌, List, [], ◌∷◌, ◌++◌, length, Option, Some, None}
use Rattle.std.specs.Prelude.{slice_get}
use Rattle.tl_base.specs.declared.place.Place.{Place}
use Rattle.tl_base.specs.declared.ids.FnId.{FnId}
use Rattle.tl_base.specs.Layer.{Given, Meaning}
use Rattle.tl_base.specs.Plan.{Plan, Give, Do, AskFor, Read, run, run_job, shown}
use Rattle.terra_term.specs.declared.refusal.RefusalKind.{RefusalKind}
use Rattle.terra_term.specs.declared.refusal.RefusalKind.TheVariants.{Undefined, RecursiveNeedsType}
use Rattle.terra_term.specs.declared.store.Function.{Function}
use Rattle.terra_term.specs.declared.store.FunctionState.{FunctionState}
use Rattle.terra_term.specs.declared.store.FunctionState.TheVariants as standing
use Rattle.terra_term.specs.Planted.{typed_trees}
use Rattle.terra_term.specs.TypedTerms as typed
use Rattle.terra_term.specs.Events.{body_events, mentions_in}
use Rattle.check_model.specs.declared.job.CheckJob.{CheckJob}
use Rattle.check_model.specs.declared.job.CheckJob.TheVariants.{Take}
use Rattle.check_model.specs.declared.job.Reached.{Reached}
use Rattle.check_model.specs.declared.end.CheckEnd.{CheckEnd}
use Rattle.check_model.specs.declared.end.CheckEnd.TheVariants as ends
use Rattle.check_model.specs.declared.question.CheckQuestion.{CheckQuestion}
use Rattle.check_model.specs.declared.question.CheckQuestion.TheVariants as questions
use Rattle.check_model.specs.declared.question.CheckAnswer.{CheckAnswer}
use Rattle.check_model.specs.declared.question.CheckAnswer.TheVariants as answers
use Rattle.exotype.specs.World.{StageState}
use Rattle.check_model.specs.Typing.{function_at}

abbrev pub CheckPlan : Type 0
CheckPlan = Plan CheckJob StageState CheckQuestion CheckAnswer CheckEnd

abbrev pub was_reached : FnId → List Reached → Bool
was_reached f [] = false
was_reached f (r ∷ rs) = (f.0 == r.function.0) || was_reached f rs

-- the queue with the functions that a function mentions, those that are new
abbrev pub with_mentions : List Reached → FnId → List (Place × FnId) → List Reached
with_mentions queue by [] = queue
with_mentions queue by (m ∷ ms) =
    if was_reached m.1 queue then with_mentions queue by ms
    else with_mentions (queue ++ record { function = m.1; by = Some (m.0, by) } ∷ []) by ms

abbrev pub mentions_of : Option typed.Item → List (Place × FnId)
mentions_of (Some (typed.body b)) = mentions_in (body_events b)
mentions_of _ = []

abbrev pub typed_mentions : StageState → FunctionState → List (Place × FnId)
typed_mentions w (standing.Typed t made) = mentions_of (slice_get (typed_trees w.store.typed) made.0)
typed_mentions w _ = []

abbrev pub mentions_in_state : StageState → Option Function → List (Place × FnId)
mentions_in_state w (Some g) = typed_mentions w g.state
mentions_in_state w None = []

-- the functions that a typed function mentions, in order, and where
abbrev pub mentions_at : StageState → FnId → List (Place × FnId)
mentions_at w f = mentions_in_state w (function_at w f)

abbrev pub take_next : List Reached → ℕ → CheckPlan
take_next queue i = if nat_lt i (length queue) then Do (Take queue i) Give else Give ends.Done

-- goes on behind a function that is typed
abbrev pub past : List Reached → ℕ → FnId → CheckPlan
past queue i f = Read (λ w. take_next (with_mentions queue f (mentions_at w f)) (i + 1))

-- a refusal at the first call that reached a function, or at its own place
abbrev pub refused_at : RefusalKind → Reached → Option (Place × FnId) → Place → CheckPlan
refused_at kind r (Some by) own = Give (ends.Refused (record { kind = kind; place = by.0; function = by.1 }))
refused_at kind r None own = Give (ends.Refused (record { kind = kind; place = own; function = r.function }))

abbrev pub on_body : CheckAnswer → List Reached → ℕ → FnId → CheckPlan
on_body (answers.Refused r) queue i f = Give (ends.Refused r)
on_body _ queue i f = past queue i f

abbrev pub by_state : FunctionState → Place → List Reached → ℕ → Reached → CheckPlan
by_state standing.Undefined own queue i r = refused_at Undefined r r.by own
by_state (standing.Typing t) own queue i r = refused_at RecursiveNeedsType r r.by own
by_state (standing.Refused t why) own queue i r = Give (ends.Refused why)
by_state (standing.Defined t) own queue i r = AskFor (questions.Body r.function) (λ a. on_body a queue i r.function)
by_state (standing.Typed t made) own queue i r = past queue i r.function

abbrev pub taken : Option Function → List Reached → ℕ → Reached → CheckPlan
taken (Some g) queue i r = by_state g.state g.place queue i r
taken None queue i r = Give ends.Done

abbrev pub at_index : Option Reached → List Reached → ℕ → CheckPlan
at_index (Some r) queue i = Read (λ w. taken (function_at w r.function) queue i r)
at_index None queue i = Give ends.Done

-- a function is taken from the queue, which pays one unit first
abbrev pub check_job : CheckJob → CheckPlan
check_job (Take queue i) = at_index (slice_get queue i) queue i

abbrev pub check_first : FnId → CheckPlan
check_first f = take_next (record { function = f; by = None } ∷ []) 0

-- ---- the meaning

-- an answer, with the state in which it is given
abbrev pub CheckGiven : Type 0
CheckGiven = Given StageState CheckAnswer

-- what is seen of it, given the first answer, which is `Go`, and the answers after it
abbrev pub check : FnId → Meaning StageState CheckQuestion CheckAnswer CheckEnd
check f first later = shown (λ r. r) (run (run_job check_job) (check_first f) first.state later)
