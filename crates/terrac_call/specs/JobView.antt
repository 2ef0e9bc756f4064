-- What values of the program show of a job and its arguments.
use Rattle.std.specs.Prelude.{ℕ, ◌≡◌, List, ◌++◌, length, map, string_bytes}
use Rattle.std.specs.Borrow.{Bor}
use Rattle.terrac_call.specs.declared.status.Status.TheVariants as statuses
use Rattle.terrac_call.specs.Statuses.{text_of}
use Rattle.terrac_call.specs.declared.words.Call.{Call as CallValue}
use Rattle.terrac_call.specs.declared.words.Limits.{Limits as LimitsValue}
use Rattle.terrac_call.specs.declared.words.Running.{Running as RunningValue}
use Rattle.terrac_call.specs.declared.words.Stepping.{Stepping as SteppingValue}
use Rattle.terrac_call.specs.declared.words.Asking.{Asking as AskingValue}
use Rattle.terrac_call.specs.declared.words.Making.{Making as MakingValue}
use Rattle.terrac_call.specs.declared.words.Making.TheVariants as makings
use Rattle.terrac_call.specs.declared.words.Task.{Task as TaskValue}
use Rattle.terrac_call.specs.declared.words.Task.TheVariants as tasks
use Rattle.terrac_call.specs.declared.exec.Manner.{Manner as MannerValue}
use Rattle.terrac_call.specs.declared.words.Job.{Job as JobValue}
use Rattle.terrac_call.specs.declared.words.Job.TheVariants as jobs
use Rattle.terrac_call.specs.declared.words.Asked.{Asked as AskedValue}
use Rattle.terrac_call.specs.declared.words.Asked.TheVariants as asked
use Rattle.terrac_call.specs.declared.arguments.Arguments.{Arguments as ArgumentsValue}
use Rattle.terrac_call.specs.declared.arguments.Arguments.TheVariants as values
use Rattle.terrac_call.specs.Words.{Call, Limits, Running, Stepping, Asking, Making, Rename, ListImage, Assemble}
use Rattle.terrac_call.specs.Words.{Task, Check, Terms, Emit, Run}
use Rattle.terrac_call.specs.Words.{Job, Make, Stage, Exec, Asked, Named, Refused, Unlawful}
use Rattle.terrac_call.specs.Arguments.{Arguments, Good, Bad}
use Rattle.terrac_call.specs.Due.{line}
use Rattle.terrac_call.specs.Exec.{Manner}

-- the bytes of texts
abbrev pub texts_of : List (Bor (List ℕ)) → List (List ℕ)
texts_of texts = map (λ text. text.now) texts

abbrev pub shown_call : CallValue → Call
shown_call call = record { entry = call.entry.now; arguments = texts_of call.arguments.items }

abbrev pub shown_limits : LimitsValue → Limits
shown_limits limits = record { budget = limits.budget; memory = limits.memory }

abbrev pub shown_running : RunningValue → Running
shown_running running = record { limits = shown_limits running.limits; steps = running.steps; shows = running.shows }

abbrev pub shown_stepping : SteppingValue → Stepping
shown_stepping it = record { steps = it.steps; traced = it.traced }

abbrev pub shown_asking : AskingValue → Asking
shown_asking it = record { call = shown_call it.call; running = shown_running it.running; generated = it.generated }

abbrev pub shown_manner : MannerValue → Manner
shown_manner it = record { steps = it.steps; front = it.front.now; shows = it.shows; traced = it.traced }

abbrev pub shown_making : MakingValue → Making
shown_making makings.Rename = Rename
shown_making makings.ListImage = ListImage
shown_making (makings.Assemble entry memory) = Assemble entry.now memory

abbrev pub shown_task : TaskValue → Task
shown_task (tasks.Check limits) = Check (shown_limits limits)
shown_task (tasks.Terms limits) = Terms (shown_limits limits)
shown_task (tasks.Emit limits) = Emit (shown_limits limits)
shown_task (tasks.Run asking) = Run (shown_asking asking)

abbrev pub shown_job : JobValue → Job
shown_job (jobs.Make what) = Make (shown_making what)
shown_job (jobs.Stage task) = Stage (shown_task task)
shown_job (jobs.Exec call stepping) = Exec (shown_call call) (shown_stepping stepping)

abbrev pub shown_asked : AskedValue → Asked
shown_asked (asked.Job job) = Named (shown_job job)
shown_asked (asked.Refused text) = Refused
shown_asked asked.Unlawful = Unlawful

abbrev pub shown_arguments : ArgumentsValue → Arguments
shown_arguments (values.Good words) = Good words.items
shown_arguments (values.Bad position) = Bad position

-- good arguments are so many
abbrev pub HasCount : ℕ → ArgumentsValue → Type 0
HasCount count (values.Good words) = length words.items ≡ count
HasCount count (values.Bad position) = Unit {0}

-- the line `usage`, with any text behind it
abbrev pub HasUsageLine : List ℕ → Type 0
HasUsageLine bytes = (text : List ℕ) × (bytes ≡ line (text_of statuses.Usage) ++ text)

-- a refusal of the words has that line
abbrev pub IsUsageText : AskedValue → Type 0
IsUsageText (asked.Job job) = Unit {0}
IsUsageText (asked.Refused text) = HasUsageLine (string_bytes text)
IsUsageText asked.Unlawful = Unit {0}
