-- The meaning of a task that asks for the task below it.
use Rattle.std.specs.Prelude.{ℕ, ◌-◌, ◌==◌, if◌then◌else◌}
use Rattle.tl_base.specs.Layer.{Meaning}
use Rattle.tl_base.specs.Plan.{Plan, Give, Do, AskFor}
use Rattle.tl_base.specs.Machine.{Rules, meaning_of}
use Rattle.layer_examples.specs.declared.world.World.{World}
use Rattle.layer_examples.specs.declared.end.Answer.{Answer}
use Rattle.layer_examples.specs.declared.end.End.{End}
use Rattle.layer_examples.specs.declared.end.Flow.{Flow}
use Rattle.layer_examples.specs.declared.end.Flow.TheVariants.{Value, Thrown, Left}
use Rattle.layer_examples.specs.declared.nest.NestJob.{NestJob}
use Rattle.layer_examples.specs.declared.nest.NestJob.TheVariants.{Loop, Turn}
use Rattle.layer_examples.specs.declared.nest.NestFrame.{NestFrame}
use Rattle.layer_examples.specs.declared.nest.NestFrame.TheVariants.{Caught, Turned}
use Rattle.layer_examples.specs.Ends.{added, reply_of, end_of}

abbrev pub NestPlan : Type 0
NestPlan = Plan NestJob World ℕ Answer Flow

-- a value is one more; what was raised is caught
abbrev pub caught : Flow → NestPlan
caught (Value x) = Give (Value (added x 1))
caught (Thrown e) = Give (Value e)
caught Left = Give Left

-- a loop goes on until a turn of it leaves it, and gives 0 then
abbrev pub turned : Flow → NestPlan
turned (Value x) = Do Loop (λ r. Give r)
turned (Thrown e) = Give (Thrown e)
turned Left = Give (Value 0)

-- to begin a task costs nothing: it asks for the task below it. The innermost one does a loop, which pays
abbrev pub first_plan : ℕ → NestPlan
first_plan n = if n == 0 then Do Loop (λ r. Give r) else AskFor (n - 1) (λ a. caught (reply_of a))

abbrev pub nest_plan : NestJob → NestPlan
nest_plan Loop = Do Turn (λ r. turned r)
nest_plan Turn = Give Left

-- how a frame goes on with the end that it waited for
abbrev pub after : NestFrame → Flow → NestPlan
after Caught r = caught r
after Turned r = turned r

abbrev pub nest_rules : Rules ℕ NestJob World ℕ Answer Flow End NestFrame
nest_rules = record { first = first_plan; plan = nest_plan; after = after; reply = reply_of; close = end_of }

abbrev pub nest : ℕ → Meaning World ℕ Answer End
nest = meaning_of nest_rules
