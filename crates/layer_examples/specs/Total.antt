-- The meaning of a total, over a table: a list is read from the world, and one question is asked for each of its
-- numbers.
use Rattle.std.specs.Prelude.{ℕ, List, [], ◌∷◌, drop, min}
use Rattle.tl_base.specs.Layer.{Meaning}
use Rattle.tl_base.specs.Plan.{Plan, Give, AskFor, Read, Write}
use Rattle.tl_base.specs.Machine.{Rules, meaning_of}
use Rattle.layer_examples.specs.declared.world.World.{World}
use Rattle.layer_examples.specs.declared.end.Answer.{Answer}
use Rattle.layer_examples.specs.declared.end.End.{End}
use Rattle.layer_examples.specs.declared.end.Flow.{Flow}
use Rattle.layer_examples.specs.declared.end.Flow.TheVariants.{Value, Thrown, Left}
use Rattle.layer_examples.specs.declared.total.Table.{Table}
use Rattle.layer_examples.specs.declared.total.TotalFrame.{TotalFrame}
use Rattle.layer_examples.specs.declared.total.NoJob.{NoJob}
use Rattle.layer_examples.specs.Ends.{added, reply_of, end_of}

abbrev pub TotalPlan : Type 0
TotalPlan = Plan NoJob World ℕ Answer Flow

-- goes on with a value, and passes on every other end
abbrev pub on_value : Flow → (ℕ → TotalPlan) → TotalPlan
on_value (Value x) go = go x
on_value (Thrown e) go = Give (Thrown e)
on_value Left go = Give Left

-- the world after one more total
abbrev pub counted : World → World
counted w = record w { totals = added w.totals 1 }

-- asks for each number, or for the table's largest in place of a larger one, adds the answers, and counts the total
abbrev pub total_of : Table → List ℕ → ℕ → TotalPlan
total_of table [] sum = Read (λ w. Write (counted w) (Give (Value sum)))
total_of table (x ∷ xs) sum =
    AskFor (min x table.largest) (λ a. on_value (reply_of a) (λ y. total_of table xs (added sum y)))

-- a task is the number from which it counts
abbrev pub first_plan : Table → ℕ → TotalPlan
first_plan table from = Read (λ w. total_of table w.numbers.items from)

-- no plan does a job; one would leave at once
abbrev pub no_plan : NoJob → TotalPlan
no_plan job = Give Left

-- how a frame goes on with the end that it waited for
abbrev pub after : Table → TotalFrame → Flow → TotalPlan
after table f r = on_value r (λ y. total_of table (drop f.at f.numbers.items) (added f.sum y))

abbrev pub total_rules : Table → Rules ℕ NoJob World ℕ Answer Flow End TotalFrame
total_rules table =
    record { first = first_plan table; plan = no_plan; after = after table; reply = reply_of; close = end_of }

abbrev pub total : Table → ℕ → Meaning World ℕ Answer End
total table = meaning_of (total_rules table)
