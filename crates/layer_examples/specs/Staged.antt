-- The layers as one stage: how each stands in it, and what each question means.
use Rattle.std.specs.Prelude.{◌≡◌, ℕ, ◌==◌, false, refl, if◌then◌else◌}
use Rattle.tl_base.specs.Layer.{Ended, Meaning}
use Rattle.stage_form.specs.Stage.{Stage}
use Rattle.stage_form.specs.Within.{Fitting, given_part, within}
use Rattle.layer_examples.specs.declared.world.World.{World}
use Rattle.layer_examples.specs.declared.end.Answer.{Answer}
use Rattle.layer_examples.specs.declared.end.Answer.TheVariants.{Go, Done as AnswerDone, Raise}
use Rattle.layer_examples.specs.declared.end.End.{End}
use Rattle.layer_examples.specs.declared.end.End.TheVariants.{Done, Raised}
use Rattle.layer_examples.specs.declared.sums.SumAnswer.{SumAnswer}
use Rattle.layer_examples.specs.declared.sums.SumAnswer.TheVariants.{Go as SumGo, Number}
use Rattle.layer_examples.specs.declared.sums.SumEnd.{SumEnd}
use Rattle.layer_examples.specs.declared.sums.SumEnd.TheVariants.{Sum as SumIs, Full}
use Rattle.layer_examples.specs.declared.total.Table.{Table}
use Rattle.layer_examples.specs.declared.staged.Task.{Task}
use Rattle.layer_examples.specs.declared.staged.Task.TheVariants.{SumUp, Descend, Add, Fail}
use Rattle.layer_examples.specs.declared.staged.Staged.{Staged}
use Rattle.layer_examples.specs.declared.staged.Staged.TheVariants.{Total, Nest, Sum, Failing}
use Rattle.layer_examples.specs.Ends.{WorldGiven, added, is_go}
use Rattle.layer_examples.specs.Total.{total}
use Rattle.layer_examples.specs.Nest.{nest}
use Rattle.layer_examples.specs.Sums.{sum}
use Rattle.layer_examples.specs.Rest.{total_rest, TotalFits, nest_rest, NestFits, sum_rest, SumFits}

-- for each number of a total so many tasks are nested, and a zero is raised
abbrev pub total_question : ℕ → Task
total_question x = if x == 0 then Fail 0 else Descend x

-- for each number of a sum one more task is nested than numbers were given
abbrev pub sum_question : ℕ → Task
sum_question count = Descend (added count 1)

-- an answer of the stage for a sum
abbrev pub sum_answer : Answer → SumAnswer
sum_answer Go = SumGo
sum_answer (AnswerDone x) = Number x
sum_answer (Raise e) = Number e

-- the end of a sum in the stage
abbrev pub sum_end : SumEnd → End
sum_end (SumIs x) = Done x
sum_end Full = Raised 0

abbrev pub total_fitting : Fitting World World ℕ Task Answer Answer End End
total_fitting = record { part = λ w. w; with_part = λ w p. p; question = total_question; answer = λ a. a; end = λ e. e }

abbrev pub nest_fitting : Fitting World World ℕ Task Answer Answer End End
nest_fitting = record { part = λ w. w; with_part = λ w p. p; question = Descend; answer = λ a. a; end = λ e. e }

-- a sum has the count of given numbers, and the rest of the world stays
abbrev pub sum_fitting : Fitting World ℕ ℕ Task SumAnswer Answer SumEnd End
sum_fitting = record {
  part = λ w. w.given;
  with_part = λ w n. record w { given = n };
  question = sum_question;
  answer = sum_answer;
  end = sum_end;
}

-- it ends at once
abbrev pub failing : ℕ → Meaning World Task Answer End
failing error first later = Ended (Raised error) first.state

-- what each task means, over a table
abbrev pub task_meaning : Table → Task → Meaning World Task Answer End
task_meaning table (SumUp from) = within total_fitting (total table from)
task_meaning table (Descend depth) = within nest_fitting (nest depth)
task_meaning table (Add numbers) = within sum_fitting (sum numbers)
task_meaning table (Fail error) = failing error

-- an end as an answer to the layer that asked
abbrev pub answer_of : End → Answer
answer_of (Done x) = AnswerDone x
answer_of (Raised e) = Raise e

abbrev pub example_stage : Table → Stage World Task Answer End
example_stage table = record { meaning = task_meaning table; go = Go; answer_of = answer_of }

-- what remains to be done by a layer of the stage
abbrev pub staged_rest : Staged → Meaning World Task Answer End
staged_rest (Total total) = within total_fitting (total_rest total)
staged_rest (Nest nest) = within nest_fitting (nest_rest nest)
staged_rest (Sum sum) = within sum_fitting (sum_rest sum)
staged_rest (Failing error) = failing error

abbrev pub StagedFits : Staged → WorldGiven → Type 0
StagedFits (Total total) next = TotalFits total next
StagedFits (Nest nest) next = NestFits nest next
StagedFits (Sum sum) next = SumFits sum (given_part sum_fitting next)
StagedFits (Failing error) next = Unit {0}

-- no end begins a layer
pub ends_follow : (end : End) → is_go (answer_of end) ≡ false
ends_follow (Done x) = refl
ends_follow (Raised e) = refl
