-- The answers and ends that both layers share.
use Rattle.std.specs.Prelude.{ℕ, ◌+◌, ◌-◌, ◌^◌, min, Bool, true, false}
use Rattle.tl_base.specs.Layer.{Given}
use Rattle.layer_examples.specs.declared.world.World.{World}
use Rattle.layer_examples.specs.declared.end.Answer.{Answer}
use Rattle.layer_examples.specs.declared.end.Answer.TheVariants.{Go, Done as AnswerDone, Raise}
use Rattle.layer_examples.specs.declared.end.End.{End}
use Rattle.layer_examples.specs.declared.end.End.TheVariants.{Done, Raised}
use Rattle.layer_examples.specs.declared.end.Flow.{Flow}
use Rattle.layer_examples.specs.declared.end.Flow.TheVariants.{Value, Thrown, Left}

-- an answer, with the state in which it is given
abbrev pub WorldGiven : Type 0
WorldGiven = Given World Answer

-- the end inside that an answer gives
abbrev pub reply_of : Answer → Flow
reply_of Go = Left
reply_of (AnswerDone x) = Value x
reply_of (Raise e) = Thrown e

-- the end of a task that an end inside is
abbrev pub end_of : Flow → End
end_of (Value x) = Done x
end_of (Thrown e) = Raised e
end_of Left = Done 0

-- tells the answer that begins
abbrev pub is_go : Answer → Bool
is_go Go = true
is_go (AnswerDone x) = false
is_go (Raise e) = false

-- the sum of two numbers, which stays at the largest of 64 bits
abbrev pub added : ℕ → ℕ → ℕ
added x y = min (x + y) (2 ^ 64 - 1)
