-- The meaning of a sum of numbers other than zero, which are asked for.
use Rattle.std.specs.Prelude.{ℕ, ◌+◌, ◌-◌, ◌^◌, ◌==◌, min, Bool, true, false, if◌then◌else◌}
use Rattle.tl_base.specs.Layer.{Given, Meaning}
use Rattle.tl_base.specs.Plan.{Plan, Give, Do, AskFor, Read, Write, Pay}
use Rattle.tl_base.specs.Machine.{Rules, meaning_of}
use Rattle.layer_examples.specs.declared.sums.SumJob.{SumJob}
use Rattle.layer_examples.specs.declared.sums.SumJob.TheVariants.{One, Many}
use Rattle.layer_examples.specs.declared.sums.SumFrame.{SumFrame}
use Rattle.layer_examples.specs.declared.sums.SumFrame.TheVariants.{First, Others, Again}
use Rattle.layer_examples.specs.declared.sums.SumAnswer.{SumAnswer}
use Rattle.layer_examples.specs.declared.sums.SumAnswer.TheVariants.{Go, Number}
use Rattle.layer_examples.specs.declared.sums.SumEnd.{SumEnd}
use Rattle.layer_examples.specs.declared.sums.SumEnd.TheVariants.{Sum, Full}

-- the world is the count of numbers that were given, a question is that count, and a job ends by a sum
abbrev pub SumPlan : Type 0
SumPlan = Plan SumJob ℕ ℕ SumAnswer ℕ

-- the sum of two numbers, which stays at the largest of 64 bits
abbrev pub added : ℕ → ℕ → ℕ
added x y = min (x + y) (2 ^ 64 - 1)

-- the number that an answer gives
abbrev pub number_of : SumAnswer → ℕ
number_of Go = 0
number_of (Number x) = x

-- counts a number, asks for so many others, and adds them to it
abbrev pub with_others : ℕ → ℕ → SumPlan
with_others others x =
    Read (λ count. Write (added count 1) (Do (Many others) (λ y. Give (added x y))))

-- gives a number, and in place of zero asks for another
abbrev pub other_than_zero : ℕ → SumPlan
other_than_zero x = if x == 0 then Do One (λ y. Give y) else Give x

-- to ask for one number is two units more
abbrev pub sum_plan : SumJob → SumPlan
sum_plan One = Read (λ count. Pay 2 (AskFor count (λ a. other_than_zero (number_of a))))
sum_plan (Many n) = if n == 0 then Give 0 else Do One (λ x. with_others (n - 1) x)

-- a task begins with the sum of so many numbers, for which its job pays
abbrev pub first_plan : ℕ → SumPlan
first_plan n = Do (Many n) (λ x. Give x)

-- how a frame goes on with the end of the job above it
abbrev pub after : SumFrame → ℕ → SumPlan
after (First others) x = with_others others x
after (Others x) y = Give (added x y)
after Again x = other_than_zero x

-- a sum that stays at the largest of 64 bits is full
abbrev pub end_of : ℕ → SumEnd
end_of x = if x == 2 ^ 64 - 1 then Full else Sum x

abbrev pub sum_rules : Rules ℕ SumJob ℕ ℕ SumAnswer ℕ SumEnd SumFrame
sum_rules = record { first = first_plan; plan = sum_plan; after = after; reply = number_of; close = end_of }

-- tells the answer that begins
abbrev pub is_go : SumAnswer → Bool
is_go Go = true
is_go (Number x) = false

-- an answer, with the state in which it is given
abbrev pub SumGiven : Type 0
SumGiven = Given ℕ SumAnswer

-- what a sum of so many numbers means
abbrev pub sum : ℕ → Meaning ℕ ℕ SumAnswer SumEnd
sum = meaning_of sum_rules
