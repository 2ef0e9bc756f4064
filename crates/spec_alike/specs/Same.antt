-- That Terra code is specialised alike in trees that are alike.
use Rattle.tl_tree.specs.Code.{Items}
use Rattle.tl_alike.specs.Alike.{AreAlike, HasSameUse}
use Rattle.tl_alike.specs.Plans.{MeanSame}
use Rattle.spec_model.specs.declared.job.SpecJob.{SpecJob}
use Rattle.spec_model.specs.declared.question.SpecQuestion.{SpecQuestion}
use Rattle.spec_model.specs.declared.question.SpecQuestion.TheVariants as questions
use Rattle.spec_model.specs.Meaning.{spec}

-- A question that may be asked: for a node of Lua code that is read alike in both trees. A block, and what stands in a value, are no names.
abbrev pub IsAsked : Items → Items → SpecQuestion → Type 0
IsAsked items other (questions.Eval n env) = HasSameUse items other n
IsAsked items other (questions.Emitted n env) = Unit {0}
IsAsked items other (questions.Index object text place) = Unit {0}

-- Terra code is specialised alike in two trees that are alike, and asks for Lua code alone that is read alike.
abbrev pub MeansSame : Type 0
MeansSame =
    (items other : Items) → AreAlike items other → (task : SpecJob)
    → MeanSame (IsAsked items other) (spec items task) (spec other task)
