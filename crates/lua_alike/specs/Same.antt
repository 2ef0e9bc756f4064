-- Lua code in trees that are alike but for the names of locals.
use Rattle.tl_tree.specs.Code.{Items}
use Rattle.tl_alike.specs.Alike.{HasSameUse, AreAlike}
use Rattle.tl_alike.specs.Plans.{MeanSame}
use Rattle.lua_model.specs.declared.job.LuaJob.{LuaJob}
use Rattle.lua_model.specs.declared.job.LuaJob.TheVariants as tasks
use Rattle.lua_model.specs.declared.question.LuaQuestion.{LuaQuestion}
use Rattle.lua_model.specs.Meaning.{lua}

-- An expression that is asked for is proper if it is the use of a local, the same name, or no name. All else that is asked for is proper.
abbrev pub IsProper : Items → Items → LuaJob → Type 0
IsProper items other (tasks.Expr n env) = HasSameUse items other n
IsProper items other _ = Unit {0}

-- Lua code may ask any question.
abbrev pub IsAsked : LuaQuestion → Type 0
IsAsked q = Unit {0}

-- Lua code means the same in two trees that are alike.
abbrev pub MeansSame : Type 0
MeansSame =
    (items other : Items) → AreAlike items other → (task : LuaJob) → IsProper items other task
    → MeanSame IsAsked (lua items task) (lua other task)
