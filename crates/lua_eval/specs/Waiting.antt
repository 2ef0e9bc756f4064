-- What is left of statements, of which some were executed at once with the calls that they make.
use Rattle.std.specs.Prelude.{List, [], ◌∷◌, length}
use Rattle.lua_value.specs.declared.value.Value.{Value}
use Rattle.lua_table.specs.Cells.{nth_value, declare_all, with_local}
use Rattle.lua_table.specs.LuaState.{LuaState}
use Rattle.lua_model.specs.Plans.{LuaPlan, on_fell, statements}
use Rattle.lua_model.specs.declared.scope.Scope.{Scope}
use Rattle.lua_model.specs.declared.end.End.{End}
use Rattle.lua_model.specs.declared.end.End.TheVariants.{One, Many, Fell, Broke, Returned, Raised}
use Rattle.lua_eval.specs.Called.{inside_plan}
use Rattle.lua_eval.specs.Running.{halt_plan}
use Rattle.lua_eval.specs.Waits.{waited}
use Rattle.lua_eval.specs.declared.frame.Wait.{Wait}
use Rattle.lua_eval.specs.declared.frame.Wait.TheVariants as waits
use Rattle.lua_eval.specs.declared.waiting.Passed.{Passed}
use Rattle.lua_eval.specs.declared.waiting.Passed.TheVariants as passed
use Rattle.lua_eval.specs.declared.waiting.Stop.{Stop}
use Rattle.lua_eval.specs.declared.waiting.Stop.TheVariants as stops

-- the heap behind a statement, by the values of its call
abbrev pub waited_state : Wait → Scope → List Value → LuaState → LuaState
waited_state waits.Nothing scope vs s = s
waited_state (waits.Local ns) scope vs s = declare_all (length ns.now) scope.env vs s
waited_state (waits.Store depth position) scope vs s = with_local s scope.env depth position (nth_value vs 0)

-- goes on with all values, and else with the error
abbrev pub on_end : End → (List Value → LuaPlan) → (End → LuaPlan) → LuaPlan
on_end (One v) go leave = go (v ∷ [])
on_end (Many vs) go leave = go vs
on_end (Fell out) go leave = go []
on_end (Broke out) go leave = go []
on_end (Returned vs out) go leave = go []
on_end (Raised v place) go leave = leave (Raised v place)

-- what a statement does when its call ended so, with what is behind the statement
abbrev pub wait_plan : Wait → Scope → End → (End → LuaPlan) → LuaPlan
wait_plan wait scope r go = on_end r (λ vs. waited wait scope vs (go (Fell []))) go

-- what is left of a statement that makes a call, with what is behind it
abbrev pub passed_plan : Passed → Scope → (End → LuaPlan) → LuaPlan
passed_plan passed.Done scope go = go (Fell [])
passed_plan (passed.Inside halt inner wait) scope go = inside_plan halt inner (λ r. wait_plan wait scope r go)

-- what is left of statements, of which so much was emitted before
abbrev pub stop_plan : Stop → Scope → List Value → (End → LuaPlan) → LuaPlan
stop_plan (stops.Plain halt) scope out go = halt_plan halt scope out go
stop_plan (stops.Calling halt inner wait ns) scope out go =
    passed_plan (passed.Inside halt inner wait) scope (λ r. on_fell r out go (λ all. statements ns.now scope all go))
