-- What is left of calls of functions of Lua code, of which some was done at once.
use Rattle.std.specs.Prelude.{[], ◌∷◌}
use Rattle.lua_model.specs.Calls.{leave, returned}
use Rattle.lua_model.specs.declared.end.End.{End}
use Rattle.lua_model.specs.declared.end.End.TheVariants.{Many}
use Rattle.lua_model.specs.Plans.{LuaPlan}
use Rattle.lua_value.specs.declared.value.Value.{Value}
use Rattle.lua_model.specs.declared.scope.Scope.{Scope}
use Rattle.lua_eval.specs.declared.calling.Called.{Called}
use Rattle.lua_eval.specs.declared.calling.Called.TheVariants as called
use Rattle.lua_eval.specs.declared.running.Halt.{Halt}
use Rattle.lua_eval.specs.Running.{halt_plan}

-- what is left of the statements of a call, with what is behind it
abbrev pub inside_plan : Halt → Scope → (End → LuaPlan) → LuaPlan
inside_plan halt scope go = halt_plan halt scope [] (λ r. leave (returned r) go)

-- what is left of a call, by the value that it gave, with what is behind it
abbrev pub called_plan : Called → Value → (End → LuaPlan) → LuaPlan
called_plan called.Nothing v go = go (Many [])
called_plan called.Gave v go = go (Many (v ∷ []))
called_plan (called.Inside halt scope) v go = inside_plan halt scope go
