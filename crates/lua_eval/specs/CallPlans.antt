-- Calls, whose function is evaluated first.
use Rattle.std.specs.Prelude.{List, [], ◌∷◌, ◌++◌}
use Rattle.tl_base.specs.declared.ids.NodeId.{NodeId}
use Rattle.tl_base.specs.declared.place.Place.{Place}
use Rattle.tl_tree.specs.Code.{Items, name_at}
use Rattle.lua_value.specs.declared.value.Value.{Value}
use Rattle.lua_model.specs.declared.scope.Scope.{Scope}
use Rattle.lua_model.specs.declared.end.End.{End}
use Rattle.lua_model.specs.Plans.{LuaPlan, on_all, on_one, value_of, with_text_of}
use Rattle.lua_model.specs.Fields.{read}
use Rattle.lua_eval.specs.declared.frame.Then.TheVariants as thens
use Rattle.lua_eval.specs.declared.frame.Then.{Then}
use Rattle.lua_eval.specs.Frames.{list_plan, then_plan}

-- evaluates a function and then the arguments, and calls it
abbrev pub call_plan : Items → NodeId → List NodeId → Place → Scope → LuaPlan
call_plan items function ns place scope = value_of function scope (λ f. list_plan items ns scope [] (thens.Call f place))

-- finds a method of an object, evaluates the arguments, and calls it
abbrev pub method_call : Items → Value → NodeId → List NodeId → Place → Scope → LuaPlan
method_call items o method ns place scope =
    with_text_of (name_at items method) (λ key. read o key place scope.call (λ f.
    list_plan items ns scope (o ∷ []) (thens.Call f place)))

-- evaluates an object and calls a method of it
abbrev pub method_plan : Items → NodeId → NodeId → List NodeId → Place → Scope → LuaPlan
method_plan items object method ns place scope = value_of object scope (λ o. method_call items o method ns place scope)

-- what is behind an expression of a list, of which these nodes are left
abbrev pub item_plan : Items → List NodeId → Scope → List Value → Then → End → LuaPlan
item_plan items [] scope vs next r = on_all r (λ us. then_plan items next scope (vs ++ us))
item_plan items (n ∷ ns) scope vs next r = on_one r (λ v. list_plan items (n ∷ ns) scope (vs ++ v ∷ []) next)
