-- What is left of a numeric `for`, of which some turns were done at once.
use Rattle.std.specs.Prelude.{◌≡◌, List, ℤ, ◌+ℤ◌}
use Rattle.tl_base.specs.declared.ids.NodeId.{NodeId}
use Rattle.tl_tree.specs.declared.node.Statement.{Statement}
use Rattle.tl_tree.specs.Code.{Items}
use Rattle.tl_tree.specs.Nodes.{item_at}
use Rattle.lua_value.specs.Numbers.{number_from}
use Rattle.lua_value.specs.declared.value.Value.{Value}
use Rattle.lua_value.specs.declared.value.Value.TheVariants as values
use Rattle.lua_model.specs.declared.job.Loop.TheVariants as loops
use Rattle.lua_model.specs.declared.scope.Scope.{Scope}
use Rattle.lua_model.specs.Plans.{LuaPlan, within}
use Rattle.lua_model.specs.Loops.{over, turn, after_turn, turn_block, turn_plan, numeric_turn, count_from, with_variable}
use Rattle.tl_base.specs.declared.ids.EnvId.{EnvId}
use Rattle.lua_eval.specs.Waiting.{stop_plan}
use Rattle.lua_eval.specs.declared.turns.Turned.{Turned}
use Rattle.lua_eval.specs.declared.waiting.Stop.{Stop}
use Rattle.lua_eval.specs.declared.turns.Turned.TheVariants as turned

-- the turn with a number, with all later ones
abbrev pub counted_plan : Items → NodeId → NodeId → Scope → ℤ → ℤ → ℤ → List Value → LuaPlan
counted_plan items block n scope i limit by out =
    with_variable n scope (values.Number i) (λ inner. turn_block items block inner out (λ all.
    count_from n scope (number_from (i +ℤ by)) limit by all))

-- the turns of a node are those of a numeric `for` with this block
abbrev pub IsCounted : Items → NodeId → NodeId → Type 0
IsCounted items n block =
    (scope : Scope) (i limit by : ℤ) (out : List Value)
    → turn_plan items (item_at items n) n scope (loops.Counted i limit by) out ≡ counted_plan items block n scope i limit by out

-- the turns of a statement are those of a numeric `for` with this block
abbrev pub IsBlock : Statement → NodeId → Type 0
IsBlock st block =
    (items : Items) (n : NodeId) (scope : Scope) (i limit by : ℤ) (out : List Value)
    → numeric_turn items st n scope i limit by out ≡ counted_plan items block n scope i limit by out

-- what is left of the turn with a number, in an environment, with all later ones
abbrev pub in_turn : Stop → EnvId → ℤ → NodeId → Scope → ℤ → ℤ → List Value → LuaPlan
in_turn stop env i n scope limit by out =
    stop_plan stop (within scope env) out (λ r. after_turn r (λ all. count_from n scope (number_from (i +ℤ by)) limit by all))

-- what is left of the turns, by the number of the turn that is next or in progress
abbrev pub turned_plan : Turned → ℤ → NodeId → Scope → ℤ → ℤ → List Value → LuaPlan
turned_plan turned.Over i n scope limit by out = over out
turned_plan turned.Before i n scope limit by out = turn n scope (loops.Counted i limit by) out
turned_plan (turned.Inside stop env) i n scope limit by out = in_turn stop env i n scope limit by out
