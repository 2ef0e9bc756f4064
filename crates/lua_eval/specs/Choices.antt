-- What is left of an `if`, some of whose conditions were evaluated.
use Rattle.std.specs.Prelude.{Option}
use Rattle.tl_base.specs.declared.ids.NodeId.{NodeId}
use Rattle.tl_base.specs.Plan.{Give}
use Rattle.tl_tree.specs.Code.{Items}
use Rattle.lua_model.specs.declared.scope.Scope.{Scope}
use Rattle.lua_model.specs.Plans.{LuaPlan}
use Rattle.lua_model.specs.Statements.{block_plan, arms_plan}
use Rattle.lua_eval.specs.declared.statements.Choice.{Choice}
use Rattle.lua_eval.specs.declared.statements.Choice.TheVariants as choices

abbrev pub choice_plan : Items → Choice → Option NodeId → Scope → LuaPlan
choice_plan items (choices.Block n) otherwise scope = block_plan items n scope Give
choice_plan items (choices.Arms rest) otherwise scope = arms_plan items rest.now otherwise scope
