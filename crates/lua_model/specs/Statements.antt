-- Statements (Lua 5.1 manual, section 2.4).
use Rattle.std.specs.Prelude.{List, [], ◌∷◌, length, Option, Some, None, if◌then◌else◌}
use Rattle.tl_base.specs.declared.ids.NodeId.{NodeId}
use Rattle.tl_base.specs.declared.place.Place.{Place}
use Rattle.tl_base.specs.Plan.{Give, Do, Read, Write}
use Rattle.tl_tree.specs.declared.node.Statement.{Statement}
use Rattle.tl_tree.specs.declared.node.Statement.TheVariants as of_statements
use Rattle.tl_tree.specs.Item.{Item}
use Rattle.tl_tree.specs.Item as kept
use Rattle.tl_tree.specs.Nodes.{item_at}
use Rattle.tl_tree.specs.Code.{Items, statements_at, path_at, arm_condition, arm_block}
use Rattle.lua_value.specs.declared.value.Value.TheVariants as values
use Rattle.lua_value.specs.Values.{is_true}
use Rattle.lua_table.specs.Heap.{next_closure, with_closure}
use Rattle.lua_table.specs.Cells.{declare, declare_all}
use Rattle.lua_model.specs.declared.scope.Scope.{Scope}
use Rattle.lua_model.specs.declared.job.Loop.TheVariants as loops
use Rattle.lua_model.specs.declared.job.Job.TheVariants as jobs
use Rattle.lua_model.specs.declared.end.End.{End}
use Rattle.lua_model.specs.declared.end.End.TheVariants.{Fell, Broke, Returned}
use Rattle.lua_model.specs.Plans.{LuaPlan, fell, on_all, value_of, values_of, statements, entering, specialise}
use Rattle.lua_model.specs.Assignments.{assign_plan, define}
use Rattle.lua_model.specs.Loops.{turn, while_test, numeric_plan, generic_plan}

-- executes a block as a statement of its own
abbrev pub block_plan : Items → NodeId → Scope → (End → LuaPlan) → LuaPlan
block_plan items block scope go = entering block scope (λ inner. statements (statements_at items block) inner [] go)

abbrev pub otherwise_plan : Items → Option NodeId → Scope → LuaPlan
otherwise_plan items (Some block) scope = block_plan items block scope Give
otherwise_plan items None scope = fell

-- the block of the first arm whose condition is true, and else that behind `else`
abbrev pub arms_plan : Items → List NodeId → Option NodeId → Scope → LuaPlan
arms_plan items [] otherwise scope = otherwise_plan items otherwise scope
arms_plan items (n ∷ ns) otherwise scope =
    let arm = item_at items n in
    value_of (arm_condition arm) scope (λ v.
    if is_true v then block_plan items (arm_block arm) scope Give else arms_plan items ns otherwise scope)

-- the locals are declared after the expressions
abbrev pub local_plan : List NodeId → List NodeId → Scope → LuaPlan
local_plan names es scope =
    values_of es scope [] (λ vs. Read (λ s. Write (declare_all (length names) scope.env vs s) fell))

-- the function sees the local
abbrev pub local_function_plan : NodeId → Scope → LuaPlan
local_function_plan body scope =
    Read (λ s.
    let made = with_closure s (record { function = body; env = scope.env }) in
    Write (declare scope.env (values.Closure (next_closure s)) made) fell)

-- has Terra code specialised, which stores or declares what it defines
abbrev pub terra_statement : NodeId → Scope → LuaPlan
terra_statement n scope = specialise n scope (λ r. on_all r (λ vs. fell))

-- A function is made with the node of its statement where it is defined under a path, which tells whether it is a
-- method.
abbrev pub statement_of : Items → Statement → NodeId → Place → Scope → LuaPlan
statement_of items (of_statements.Assign targets es) n place scope = assign_plan items targets es scope
statement_of items (of_statements.Call e) n place scope = Do (jobs.Expression e scope) (λ r. on_all r (λ vs. fell))
statement_of items (of_statements.Do block) n place scope = block_plan items block scope Give
statement_of items (of_statements.While condition block) n place scope = while_test n condition scope []
statement_of items (of_statements.Repeat block condition) n place scope = turn n scope loops.Repeat []
statement_of items (of_statements.If arms otherwise) n place scope = arms_plan items arms otherwise scope
statement_of items (of_statements.NumericFor name first limit step block) n place scope =
    numeric_plan n first limit step place scope
statement_of items (of_statements.GenericFor names es block) n place scope =
    generic_plan items n names es place scope
statement_of items (of_statements.Function path body) n place scope = define items (path_at items path) n scope
statement_of items (of_statements.LocalFunction name body) n place scope = local_function_plan body scope
statement_of items (of_statements.Local names es) n place scope = local_plan names es scope
statement_of items (of_statements.Terra path body) n place scope = terra_statement n scope
statement_of items (of_statements.DeclareTerra path type) n place scope = terra_statement n scope
statement_of items (of_statements.LocalTerra word name body) n place scope = terra_statement n scope
statement_of items (of_statements.LocalDeclareTerra word name type) n place scope = terra_statement n scope
statement_of items (of_statements.Struct path entries) n place scope = terra_statement n scope
statement_of items (of_statements.LocalStruct word name entries) n place scope = terra_statement n scope
statement_of items (of_statements.Emit e) n place scope = value_of e scope (λ v. Give (Fell (v ∷ [])))
statement_of items (of_statements.Return es) n place scope = values_of es scope [] (λ vs. Give (Returned vs []))
statement_of items of_statements.Break n place scope = Give (Broke [])

-- what is no statement does nothing
abbrev pub statement_plan : Items → Item → NodeId → Scope → LuaPlan
statement_plan items (kept.Statement place s) n scope = statement_of items s n place scope
statement_plan items item n scope = fell
