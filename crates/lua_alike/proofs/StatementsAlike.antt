-- Statements do the same in two trees that are alike.
use Rattle.std.specs.Prelude.{List, [], ◌∷◌, ◌++◌, Option, Some, None, if◌then◌else◌}
use Rattle.std.specs.List.{All}
use Rattle.std.specs.Option.{option_to_list}
use Rattle.std.proofs.Common.{ap, arith}
use Rattle.std.proofs.lemmas.List.Elements.{All-head, All-tail}
use Rattle.tl_base.specs.declared.ids.NodeId.{NodeId}
use Rattle.tl_base.specs.declared.place.Place.{Place}
use Rattle.tl_base.specs.Plan.{Give}
use Rattle.tl_tree.specs.declared.node.Statement.{Statement}
use Rattle.tl_tree.specs.declared.node.Statement.TheVariants as of_statements
use Rattle.tl_tree.specs.declared.node.Piece.TheVariants as pieces
use Rattle.tl_tree.specs.Item.{Item}
use Rattle.tl_tree.specs.Item as kept
use Rattle.tl_tree.specs.Nodes.{item_at}
use Rattle.tl_tree.specs.Code.{statements_at, path_at, arm_condition, arm_block}
use Rattle.tl_alike.specs.Roles.{code_in_statement, code_in, is_arm, HasKinds}
use Rattle.tl_alike.specs.Alike as nodes
use Rattle.tl_alike.proofs.ReadAlike.{statements_same, path_same, path_names_alike}
use Rattle.lua_value.specs.Values.{is_true}
use Rattle.lua_model.specs.declared.scope.Scope.{Scope}
use Rattle.lua_model.specs.declared.job.Loop.TheVariants as loops
use Rattle.lua_model.specs.declared.job.Job.TheVariants as jobs
use Rattle.lua_model.specs.declared.end.End.{End}
use Rattle.lua_model.specs.declared.end.End.TheVariants.{Fell, Broke, Returned}
use Rattle.lua_model.specs.Plans.{LuaPlan, value_of, statements, entering}
use Rattle.lua_model.specs.Assignments.{define}
use Rattle.lua_model.specs.Statements.{block_plan, otherwise_plan, arms_plan, local_plan, local_function_plan, terra_statement}
use Rattle.lua_model.specs.Statements.{statement_of, statement_plan}
use Rattle.lua_alike.proofs.PlansAlike.{Two, SameUse, Same, then_same, if_same, end_same, do_same, reading_same, writing_same, on_all_same}
use Rattle.lua_alike.proofs.PlansAlike.{value_same, values_same, run_same, entering_same, specialise_same}
use Rattle.lua_alike.proofs.AssignmentsAlike.{all_first, assign_plan_same, define_same}
use Rattle.lua_alike.proofs.LoopsAlike.{turn_same, while_test_same, numeric_plan_same, generic_plan_same}

pub block_plan_same : {two : Two} (block : NodeId) (scope : Scope) {go goes : End → LuaPlan} → ((r : End) → Same two (go r) (goes r))
    → Same two (block_plan two.items block scope go) (block_plan two.other block scope goes)
block_plan_same {two} block scope {go} {goes} h =
    then_same (entering_same block scope (λ inner. run_same (statements_at two.items block) inner [] h))
    (ap (λ (ns : List NodeId). entering block scope (λ inner. statements ns inner [] goes))
    (statements_same two.items two.other two.alike block))

otherwise_plan_same : {two : Two} (otherwise : Option NodeId) (scope : Scope)
    → Same two (otherwise_plan two.items otherwise scope) (otherwise_plan two.other otherwise scope)
otherwise_plan_same (Some block) scope = block_plan_same block scope (λ r. end_same r)
otherwise_plan_same None scope = end_same (Fell [])

-- an arm, before the others
arm_same : {two : Two} {a b : Item} → nodes.SameNode a b → is_arm a → All (SameUse two) (code_in a) → (scope : Scope)
    {rest rests : LuaPlan} → Same two rest rests
    → Same two
    (value_of (arm_condition a) scope (λ v. if is_true v then block_plan two.items (arm_block a) scope Give else rest))
    (value_of (arm_condition b) scope (λ v. if is_true v then block_plan two.other (arm_block b) scope Give else rests))
arm_same (nodes.SameName p o x t u) arm uses scope k = absurd arm
arm_same (nodes.SameNumeral p t u e f) arm uses scope k = absurd arm
arm_same (nodes.SameLiteral p t u e) arm uses scope k = absurd arm
arm_same (nodes.SameItem (kept.Piece (pieces.Arm condition block))) arm uses scope k =
    value_same condition scope (uses 0 condition (omega arith))
    (λ v. if_same (is_true v) (block_plan_same block scope (λ r. end_same r)) k)
arm_same (nodes.SameItem _) arm uses scope k = absurd arm

arms_plan_same : {two : Two} (arms : List NodeId) (otherwise : Option NodeId) (scope : Scope)
    → All (λ c. is_arm (item_at two.items c)) arms
    → Same two (arms_plan two.items arms otherwise scope) (arms_plan two.other arms otherwise scope)
arms_plan_same [] otherwise scope are = otherwise_plan_same otherwise scope
arms_plan_same {two} (n ∷ ns) otherwise scope are =
    arm_same (two.alike.nodes n) (All-head (λ c. is_arm (item_at two.items c)) n ns are) (two.alike.uses n) scope
    (arms_plan_same ns otherwise scope (All-tail (λ c. is_arm (item_at two.items c)) n ns are))

local_plan_same : {two : Two} (names es : List NodeId) (scope : Scope) → All (SameUse two) es
    → Same two (local_plan names es scope) (local_plan names es scope)
local_plan_same names es scope uses = values_same es scope [] uses (λ vs. reading_same (λ s. writing_same (end_same (Fell []))))

local_function_plan_same : {two : Two} (body : NodeId) (scope : Scope)
    → Same two (local_function_plan body scope) (local_function_plan body scope)
local_function_plan_same body scope = reading_same (λ s. writing_same (end_same (Fell [])))

terra_statement_same : {two : Two} (n : NodeId) (scope : Scope) → Same two (terra_statement n scope) (terra_statement n scope)
terra_statement_same n scope = specialise_same n scope (λ r. on_all_same r (λ vs. end_same (Fell [])))

function_same : {two : Two} (path n : NodeId) (scope : Scope)
    → Same two (define two.items (path_at two.items path) n scope) (define two.other (path_at two.other path) n scope)
function_same {two} path n scope =
    then_same (define_same (path_at two.items path) n scope (path_names_alike two.items two.other two.alike path))
    (ap (λ (ns : List NodeId). define two.other ns n scope) (path_same two.items two.other two.alike path))

statement_of_same : {two : Two} (it : Statement) (n : NodeId) (place : Place) (scope : Scope) → All (SameUse two) (code_in_statement it)
    → HasKinds two.items (kept.Statement place it)
    → Same two (statement_of two.items it n place scope) (statement_of two.other it n place scope)
statement_of_same (of_statements.Assign targets es) n place scope uses kinds = assign_plan_same targets es scope uses
statement_of_same (of_statements.Call e) n place scope uses kinds =
    do_same (jobs.Expression e scope) (uses 0 e (omega arith)) (λ r. on_all_same r (λ vs. end_same (Fell [])))
statement_of_same (of_statements.Do block) n place scope uses kinds = block_plan_same block scope (λ r. end_same r)
statement_of_same (of_statements.While condition block) n place scope uses kinds =
    while_test_same n condition scope [] (uses 0 condition (omega arith))
statement_of_same (of_statements.Repeat block condition) n place scope uses kinds = turn_same n scope loops.Repeat []
statement_of_same (of_statements.If arms otherwise) n place scope uses kinds = arms_plan_same arms otherwise scope kinds
statement_of_same {two} (of_statements.NumericFor name first limit step block) n place scope uses kinds =
    numeric_plan_same n first limit step (block ∷ []) place scope (uses 0 first (omega arith)) (uses 1 first (omega arith))
    (All-tail (SameUse two) limit (option_to_list step ++ block ∷ [])
    (All-tail (SameUse two) first (limit ∷ (option_to_list step ++ block ∷ [])) uses))
statement_of_same {two} (of_statements.GenericFor names es block) n place scope uses kinds =
    generic_plan_same n names es place scope (all_first (SameUse two) es (block ∷ []) uses)
statement_of_same (of_statements.Function path body) n place scope uses kinds = function_same path n scope
statement_of_same (of_statements.LocalFunction name body) n place scope uses kinds = local_function_plan_same body scope
statement_of_same (of_statements.Local names es) n place scope uses kinds = local_plan_same names es scope uses
statement_of_same (of_statements.Terra path body) n place scope uses kinds = terra_statement_same n scope
statement_of_same (of_statements.DeclareTerra path type) n place scope uses kinds = terra_statement_same n scope
statement_of_same (of_statements.LocalTerra word name body) n place scope uses kinds = terra_statement_same n scope
statement_of_same (of_statements.LocalDeclareTerra word name type) n place scope uses kinds = terra_statement_same n scope
statement_of_same (of_statements.Struct path entries) n place scope uses kinds = terra_statement_same n scope
statement_of_same (of_statements.LocalStruct word name entries) n place scope uses kinds = terra_statement_same n scope
statement_of_same (of_statements.Emit e) n place scope uses kinds =
    value_same e scope (uses 0 e (omega arith)) (λ v. end_same (Fell (v ∷ [])))
statement_of_same (of_statements.Return es) n place scope uses kinds = values_same es scope [] uses (λ vs. end_same (Returned vs []))
statement_of_same of_statements.Break n place scope uses kinds = end_same (Broke [])

pub statement_plan_same : {two : Two} {a b : Item} → nodes.SameNode a b → (n : NodeId) (scope : Scope) → All (SameUse two) (code_in a)
    → HasKinds two.items a → Same two (statement_plan two.items a n scope) (statement_plan two.other b n scope)
statement_plan_same (nodes.SameName p o x t u) n scope uses kinds = end_same (Fell [])
statement_plan_same (nodes.SameNumeral p t u e f) n scope uses kinds = end_same (Fell [])
statement_plan_same (nodes.SameLiteral p t u e) n scope uses kinds = end_same (Fell [])
statement_plan_same (nodes.SameItem (kept.Statement place it)) n scope uses kinds = statement_of_same it n place scope uses kinds
statement_plan_same (nodes.SameItem item) n scope uses kinds = end_same (Fell [])
