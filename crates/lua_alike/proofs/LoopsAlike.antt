-- Loops do the same in two trees that are alike.
use Rattle.std.specs.Prelude.{List, [], ◌∷◌, ◌++◌, ℤ, pos, ◌+ℤ◌, Option, Some, None, Result, Ok, Err}
use Rattle.std.specs.List.{All}
use Rattle.std.specs.Option.{option_to_list}
use Rattle.std.proofs.Common.{ap, arith}
use Rattle.tl_base.specs.declared.ids.NodeId.{NodeId}
use Rattle.tl_base.specs.declared.ids.EnvId.{EnvId}
use Rattle.tl_base.specs.declared.place.Place.{Place}
use Rattle.tl_tree.specs.declared.node.Statement.{Statement}
use Rattle.tl_tree.specs.declared.node.Statement.TheVariants as of_statements
use Rattle.tl_tree.specs.Item.{Item}
use Rattle.tl_tree.specs.Item as kept
use Rattle.tl_tree.specs.Code.{statements_at}
use Rattle.tl_alike.specs.Roles.{code_in_statement, code_in}
use Rattle.tl_alike.specs.Alike as nodes
use Rattle.tl_alike.proofs.ReadAlike.{statements_same}
use Rattle.lua_value.specs.Numbers.{number_from}
use Rattle.lua_value.specs.declared.value.Value.{Value}
use Rattle.lua_value.specs.declared.value.Value.TheVariants as values
use Rattle.lua_value.specs.Values.{is_nil, is_true}
use Rattle.lua_table.specs.Heap.{next_env}
use Rattle.lua_table.specs.Cells.{nth_value, first_value}
use Rattle.lua_ops.specs.declared.fault.Fault.{Fault}
use Rattle.lua_ops.specs.declared.fault.Fault.TheVariants as faults
use Rattle.lua_ops.specs.Outcomes.{operand}
use Rattle.lua_model.specs.declared.scope.Scope.{Scope}
use Rattle.lua_model.specs.declared.job.Loop.{Loop}
use Rattle.lua_model.specs.declared.job.Loop.TheVariants as loops
use Rattle.lua_model.specs.declared.job.Job.TheVariants as jobs
use Rattle.lua_model.specs.declared.job.Caller.TheVariants.{ByNode}
use Rattle.lua_model.specs.declared.end.End.{End}
use Rattle.lua_model.specs.declared.end.End.TheVariants.{One, Many, Fell, Broke, Returned, Raised}
use Rattle.lua_model.specs.Plans.{LuaPlan, within, statements}
use Rattle.lua_model.specs.Loops.{over, turn, after_turn, turn_block, while_test, repeat_test, for_fault, on_number, on_numbers, runs}
use Rattle.lua_model.specs.Loops.{count, count_from, with_variable, step_plan, numeric_plan, listed, list_next, generic_plan, while_turn}
use Rattle.lua_model.specs.Loops.{repeat_turn, numeric_turn, generic_turn, turn_of, turn_plan}
use Rattle.lua_alike.proofs.PlansAlike.{Two, SameUse, Same, then_same, if_same, end_same, do_same, reading_same, writing_same, on_all_same}
use Rattle.lua_alike.proofs.PlansAlike.{value_same, values_same, run_same, entering_same, raise_same}
use Rattle.lua_alike.proofs.CallsAlike.{call_same}

over_same : {two : Two} (out : List Value) → Same two (over out) (over out)
over_same out = end_same (Fell out)

pub turn_same : {two : Two} (n : NodeId) (scope : Scope) (loop : Loop) (out : List Value)
    → Same two (turn n scope loop out) (turn n scope loop out)
turn_same n scope loop out = do_same (jobs.Turn n scope loop out) tt (λ r. end_same r)

after_turn_same : {two : Two} (r : End) {go goes : List Value → LuaPlan} → ((all : List Value) → Same two (go all) (goes all))
    → Same two (after_turn r go) (after_turn r goes)
after_turn_same (Fell out) h = h out
after_turn_same (Broke out) h = over_same out
after_turn_same (Returned vs out) h = end_same (Returned vs out)
after_turn_same (Raised v place) h = end_same (Raised v place)
after_turn_same (One v) h = h []
after_turn_same (Many vs) h = h []

turn_block_same : {two : Two} (block : NodeId) (scope : Scope) (out : List Value) {go goes : List Value → LuaPlan}
    → ((all : List Value) → Same two (go all) (goes all))
    → Same two (turn_block two.items block scope out go) (turn_block two.other block scope out goes)
turn_block_same {two} block scope out {go} {goes} h =
    then_same (run_same (statements_at two.items block) scope out (λ r. after_turn_same r h))
    (ap (λ (ns : List NodeId). statements ns scope out (λ r. after_turn r goes)) (statements_same two.items two.other two.alike block))

-- ---- `while` and `repeat`

pub while_test_same : {two : Two} (n condition : NodeId) (scope : Scope) (out : List Value) → SameUse two condition
    → Same two (while_test n condition scope out) (while_test n condition scope out)
while_test_same n condition scope out is =
    value_same condition scope is (λ v. if_same (is_true v) (turn_same n scope loops.While out) (over_same out))

repeat_test_same : {two : Two} (n condition : NodeId) (scope inner : Scope) (out : List Value) → SameUse two condition
    → Same two (repeat_test n condition scope inner out) (repeat_test n condition scope inner out)
repeat_test_same n condition scope inner out is =
    value_same condition inner is (λ v. if_same (is_true v) (over_same out) (turn_same n scope loops.Repeat out))

-- ---- numeric `for`

on_number_same : {two : Two} (r : Result ℤ Fault) (missing : Fault) (place : Place) {go goes : ℤ → LuaPlan}
    → ((z : ℤ) → Same two (go z) (goes z)) → Same two (on_number r missing place go) (on_number r missing place goes)
on_number_same (Ok z) missing place h = h z
on_number_same (Err fault) missing place h = raise_same place (for_fault fault missing)

on_numbers_same : {two : Two} (first limit step : Value) (place : Place) {go goes : ℤ → ℤ → ℤ → LuaPlan}
    → ((i l d : ℤ) → Same two (go i l d) (goes i l d))
    → Same two (on_numbers first limit step place go) (on_numbers first limit step place goes)
on_numbers_same first limit step place h =
    reading_same (λ s.
    on_number_same (operand s first) faults.ForInitial place (λ i. on_number_same (operand s limit) faults.ForLimit place (λ l.
    on_number_same (operand s step) faults.ForStep place (λ d. h i l d))))

count_same : {two : Two} (n : NodeId) (scope : Scope) (i limit step : ℤ) (out : List Value)
    → Same two (count n scope i limit step out) (count n scope i limit step out)
count_same n scope i limit step out =
    if_same (runs i limit step) (turn_same n scope (loops.Counted i limit step) out) (over_same out)

count_from_same : {two : Two} (n : NodeId) (scope : Scope) (i : Option ℤ) (limit step : ℤ) (out : List Value)
    → Same two (count_from n scope i limit step out) (count_from n scope i limit step out)
count_from_same n scope (Some i) limit step out = count_same n scope i limit step out
count_from_same n scope None limit step out = over_same out

with_variable_same : {two : Two} (n : NodeId) (scope : Scope) (v : Value) {go goes : Scope → LuaPlan}
    → ((inner : Scope) → Same two (go inner) (goes inner)) → Same two (with_variable n scope v go) (with_variable n scope v goes)
with_variable_same n scope v h = reading_same (λ s. writing_same (h (within scope (next_env s))))

step_plan_same : {two : Two} (step : Option NodeId) (more : List NodeId) (scope : Scope) {go goes : Value → LuaPlan}
    → All (SameUse two) (option_to_list step ++ more) → ((v : Value) → Same two (go v) (goes v))
    → Same two (step_plan step scope go) (step_plan step scope goes)
step_plan_same (Some step) more scope uses h = value_same step scope (uses 0 step (omega arith)) h
step_plan_same None more scope uses h = h (values.Number (pos 1))

pub numeric_plan_same : {two : Two} (n first limit : NodeId) (step : Option NodeId) (more : List NodeId) (place : Place) (scope : Scope)
    → SameUse two first → SameUse two limit → All (SameUse two) (option_to_list step ++ more)
    → Same two (numeric_plan n first limit step place scope) (numeric_plan n first limit step place scope)
numeric_plan_same n first limit step more place scope p q uses =
    value_same first scope p (λ a. value_same limit scope q (λ b. step_plan_same step more scope uses (λ c.
    on_numbers_same a b c place (λ i l d. count_same n scope i l d []))))

-- ---- generic `for`

listed_same : {two : Two} (n : NodeId) (names : List NodeId) (scope : Scope) (f state : Value) (vs out : List Value)
    → Same two (listed n names scope f state vs out) (listed n names scope f state vs out)
listed_same n names scope f state vs out =
    if_same (is_nil (first_value vs)) (over_same out)
    (reading_same (λ s. writing_same (turn_same n scope (loops.Listed (next_env s) f state (first_value vs)) out)))

list_next_same : {two : Two} (n : NodeId) (names : List NodeId) (place : Place) (scope : Scope) (f state control : Value) (out : List Value)
    → Same two (list_next two.items n names place scope f state control out) (list_next two.other n names place scope f state control out)
list_next_same n names place scope f state control out =
    call_same ByNode f (state ∷ control ∷ []) place scope.call (λ r. on_all_same r (λ vs. listed_same n names scope f state vs out))

pub generic_plan_same : {two : Two} (n : NodeId) (names es : List NodeId) (place : Place) (scope : Scope) → All (SameUse two) es
    → Same two (generic_plan two.items n names es place scope) (generic_plan two.other n names es place scope)
generic_plan_same n names es place scope uses =
    values_same es scope [] uses (λ vs. list_next_same n names place scope (nth_value vs 0) (nth_value vs 1) (nth_value vs 2) [])

-- ---- turns

while_turn_same : {two : Two} (it : Statement) (n : NodeId) (scope : Scope) (out : List Value) → All (SameUse two) (code_in_statement it)
    → Same two (while_turn two.items it n scope out) (while_turn two.other it n scope out)
while_turn_same (of_statements.While condition block) n scope out uses =
    entering_same block scope (λ inner.
    turn_block_same block inner out (λ all. while_test_same n condition scope all (uses 0 condition (omega arith))))
while_turn_same _ n scope out uses = over_same out

repeat_turn_same : {two : Two} (it : Statement) (n : NodeId) (scope : Scope) (out : List Value) → All (SameUse two) (code_in_statement it)
    → Same two (repeat_turn two.items it n scope out) (repeat_turn two.other it n scope out)
repeat_turn_same (of_statements.Repeat block condition) n scope out uses =
    entering_same n scope (λ inner.
    turn_block_same block inner out (λ all. repeat_test_same n condition scope inner all (uses 1 condition (omega arith))))
repeat_turn_same _ n scope out uses = over_same out

numeric_turn_same : {two : Two} (it : Statement) (n : NodeId) (scope : Scope) (i limit step : ℤ) (out : List Value)
    → Same two (numeric_turn two.items it n scope i limit step out) (numeric_turn two.other it n scope i limit step out)
numeric_turn_same (of_statements.NumericFor name a b c block) n scope i limit step out =
    with_variable_same n scope (values.Number i) (λ inner.
    turn_block_same block inner out (λ all. count_from_same n scope (number_from (i +ℤ step)) limit step all))
numeric_turn_same _ n scope i limit step out = over_same out

generic_turn_same : {two : Two} (it : Statement) (n : NodeId) (place : Place) (scope : Scope) (env : EnvId) (f state control : Value)
    (out : List Value)
    → Same two (generic_turn two.items it n place scope env f state control out)
    (generic_turn two.other it n place scope env f state control out)
generic_turn_same (of_statements.GenericFor names es block) n place scope env f state control out =
    turn_block_same block (within scope env) out (λ all. list_next_same n names place scope f state control all)
generic_turn_same _ n place scope env f state control out = over_same out

turn_of_same : {two : Two} (it : Statement) (n : NodeId) (place : Place) (scope : Scope) (loop : Loop) (out : List Value)
    → All (SameUse two) (code_in_statement it)
    → Same two (turn_of two.items it n place scope loop out) (turn_of two.other it n place scope loop out)
turn_of_same it n place scope loops.While out uses = while_turn_same it n scope out uses
turn_of_same it n place scope loops.Repeat out uses = repeat_turn_same it n scope out uses
turn_of_same it n place scope (loops.Counted i limit step) out uses = numeric_turn_same it n scope i limit step out
turn_of_same it n place scope (loops.Listed env f state control) out uses = generic_turn_same it n place scope env f state control out

pub turn_plan_same : {two : Two} {a b : Item} → nodes.SameNode a b → (n : NodeId) (scope : Scope) (loop : Loop) (out : List Value)
    → All (SameUse two) (code_in a) → Same two (turn_plan two.items a n scope loop out) (turn_plan two.other b n scope loop out)
turn_plan_same (nodes.SameName p o x t u) n scope loop out uses = over_same out
turn_plan_same (nodes.SameNumeral p t u e f) n scope loop out uses = over_same out
turn_plan_same (nodes.SameLiteral p t u e) n scope loop out uses = over_same out
turn_plan_same (nodes.SameItem (kept.Statement place it)) n scope loop out uses = turn_of_same it n place scope loop out uses
turn_plan_same (nodes.SameItem item) n scope loop out uses = over_same out
