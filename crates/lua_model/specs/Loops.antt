-- Loops (Lua 5.1 manual, sections 2.4.4 and 2.4.5). Each turn is a job, which goes over to the next one.
use Rattle.std.specs.Prelude.{Bool, List, [], ◌∷◌, length, ℤ, pos, ◌+ℤ◌, int_lt, int_le, Option, Some, None, Result, Ok, Err, if◌then◌else◌}
use Rattle.tl_base.specs.declared.ids.NodeId.{NodeId}
use Rattle.tl_base.specs.declared.ids.EnvId.{EnvId}
use Rattle.tl_base.specs.declared.place.Place.{Place}
use Rattle.tl_base.specs.Plan.{Give, Do, Read, Write}
use Rattle.tl_tree.specs.declared.node.Statement.{Statement}
use Rattle.tl_tree.specs.declared.node.Statement.TheVariants as of_statements
use Rattle.tl_tree.specs.Item.{Item}
use Rattle.tl_tree.specs.Item as kept
use Rattle.tl_tree.specs.Code.{Items, statements_at}
use Rattle.lua_value.specs.Numbers.{number_from}
use Rattle.lua_value.specs.declared.value.Value.{Value}
use Rattle.lua_value.specs.declared.value.Value.TheVariants as values
use Rattle.lua_value.specs.Values.{is_nil, is_true}
use Rattle.lua_table.specs.Heap.{next_env, with_env}
use Rattle.lua_table.specs.Cells.{nth_value, first_value, declare, declare_all}
use Rattle.lua_ops.specs.declared.fault.Fault.{Fault}
use Rattle.lua_ops.specs.declared.fault.Fault.TheVariants as faults
use Rattle.lua_ops.specs.Outcomes.{operand}
use Rattle.lua_model.specs.declared.scope.Scope.{Scope}
use Rattle.lua_model.specs.declared.job.Loop.{Loop}
use Rattle.lua_model.specs.declared.job.Loop.TheVariants as loops
use Rattle.lua_model.specs.declared.job.Job.TheVariants as jobs
use Rattle.lua_model.specs.declared.end.End.{End}
use Rattle.lua_model.specs.declared.end.End.TheVariants.{One, Many, Fell, Broke, Returned, Raised}
use Rattle.lua_model.specs.declared.job.Caller.TheVariants.{ByNode}
use Rattle.lua_model.specs.Plans.{LuaPlan, within, on_all, value_of, values_of, statements, entering, raise}
use Rattle.lua_model.specs.Calls.{call}

-- a loop is over
abbrev pub over : List Value → LuaPlan
over out = Give (Fell out)

-- begins a turn
abbrev pub turn : NodeId → Scope → Loop → List Value → LuaPlan
turn n scope loop out = Do (jobs.Turn n scope loop out) Give

-- goes on behind a turn, whose block was executed with what was emitted before it. `break` ends the loop
abbrev pub after_turn : End → (List Value → LuaPlan) → LuaPlan
after_turn (Fell out) go = go out
after_turn (Broke out) go = over out
after_turn (Returned vs out) go = Give (Returned vs out)
after_turn (Raised v place) go = Give (Raised v place)
after_turn (One v) go = go []
after_turn (Many vs) go = go []

-- executes a block in a turn
abbrev pub turn_block : Items → NodeId → Scope → List Value → (List Value → LuaPlan) → LuaPlan
turn_block items block scope out go = statements (statements_at items block) scope out (λ r. after_turn r go)

-- ---- `while` and `repeat`

abbrev pub while_test : NodeId → NodeId → Scope → List Value → LuaPlan
while_test n condition scope out =
    value_of condition scope (λ v. if is_true v then turn n scope loops.While out else over out)

-- the condition of `repeat` is in the scope of its block
abbrev pub repeat_test : NodeId → NodeId → Scope → Scope → List Value → LuaPlan
repeat_test n condition scope inner out =
    value_of condition inner (λ v. if is_true v then over out else turn n scope loops.Repeat out)

-- ---- numeric `for`

abbrev pub for_fault : Fault → Fault → Fault
for_fault (faults.Arithmetic kind) missing = missing
for_fault fault missing = fault

-- goes on with the number that a value is in arithmetic
abbrev pub on_number : Result ℤ Fault → Fault → Place → (ℤ → LuaPlan) → LuaPlan
on_number (Ok z) missing place go = go z
on_number (Err fault) missing place go = raise place (for_fault fault missing)

-- the values of the first expression, the limit and the step are numbers, in this order
abbrev pub on_numbers : Value → Value → Value → Place → (ℤ → ℤ → ℤ → LuaPlan) → LuaPlan
on_numbers first limit step place go =
    Read (λ s.
    on_number (operand s first) faults.ForInitial place (λ i. on_number (operand s limit) faults.ForLimit place (λ l.
    on_number (operand s step) faults.ForStep place (λ d. go i l d))))

-- a step above zero runs up to the limit, and any other one down to it
abbrev pub runs : ℤ → ℤ → ℤ → Bool
runs i limit step = if int_lt (pos 0) step then int_le i limit else int_le limit i

abbrev pub count : NodeId → Scope → ℤ → ℤ → ℤ → List Value → LuaPlan
count n scope i limit step out =
    if runs i limit step then turn n scope (loops.Counted i limit step) out else over out

-- the next turn; a number out of the profile is past every limit
abbrev pub count_from : NodeId → Scope → Option ℤ → ℤ → ℤ → List Value → LuaPlan
count_from n scope (Some i) limit step out = count n scope i limit step out
count_from n scope None limit step out = over out

-- an environment with the variable of a turn
abbrev pub with_variable : NodeId → Scope → Value → (Scope → LuaPlan) → LuaPlan
with_variable n scope v go =
    Read (λ s. Write (declare (next_env s) v (with_env s n (Some scope.env))) (go (within scope (next_env s))))

abbrev pub step_plan : Option NodeId → Scope → (Value → LuaPlan) → LuaPlan
step_plan (Some step) scope go = value_of step scope go
step_plan None scope go = go (values.Number (pos 1))

abbrev pub numeric_plan : NodeId → NodeId → NodeId → Option NodeId → Place → Scope → LuaPlan
numeric_plan n first limit step place scope =
    value_of first scope (λ a. value_of limit scope (λ b. step_plan step scope (λ c.
    on_numbers a b c place (λ i l d. count n scope i l d []))))

-- ---- generic `for`

-- the iterator's values: nil as the first one ends the loop, and else they are the variables of a turn
abbrev pub listed : NodeId → List NodeId → Scope → Value → Value → List Value → List Value → LuaPlan
listed n names scope f state vs out =
    if is_nil (first_value vs) then over out
    else Read (λ s.
    Write (declare_all (length names) (next_env s) vs (with_env s n (Some scope.env)))
    (turn n scope (loops.Listed (next_env s) f state (first_value vs)) out))

-- calls the iterator. The call is the statement's own
abbrev pub list_next : Items → NodeId → List NodeId → Place → Scope → Value → Value → Value → List Value → LuaPlan
list_next items n names place scope f state control out =
    call items ByNode f (state ∷ control ∷ []) place scope.call (λ r.
    on_all r (λ vs. listed n names scope f state vs out))

abbrev pub generic_plan : Items → NodeId → List NodeId → List NodeId → Place → Scope → LuaPlan
generic_plan items n names es place scope =
    values_of es scope [] (λ vs.
    list_next items n names place scope (nth_value vs 0) (nth_value vs 1) (nth_value vs 2) [])

-- ---- turns

abbrev pub while_turn : Items → Statement → NodeId → Scope → List Value → LuaPlan
while_turn items (of_statements.While condition block) n scope out =
    entering block scope (λ inner. turn_block items block inner out (λ all. while_test n condition scope all))
while_turn items s n scope out = over out

abbrev pub repeat_turn : Items → Statement → NodeId → Scope → List Value → LuaPlan
repeat_turn items (of_statements.Repeat block condition) n scope out =
    entering n scope (λ inner. turn_block items block inner out (λ all. repeat_test n condition scope inner all))
repeat_turn items s n scope out = over out

abbrev pub numeric_turn : Items → Statement → NodeId → Scope → ℤ → ℤ → ℤ → List Value → LuaPlan
numeric_turn items (of_statements.NumericFor name a b c block) n scope i limit step out =
    with_variable n scope (values.Number i) (λ inner. turn_block items block inner out (λ all.
    count_from n scope (number_from (i +ℤ step)) limit step all))
numeric_turn items s n scope i limit step out = over out

abbrev pub generic_turn :
    Items → Statement → NodeId → Place → Scope → EnvId → Value → Value → Value → List Value → LuaPlan
generic_turn items (of_statements.GenericFor names es block) n place scope env f state control out =
    turn_block items block (within scope env) out (λ all. list_next items n names place scope f state control all)
generic_turn items s n place scope env f state control out = over out

abbrev pub turn_of : Items → Statement → NodeId → Place → Scope → Loop → List Value → LuaPlan
turn_of items s n place scope loops.While out = while_turn items s n scope out
turn_of items s n place scope loops.Repeat out = repeat_turn items s n scope out
turn_of items s n place scope (loops.Counted i limit step) out = numeric_turn items s n scope i limit step out
turn_of items s n place scope (loops.Listed env f state control) out =
    generic_turn items s n place scope env f state control out

abbrev pub turn_plan : Items → Item → NodeId → Scope → Loop → List Value → LuaPlan
turn_plan items (kept.Statement place s) n scope loop out = turn_of items s n place scope loop out
turn_plan items item n scope loop out = over out
