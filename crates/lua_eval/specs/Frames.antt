-- How each frame goes on with the end that it waited for: the plan that waited there.
use Rattle.std.specs.Prelude.{ℕ, ◌+◌, ◌+ℤ◌, Bool, true, false, List, [], ◌∷◌, ◌++◌, length, if◌then◌else◌}
use Rattle.tl_base.specs.declared.ids.NodeId.{NodeId}
use Rattle.tl_base.specs.Plan.{Give, Read, Write}
use Rattle.tl_base.specs.Machine.{Rules}
use Rattle.tl_tree.specs.declared.node.BinaryOperator.{BinaryOperator}
use Rattle.tl_tree.specs.declared.node.BinaryOperator.TheVariants as binary
use Rattle.tl_tree.specs.Nodes.{item_at}
use Rattle.tl_tree.specs.Code.{Items, if_any, name_at}
use Rattle.tl_base.specs.declared.place.Place.{Place}
use Rattle.lua_value.specs.Numbers.{number_from}
use Rattle.lua_value.specs.declared.value.Value.{Value}
use Rattle.lua_value.specs.declared.value.Value.TheVariants as values
use Rattle.lua_value.specs.Values.{is_true}
use Rattle.lua_table.specs.LuaState.{LuaState}
use Rattle.lua_table.specs.Cells.{nth_value, declare_all}
use Rattle.lua_model.specs.declared.scope.Scope.{Scope}
use Rattle.lua_model.specs.declared.job.LuaJob.{LuaJob}
use Rattle.lua_model.specs.declared.job.Job.{Job}
use Rattle.lua_model.specs.declared.job.Loop.TheVariants as loops
use Rattle.lua_model.specs.declared.end.End.{End}
use Rattle.lua_model.specs.declared.end.End.TheVariants.{Fell, Returned}
use Rattle.lua_model.specs.declared.end.LuaEnd.{LuaEnd}
use Rattle.lua_model.specs.declared.question.LuaQuestion.{LuaQuestion}
use Rattle.lua_model.specs.declared.question.LuaAnswer.{LuaAnswer}
use Rattle.lua_model.specs.declared.question.LuaAnswer.TheVariants as answers
use Rattle.lua_model.specs.Plans.{LuaPlan, give, alone, fell, on_one, on_all, on_fell, reply, value_of, values_of, statements, with_text_of}
use Rattle.lua_model.specs.declared.job.Caller.TheVariants.{ByNode}
use Rattle.lua_model.specs.Calls.{leave, returned, call}
use Rattle.lua_model.specs.Fields.{read, store_raw}
use Rattle.lua_model.specs.Operators.{answered, operate, unary_at}
use Rattle.lua_model.specs.Expressions.{closing}
use Rattle.lua_model.specs.Tables.{store_values, fields}
use Rattle.lua_model.specs.Assignments.{held, targets, store_target, stores, define_in}
use Rattle.lua_model.specs.Loops.{turn, over, after_turn, while_test, repeat_test, step_plan, on_numbers, count, count_from, listed}
use Rattle.lua_model.specs.Loops.{list_next}
use Rattle.lua_model.specs.Statements.{block_plan, arms_plan}
use Rattle.lua_model.specs.Meaning.{job_plan, first_plan, close}
use Rattle.lua_eval.specs.Waits.{waited}
use Rattle.lua_eval.specs.declared.frame.LuaFrame.{LuaFrame}
use Rattle.lua_eval.specs.declared.frame.LuaFrame.TheVariants as frames
use Rattle.lua_eval.specs.declared.frame.OneFrame.{OneFrame}
use Rattle.lua_eval.specs.declared.frame.OneFrame.TheVariants as ones
use Rattle.lua_eval.specs.declared.frame.AllFrame.{AllFrame}
use Rattle.lua_eval.specs.declared.frame.AllFrame.TheVariants as alls
use Rattle.lua_eval.specs.declared.frame.ValueFrame.{ValueFrame}
use Rattle.lua_eval.specs.declared.frame.ValueFrame.TheVariants as of_value
use Rattle.lua_eval.specs.declared.frame.Then.{Then}
use Rattle.lua_eval.specs.declared.frame.Then.TheVariants as thens
use Rattle.lua_eval.specs.declared.frame.CallFrame.{CallFrame}
use Rattle.lua_eval.specs.declared.frame.CallFrame.TheVariants as of_call
use Rattle.lua_eval.specs.declared.frame.TableFrame.{TableFrame}
use Rattle.lua_eval.specs.declared.frame.FieldFrame.{FieldFrame}
use Rattle.lua_eval.specs.declared.frame.FieldFrame.TheVariants as of_field
use Rattle.lua_eval.specs.declared.frame.TargetFrame.{TargetFrame}
use Rattle.lua_eval.specs.declared.frame.TargetFrame.TheVariants as of_target
use Rattle.lua_eval.specs.declared.frame.LoopFrame.{LoopFrame}
use Rattle.lua_eval.specs.declared.frame.LoopFrame.TheVariants as of_loop
use Rattle.lua_eval.specs.declared.frame.TurnFrame.{TurnFrame}
use Rattle.lua_eval.specs.declared.frame.TurnFrame.TheVariants as of_turn
use Rattle.lua_eval.specs.declared.frame.StatementFrame.{StatementFrame}
use Rattle.lua_eval.specs.declared.frame.StatementFrame.TheVariants as of_statement

-- ---- one value

-- goes on with the left operand's value
abbrev pub with_left : Items → BinaryOperator → NodeId → Place → Scope → Value → LuaPlan
with_left items binary.And right place scope v = if is_true v then value_of right scope give else give v
with_left items binary.Or right place scope v = if is_true v then give v else value_of right scope give
with_left items op right place scope v = value_of right scope (λ b. operate items op v b place scope.call)

abbrev pub with_value : Items → ValueFrame → Value → LuaPlan
with_value items of_value.First v = give v
with_value items of_value.Alone v = alone v
with_value items (of_value.Left op right place scope) v = with_left items op right place scope v
with_value items (of_value.Right op a place outer) v = operate items op a v place outer
with_value items (of_value.Unary op place outer) v = unary_at items op v place outer
with_value items (of_value.Answer handler) v = give (answered handler v)
with_value items (of_value.Object key place scope) v = value_of key scope (λ k. read v k place scope.call give)
with_value items (of_value.Key object place outer) v = read object v place outer give
with_value items (of_value.Select name place outer) v =
    with_text_of (name_at items name) (λ key. read v key place outer give)

-- what is done with the values of a list
abbrev pub then_plan : Items → Then → Scope → List Value → LuaPlan
then_plan items (thens.Call f place) scope vs = call items ByNode f vs place scope.call Give
then_plan items thens.Return scope vs = Give (Returned vs [])
then_plan items (thens.Local names) scope vs =
    Read (λ s. Write (declare_all (length names.now) scope.env vs s) fell)
then_plan items (thens.Assign ns us) scope vs = stores items ns.now scope us vs (length ns.now)
then_plan items (thens.Listed n names place) scope vs =
    list_next items n names.now place scope (nth_value vs 0) (nth_value vs 1) (nth_value vs 2) []

-- evaluates the expressions that are left of a list, and does that with all values
abbrev pub list_plan : Items → List NodeId → Scope → List Value → Then → LuaPlan
list_plan items ns scope vs next = values_of ns scope vs (λ all. then_plan items next scope all)

abbrev pub with_call : Items → CallFrame → Value → LuaPlan
with_call items (of_call.Function arguments place scope) v =
    list_plan items arguments.now scope [] (thens.Call v place)
with_call items (of_call.Method name arguments place scope) v =
    with_text_of (name_at items name) (λ key. read v key place scope.call (λ f.
    list_plan items arguments.now scope (v ∷ []) (thens.Call f place)))
with_call items (of_call.MethodOf object arguments place scope) v =
    list_plan items arguments.now scope (object ∷ []) (thens.Call v place)

-- the fields that are left
abbrev pub fields_from : Items → TableFrame → ℕ → LuaPlan
fields_from items f next = fields items f.rest.now f.table next f.place f.scope

abbrev pub with_field : Items → TableFrame → FieldFrame → Value → LuaPlan
with_field items f of_field.Next v = store_values f.table f.next (v ∷ []) (fields_from items f (f.next + 1))
with_field items f (of_field.Named name) v =
    with_text_of (name_at items name) (λ key. store_raw f.table key v f.place (fields_from items f f.next))
with_field items f (of_field.Key value) k =
    value_of value f.scope (λ v. store_raw f.table k v f.place (fields_from items f f.next))
with_field items f (of_field.Under k) v = store_raw f.table k v f.place (fields_from items f f.next)

abbrev pub with_target : Items → TargetFrame → Value → LuaPlan
with_target items (of_target.Object key scope) v = value_of key scope (λ k. held v k)
with_target items (of_target.Key object) v = held object v
with_target items (of_target.Select name) v = with_text_of (name_at items name) (λ key. held v key)
with_target items (of_target.Path rest method function scope) v =
    define_in items (rest.now ++ if_any method) function scope v

-- the numbers of a `for`, and its first turn
abbrev pub first_count : NodeId → Value → Value → Value → Place → Scope → LuaPlan
first_count n a b c place scope = on_numbers a b c place (λ i l d. count n scope i l d [])

abbrev pub with_loop : LoopFrame → Value → LuaPlan
with_loop (of_loop.While n scope out) v = if is_true v then turn n scope loops.While out else over out
with_loop (of_loop.Repeat n scope out) v = if is_true v then over out else turn n scope loops.Repeat out
with_loop (of_loop.Initial n limit step place scope) v =
    value_of limit scope (λ b. step_plan step scope (λ c. first_count n v b c place scope))
with_loop (of_loop.Limit n a step place scope) v = step_plan step scope (λ c. first_count n a v c place scope)
with_loop (of_loop.Step n a b place scope) v = first_count n a b v place scope

abbrev pub with_statement : Items → StatementFrame → Value → LuaPlan
with_statement items of_statement.Emit v = Give (Fell (v ∷ []))
with_statement items (of_statement.Arm block rest otherwise scope) v =
    if is_true v then block_plan items block scope Give else arms_plan items rest.now otherwise scope

abbrev pub with_one : Items → OneFrame → Value → LuaPlan
with_one items (ones.Value f) v = with_value items f v
with_one items (ones.Item f) v = list_plan items f.rest.now f.scope (f.values ++ v ∷ []) f.then
with_one items (ones.Call f) v = with_call items f v
with_one items (ones.Field f wait) v = with_field items f wait v
with_one items (ones.Target f) v = with_target items f v
with_one items (ones.Loop f) v = with_loop f v
with_one items (ones.Statement f) v = with_statement items f v

-- ---- all values

-- the targets that are left, then the right sides, then the stores
abbrev pub targets_plan : Items → List NodeId → List NodeId → List NodeId → Scope → List Value → LuaPlan
targets_plan items rest ns es scope us =
    targets rest scope us (λ all. values_of es scope [] (λ vs. stores items ns scope all vs (length ns)))

-- stores the function of a node under a name alone
abbrev pub define_name : Items → NodeId → NodeId → Scope → LuaPlan
define_name items n function scope =
    closing function scope (λ f. store_target items (item_at items n) n scope values.Nil values.Nil f fell)

abbrev pub with_all : Items → AllFrame → List Value → LuaPlan
with_all items (alls.Last f) vs = then_plan items f.then f.scope (f.values ++ vs)
with_all items (alls.LastField f) vs = store_values f.table f.next vs (give (values.Table f.table))
with_all items (alls.Target rest ns es scope us) vs = targets_plan items rest.now ns.now es.now scope (us ++ vs)
with_all items (alls.Stores ns scope us vs left) dropped = stores items ns.now scope us vs left
with_all items (alls.Name n function scope) dropped = define_name items n function scope
with_all items (alls.Listed n names scope f state out) vs = listed n names.now scope f state vs out
with_all items alls.Done dropped = fell
with_all items (alls.Wait wait scope) vs = waited wait scope vs fell

-- ---- ends

-- how a loop goes on behind a turn
abbrev pub next_turn : Items → NodeId → Scope → TurnFrame → List Value → LuaPlan
next_turn items n scope (of_turn.While condition) out = while_test n condition scope out
next_turn items n scope (of_turn.Repeat condition inner) out = repeat_test n condition scope inner out
next_turn items n scope (of_turn.Counted i limit step) out =
    count_from n scope (number_from (i +ℤ step)) limit step out
next_turn items n scope (of_turn.Listed names place f state control) out =
    list_next items n names.now place scope f state control out

abbrev pub after : Items → LuaFrame → End → LuaPlan
after items (frames.One f) r = on_one r (λ v. with_one items f v)
after items (frames.All f) r = on_all r (λ vs. with_all items f vs)
after items frames.Library r = leave r Give
after items frames.Function r = leave (returned r) Give
after items (frames.Turn n scope kind) r = after_turn r (λ out. next_turn items n scope kind out)
after items (frames.Block rest scope out) r = on_fell r out Give (λ all. statements rest.now scope all Give)

-- the language of a tree
abbrev pub lua_rules : Items → Rules LuaJob Job LuaState LuaQuestion LuaAnswer End LuaEnd LuaFrame
lua_rules items =
    record { first = first_plan items; plan = job_plan items; after = after items; reply = reply; close = close }

-- tells the answer that begins
abbrev pub is_go : LuaAnswer → Bool
is_go answers.Go = true
is_go _ = false
