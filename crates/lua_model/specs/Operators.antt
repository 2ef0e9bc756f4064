-- Operators (Lua 5.1 manual, sections 2.5.1 to 2.5.5, and 2.8).
use Rattle.std.specs.Prelude.{ℕ, not, List, [], ◌∷◌, length, Option, if◌then◌else◌}
use Rattle.tl_base.specs.declared.ids.NodeId.{NodeId}
use Rattle.tl_base.specs.declared.place.Place.{Place}
use Rattle.tl_base.specs.Plan.{Read, Write, Pay}
use Rattle.tl_tree.specs.declared.node.BinaryOperator.{BinaryOperator}
use Rattle.tl_tree.specs.declared.node.BinaryOperator.TheVariants as binary
use Rattle.tl_tree.specs.declared.node.UnaryOperator.{UnaryOperator}
use Rattle.tl_tree.specs.declared.node.UnaryOperator.TheVariants as unary
use Rattle.tl_tree.specs.Code.{Items}
use Rattle.lua_value.specs.declared.library.LibFn.TheVariants as library
use Rattle.lua_value.specs.declared.value.Value.{Value}
use Rattle.lua_value.specs.declared.value.Value.TheVariants as values
use Rattle.lua_value.specs.Values.{kind_of, is_true}
use Rattle.lua_table.specs.LuaState.{LuaState}
use Rattle.lua_table.specs.Pairs.{border_of}
use Rattle.lua_table.specs.Heap.{table_at, text_at}
use Rattle.lua_ops.specs.declared.operator.Arithmetic.{Arithmetic}
use Rattle.lua_ops.specs.declared.operator.Arithmetic.TheVariants as arithmetic
use Rattle.lua_ops.specs.declared.operator.Comparison.{Comparison}
use Rattle.lua_ops.specs.declared.operator.Comparison.TheVariants as comparison
use Rattle.lua_ops.specs.declared.fault.Fault.TheVariants as faults
use Rattle.lua_ops.specs.declared.outcome.Outcome.{Outcome}
use Rattle.lua_ops.specs.declared.outcome.Outcome.TheVariants as outcomes
use Rattle.lua_ops.specs.declared.outcome.Handler.{Handler}
use Rattle.lua_ops.specs.Outcomes.{arith_outcome, compare_outcome, concat_outcome, concat_store}
use Rattle.lua_model.specs.declared.scope.Scope.{Scope}
use Rattle.lua_model.specs.declared.job.Caller.TheVariants.{ByOther}
use Rattle.lua_model.specs.Plans.{LuaPlan, give, on_one, value_of, text_units, whole, raise}
use Rattle.lua_model.specs.Calls.{call, ask_library}

-- ---- handlers

-- the operands the other way round
abbrev pub turned : List Value → List Value
turned (a ∷ b ∷ []) = b ∷ a ∷ []
turned vs = vs

-- the operands with which a handler is called
abbrev pub operands_of : Handler → List Value → List Value
operands_of handler vs = if handler.swapped then turned vs else vs

-- calls an operator's handler, and goes on with the first value of its answer
abbrev pub handle : Items → Handler → List Value → Place → Option Place → (Value → LuaPlan) → LuaPlan
handle items handler vs place outer go =
    call items ByOther handler.function (operands_of handler vs) place outer (λ r. on_one r go)

-- ---- arithmetic

-- what an operator gives: its result, the first value of its handler's answer, or its fault
abbrev pub settle : Items → Outcome → List Value → Place → Option Place → LuaPlan
settle items (outcomes.Value v) vs place outer = give v
settle items (outcomes.Meta handler) vs place outer = handle items handler vs place outer give
settle items (outcomes.Raise fault) vs place outer = raise place fault

abbrev pub arith : Items → Arithmetic → Value → Value → Place → Option Place → LuaPlan
arith items op a b place outer = Read (λ s. settle items (arith_outcome s op a b) (a ∷ b ∷ []) place outer)

-- unary minus has one operand, and so has its handler
abbrev pub minus : Items → Value → Place → Option Place → LuaPlan
minus items a place outer =
    Read (λ s. settle items (arith_outcome s arithmetic.Minus a values.Nil) (a ∷ []) place outer)

-- ---- concatenation

abbrev pub text_length : LuaState → Value → ℕ
text_length s (values.Text t) = length (text_at s t)
text_length s v = 0

-- the text that was made is paid for
abbrev pub joined : Items → Outcome → List Value → Place → Option Place → LuaPlan
joined items (outcomes.Value v) vs place outer = Read (λ s. Pay (text_units (text_length s v)) (give v))
joined items outcome vs place outer = settle items outcome vs place outer

abbrev pub concat : Items → Value → Value → Place → Option Place → LuaPlan
concat items a b place outer =
    Read (λ s. Write (concat_store s a b) (joined items (concat_outcome s a b) (a ∷ b ∷ []) place outer))

-- ---- comparison

-- the result that a handler's answer gives: whether it counts as true
abbrev pub answered : Handler → Value → Value
answered handler v = values.Boolean (if handler.negated then not (is_true v) else is_true v)

abbrev pub compared : Items → Outcome → List Value → Place → Option Place → LuaPlan
compared items (outcomes.Meta handler) vs place outer =
    handle items handler vs place outer (λ v. give (answered handler v))
compared items outcome vs place outer = settle items outcome vs place outer

abbrev pub compare : Items → Comparison → Value → Value → Place → Option Place → LuaPlan
compare items op a b place outer = Read (λ s. compared items (compare_outcome s op a b) (a ∷ b ∷ []) place outer)

-- ---- length

abbrev pub length_plan : Value → Place → LuaPlan
length_plan (values.Text t) place = Read (λ s. give (whole (length (text_at s t))))
length_plan (values.Table t) place = Read (λ s. give (whole (border_of (table_at s t))))
length_plan v place = raise place (faults.Length (kind_of v))

-- ---- nodes

-- the operators that evaluate both operands first
abbrev pub operate : Items → BinaryOperator → Value → Value → Place → Option Place → LuaPlan
operate items binary.Arrow a b place outer =
    ask_library library.FunctionType (a ∷ b ∷ []) place outer (λ r. on_one r give)
operate items binary.Less a b place outer = compare items comparison.Less a b place outer
operate items binary.Greater a b place outer = compare items comparison.Greater a b place outer
operate items binary.LessEqual a b place outer = compare items comparison.LessEqual a b place outer
operate items binary.GreaterEqual a b place outer = compare items comparison.GreaterEqual a b place outer
operate items binary.NotEqual a b place outer = compare items comparison.NotEqual a b place outer
operate items binary.Equal a b place outer = compare items comparison.Equal a b place outer
operate items binary.Concatenate a b place outer = concat items a b place outer
operate items binary.Add a b place outer = arith items arithmetic.Add a b place outer
operate items binary.Subtract a b place outer = arith items arithmetic.Subtract a b place outer
operate items binary.Multiply a b place outer = arith items arithmetic.Multiply a b place outer
operate items binary.Divide a b place outer = arith items arithmetic.Divide a b place outer
operate items binary.Modulo a b place outer = arith items arithmetic.Remainder a b place outer
operate items binary.Power a b place outer = arith items arithmetic.Power a b place outer
-- these are no operators of Lua code
operate items binary.Or a b place outer = give values.Nil
operate items binary.And a b place outer = give values.Nil
operate items binary.ShiftLeft a b place outer = give values.Nil
operate items binary.ShiftRight a b place outer = give values.Nil

-- `and` and `or` evaluate the second operand only where it counts
abbrev pub binary_plan : Items → BinaryOperator → NodeId → NodeId → Place → Scope → LuaPlan
binary_plan items binary.And left right place scope =
    value_of left scope (λ v. if is_true v then value_of right scope give else give v)
binary_plan items binary.Or left right place scope =
    value_of left scope (λ v. if is_true v then give v else value_of right scope give)
binary_plan items op left right place scope =
    value_of left scope (λ a. value_of right scope (λ b. operate items op a b place scope.call))

abbrev pub unary_at : Items → UnaryOperator → Value → Place → Option Place → LuaPlan
unary_at items unary.Not v place outer = give (values.Boolean (not (is_true v)))
unary_at items unary.Length v place outer = length_plan v place
unary_at items unary.Negate v place outer = minus items v place outer
unary_at items unary.Address v place outer =
    ask_library library.PointerType (v ∷ []) place outer (λ r. on_one r give)
-- this is no operator of Lua code
unary_at items unary.Dereference v place outer = give values.Nil

abbrev pub unary_plan : Items → UnaryOperator → NodeId → Place → Scope → LuaPlan
unary_plan items op operand place scope = value_of operand scope (λ v. unary_at items op v place scope.call)
