-- Operators do the same in two trees that are alike.
use Rattle.std.specs.Prelude.{List, [], ◌∷◌, Option}
use Rattle.tl_base.specs.declared.ids.NodeId.{NodeId}
use Rattle.tl_base.specs.declared.place.Place.{Place}
use Rattle.tl_tree.specs.declared.node.BinaryOperator.{BinaryOperator}
use Rattle.tl_tree.specs.declared.node.BinaryOperator.TheVariants as binary
use Rattle.tl_tree.specs.declared.node.UnaryOperator.{UnaryOperator}
use Rattle.tl_tree.specs.declared.node.UnaryOperator.TheVariants as unary
use Rattle.lua_value.specs.declared.library.LibFn.TheVariants as library
use Rattle.lua_value.specs.declared.value.Value.{Value}
use Rattle.lua_value.specs.declared.value.Value.TheVariants as values
use Rattle.lua_value.specs.Values.{kind_of, is_true}
use Rattle.lua_ops.specs.declared.operator.Arithmetic.{Arithmetic}
use Rattle.lua_ops.specs.declared.operator.Arithmetic.TheVariants as arithmetic
use Rattle.lua_ops.specs.declared.operator.Comparison.{Comparison}
use Rattle.lua_ops.specs.declared.operator.Comparison.TheVariants as comparison
use Rattle.lua_ops.specs.declared.fault.Fault.TheVariants as faults
use Rattle.lua_ops.specs.declared.outcome.Outcome.{Outcome}
use Rattle.lua_ops.specs.declared.outcome.Outcome.TheVariants as outcomes
use Rattle.lua_ops.specs.declared.outcome.Handler.{Handler}
use Rattle.lua_ops.specs.Outcomes.{arith_outcome, compare_outcome, concat_outcome}
use Rattle.lua_model.specs.declared.scope.Scope.{Scope}
use Rattle.lua_model.specs.declared.job.Caller.TheVariants.{ByOther}
use Rattle.lua_model.specs.declared.end.End.TheVariants.{One}
use Rattle.lua_model.specs.Plans.{LuaPlan, give}
use Rattle.lua_model.specs.Operators.{operands_of, handle, settle, arith, minus, joined, concat, answered, compared, compare, length_plan}
use Rattle.lua_model.specs.Operators.{operate, binary_plan, unary_at, unary_plan}
use Rattle.lua_alike.proofs.PlansAlike.{Two, SameUse, Same, if_same, end_same, reading_same, writing_same, paying_same, on_one_same}
use Rattle.lua_alike.proofs.PlansAlike.{value_same, raise_same}
use Rattle.lua_alike.proofs.CallsAlike.{ask_library_same, call_same}

pub give_same : {two : Two} (v : Value) → Same two (give v) (give v)
give_same v = end_same (One v)

-- ---- handlers

handle_same : {two : Two} (handler : Handler) (vs : List Value) (place : Place) (outer : Option Place) {go goes : Value → LuaPlan}
    → ((v : Value) → Same two (go v) (goes v))
    → Same two (handle two.items handler vs place outer go) (handle two.other handler vs place outer goes)
handle_same handler vs place outer h =
    call_same ByOther handler.function (operands_of handler vs) place outer (λ r. on_one_same r h)

-- ---- arithmetic

settle_same : {two : Two} (o : Outcome) (vs : List Value) (place : Place) (outer : Option Place)
    → Same two (settle two.items o vs place outer) (settle two.other o vs place outer)
settle_same (outcomes.Value v) vs place outer = give_same v
settle_same (outcomes.Meta handler) vs place outer = handle_same handler vs place outer (λ v. give_same v)
settle_same (outcomes.Raise fault) vs place outer = raise_same place fault

arith_same : {two : Two} (op : Arithmetic) (a b : Value) (place : Place) (outer : Option Place)
    → Same two (arith two.items op a b place outer) (arith two.other op a b place outer)
arith_same op a b place outer = reading_same (λ s. settle_same (arith_outcome s op a b) (a ∷ b ∷ []) place outer)

minus_same : {two : Two} (a : Value) (place : Place) (outer : Option Place)
    → Same two (minus two.items a place outer) (minus two.other a place outer)
minus_same a place outer =
    reading_same (λ s. settle_same (arith_outcome s arithmetic.Minus a values.Nil) (a ∷ []) place outer)

-- ---- concatenation

joined_same : {two : Two} (o : Outcome) (vs : List Value) (place : Place) (outer : Option Place)
    → Same two (joined two.items o vs place outer) (joined two.other o vs place outer)
joined_same (outcomes.Value v) vs place outer = reading_same (λ s. paying_same (give_same v))
joined_same o vs place outer = settle_same o vs place outer

concat_same : {two : Two} (a b : Value) (place : Place) (outer : Option Place)
    → Same two (concat two.items a b place outer) (concat two.other a b place outer)
concat_same a b place outer =
    reading_same (λ s. writing_same (joined_same (concat_outcome s a b) (a ∷ b ∷ []) place outer))

-- ---- comparison

compared_same : {two : Two} (o : Outcome) (vs : List Value) (place : Place) (outer : Option Place)
    → Same two (compared two.items o vs place outer) (compared two.other o vs place outer)
compared_same (outcomes.Meta handler) vs place outer =
    handle_same handler vs place outer (λ v. give_same (answered handler v))
compared_same o vs place outer = settle_same o vs place outer

compare_same : {two : Two} (op : Comparison) (a b : Value) (place : Place) (outer : Option Place)
    → Same two (compare two.items op a b place outer) (compare two.other op a b place outer)
compare_same op a b place outer = reading_same (λ s. compared_same (compare_outcome s op a b) (a ∷ b ∷ []) place outer)

-- ---- length

length_plan_same : {two : Two} (v : Value) (place : Place) → Same two (length_plan v place) (length_plan v place)
length_plan_same (values.Text t) place = reading_same (λ s. end_same _)
length_plan_same (values.Table t) place = reading_same (λ s. end_same _)
length_plan_same v place = raise_same place (faults.Length (kind_of v))

-- ---- nodes

operate_same : {two : Two} (op : BinaryOperator) (a b : Value) (place : Place) (outer : Option Place)
    → Same two (operate two.items op a b place outer) (operate two.other op a b place outer)
operate_same binary.Arrow a b place outer =
    ask_library_same library.FunctionType (a ∷ b ∷ []) place outer (λ r. on_one_same r (λ v. give_same v))
operate_same binary.Less a b place outer = compare_same comparison.Less a b place outer
operate_same binary.Greater a b place outer = compare_same comparison.Greater a b place outer
operate_same binary.LessEqual a b place outer = compare_same comparison.LessEqual a b place outer
operate_same binary.GreaterEqual a b place outer = compare_same comparison.GreaterEqual a b place outer
operate_same binary.NotEqual a b place outer = compare_same comparison.NotEqual a b place outer
operate_same binary.Equal a b place outer = compare_same comparison.Equal a b place outer
operate_same binary.Concatenate a b place outer = concat_same a b place outer
operate_same binary.Add a b place outer = arith_same arithmetic.Add a b place outer
operate_same binary.Subtract a b place outer = arith_same arithmetic.Subtract a b place outer
operate_same binary.Multiply a b place outer = arith_same arithmetic.Multiply a b place outer
operate_same binary.Divide a b place outer = arith_same arithmetic.Divide a b place outer
operate_same binary.Modulo a b place outer = arith_same arithmetic.Remainder a b place outer
operate_same binary.Power a b place outer = arith_same arithmetic.Power a b place outer
operate_same binary.Or a b place outer = give_same values.Nil
operate_same binary.And a b place outer = give_same values.Nil
operate_same binary.ShiftLeft a b place outer = give_same values.Nil
operate_same binary.ShiftRight a b place outer = give_same values.Nil

pub binary_plan_same : {two : Two} (op : BinaryOperator) (left right : NodeId) (place : Place) (scope : Scope)
    → SameUse two left → SameUse two right
    → Same two (binary_plan two.items op left right place scope) (binary_plan two.other op left right place scope)
binary_plan_same binary.And left right place scope p q =
    value_same left scope p (λ v. if_same (is_true v) (value_same right scope q (λ w. give_same w)) (give_same v))
binary_plan_same binary.Or left right place scope p q =
    value_same left scope p (λ v. if_same (is_true v) (give_same v) (value_same right scope q (λ w. give_same w)))
binary_plan_same op left right place scope p q =
    value_same left scope p (λ a. value_same right scope q (λ b. operate_same op a b place scope.call))

unary_at_same : {two : Two} (op : UnaryOperator) (v : Value) (place : Place) (outer : Option Place)
    → Same two (unary_at two.items op v place outer) (unary_at two.other op v place outer)
unary_at_same unary.Not v place outer = end_same _
unary_at_same unary.Length v place outer = length_plan_same v place
unary_at_same unary.Negate v place outer = minus_same v place outer
unary_at_same unary.Address v place outer =
    ask_library_same library.PointerType (v ∷ []) place outer (λ r. on_one_same r (λ w. give_same w))
unary_at_same unary.Dereference v place outer = give_same values.Nil

pub unary_plan_same : {two : Two} (op : UnaryOperator) (operand : NodeId) (place : Place) (scope : Scope) → SameUse two operand
    → Same two (unary_plan two.items op operand place scope) (unary_plan two.other op operand place scope)
unary_plan_same op operand place scope p = value_same operand scope p (λ v. unary_at_same op v place scope.call)
