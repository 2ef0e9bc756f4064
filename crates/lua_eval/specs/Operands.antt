-- The operands of an operator, which has one or two, and what an operator does with two.
use Rattle.std.specs.Prelude.{List, [], ◌∷◌, Option, Some, None}
use Rattle.tl_base.specs.declared.place.Place.{Place}
use Rattle.tl_tree.specs.declared.node.BinaryOperator.{BinaryOperator}
use Rattle.tl_tree.specs.declared.node.BinaryOperator.TheVariants as binary
use Rattle.tl_tree.specs.Code.{Items}
use Rattle.lua_value.specs.declared.library.LibFn.TheVariants.{FunctionType}
use Rattle.lua_value.specs.declared.value.Value.{Value}
use Rattle.lua_value.specs.declared.value.Value.TheVariants.{Nil}
use Rattle.lua_ops.specs.declared.operator.Arithmetic.TheVariants as arithmetic
use Rattle.lua_ops.specs.declared.operator.Comparison.TheVariants as comparison
use Rattle.lua_model.specs.Plans.{LuaPlan, give, on_one}
use Rattle.lua_model.specs.Calls.{ask_library}
use Rattle.lua_model.specs.Operators.{arith, compare, concat}
use Rattle.lua_eval.specs.declared.operators.Operation.{Operation}
use Rattle.lua_eval.specs.declared.operators.Operation.TheVariants.{Calculates, Compares, Joins, MakesType, Nothing}

abbrev pub operands_in : Value → Option Value → List Value
operands_in a (Some b) = a ∷ b ∷ []
operands_in a None = a ∷ []

abbrev pub operation_of : BinaryOperator → Operation
operation_of binary.Arrow = MakesType
operation_of binary.Less = Compares comparison.Less
operation_of binary.Greater = Compares comparison.Greater
operation_of binary.LessEqual = Compares comparison.LessEqual
operation_of binary.GreaterEqual = Compares comparison.GreaterEqual
operation_of binary.NotEqual = Compares comparison.NotEqual
operation_of binary.Equal = Compares comparison.Equal
operation_of binary.Concatenate = Joins
operation_of binary.Add = Calculates arithmetic.Add
operation_of binary.Subtract = Calculates arithmetic.Subtract
operation_of binary.Multiply = Calculates arithmetic.Multiply
operation_of binary.Divide = Calculates arithmetic.Divide
operation_of binary.Modulo = Calculates arithmetic.Remainder
operation_of binary.Power = Calculates arithmetic.Power
operation_of binary.Or = Nothing
operation_of binary.And = Nothing
operation_of binary.ShiftLeft = Nothing
operation_of binary.ShiftRight = Nothing

abbrev pub operate_by : Items → Operation → Value → Value → Place → Option Place → LuaPlan
operate_by items (Calculates op) a b place outer = arith items op a b place outer
operate_by items (Compares op) a b place outer = compare items op a b place outer
operate_by items Joins a b place outer = concat items a b place outer
operate_by items MakesType a b place outer = ask_library FunctionType (a ∷ b ∷ []) place outer (λ r. on_one r give)
operate_by items Nothing a b place outer = give Nil
