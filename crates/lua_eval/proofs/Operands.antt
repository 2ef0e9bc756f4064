-- Operands of handlers.
use Rattle.std.proofs.Common.{◌≡◌, Bool, true, false, [], ◌∷◌, refl, Option}
use Rattle.std.specs.Prelude.{Result, Ok, if◌then◌else◌}
use Rattle.tl_base.specs.declared.memory.NoMemory.{NoMemory}
use Rattle.lua_value.specs.declared.value.Value.{Value}
use Rattle.lua_value.specs.declared.value.Value.TheVariants as values
use Rattle.lua_value.specs.Values.{kind_of}
use Rattle.tl_base.specs.declared.place.Place.{Place}
use Rattle.tl_base.specs.declared.ids.TextId.{TextId}
use Rattle.tl_base.specs.declared.ids.TableId.{TableId}
use Rattle.tl_tree.specs.declared.node.BinaryOperator.{BinaryOperator}
use Rattle.tl_tree.specs.declared.node.BinaryOperator.TheVariants as binary
use Rattle.tl_tree.specs.Code.{Items}
use Rattle.lua_ops.specs.declared.fault.Fault.TheVariants.{Length}
use Rattle.lua_ops.specs.declared.outcome.Outcome.{Outcome}
use Rattle.lua_model.specs.Plans.{raise}
use Rattle.lua_model.specs.Operators.{turned, operate, length_plan}
use Rattle.lua_eval.specs.Operands.{operation_of, operate_by}

-- one operand is the same the other way round
pub alone_either : (swapped : Bool) (a : Value) → (if swapped then turned (a ∷ []) else a ∷ []) ≡ a ∷ []
alone_either true a = refl
alone_either false a = refl

-- an operator, by what it does
pub operate_is : (items : Items) (op : BinaryOperator) (a b : Value) (place : Place) (outer : Option Place)
    → operate items op a b place outer ≡ operate_by items (operation_of op) a b place outer
operate_is items binary.Arrow a b place outer = refl
operate_is items binary.Less a b place outer = refl
operate_is items binary.Greater a b place outer = refl
operate_is items binary.LessEqual a b place outer = refl
operate_is items binary.GreaterEqual a b place outer = refl
operate_is items binary.NotEqual a b place outer = refl
operate_is items binary.Equal a b place outer = refl
operate_is items binary.Concatenate a b place outer = refl
operate_is items binary.Add a b place outer = refl
operate_is items binary.Subtract a b place outer = refl
operate_is items binary.Multiply a b place outer = refl
operate_is items binary.Divide a b place outer = refl
operate_is items binary.Modulo a b place outer = refl
operate_is items binary.Power a b place outer = refl
operate_is items binary.Or a b place outer = refl
operate_is items binary.And a b place outer = refl
operate_is items binary.ShiftLeft a b place outer = refl
operate_is items binary.ShiftRight a b place outer = refl

-- what has no length
pub no_length : (v : Value) (place : Place) → ((t : TextId) → v ≡ values.Text t → ⊥) → ((t : TableId) → v ≡ values.Table t → ⊥)
    → length_plan v place ≡ raise place (Length (kind_of v))
no_length (values.Text t) place not_text not_table = absurd (not_text t refl)
no_length (values.Table t) place not_text not_table = absurd (not_table t refl)
no_length v place not_text not_table = refl

-- what stands in an `Ok`
pub value_is : (o p : Outcome) → ◌≡◌ {A = Result Outcome NoMemory} (Ok o) (Ok p) → o ≡ p
value_is o p e = cc
