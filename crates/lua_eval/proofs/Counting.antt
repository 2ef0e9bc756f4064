-- The numbers of a numeric `for`, and the operators that choose by themselves.
use Rattle.std.proofs.Common.{◌≡◌, ℕ, ℤ, List, [], refl, sym, ap, ◌∙◌}
use Rattle.std.specs.Prelude.{Result, Ok, Err}
use Rattle.tl_base.specs.declared.ids.NodeId.{NodeId}
use Rattle.tl_base.specs.declared.place.Place.{Place}
use Rattle.tl_tree.specs.declared.node.BinaryOperator.{BinaryOperator}
use Rattle.tl_tree.specs.declared.node.BinaryOperator.TheVariants as binary
use Rattle.tl_tree.specs.Code.{Items}
use Rattle.lua_value.specs.declared.value.Value.{Value}
use Rattle.lua_ops.specs.declared.fault.Fault.{Fault}
use Rattle.lua_ops.specs.declared.fault.Fault.TheVariants as faults
use Rattle.lua_model.specs.declared.scope.Scope.{Scope}
use Rattle.lua_model.specs.Plans.{LuaPlan, value_of, raise}
use Rattle.lua_model.specs.Operators.{operate, binary_plan}
use Rattle.lua_model.specs.Loops.{on_number, count}
use Rattle.lua_ops.specs.Outcomes.{operand}
use Rattle.lua_table.specs.LuaState.{LuaState}
use Rattle.lua_eval.specs.declared.frame.LuaFrame.{LuaFrame}
use Rattle.lua_eval.specs.Frames.{with_left, first_count}
use Rattle.lua_eval.specs.Steps.{LuaStep, Goes}
use Rattle.lua_eval.proofs.Below.{moved}
use Rattle.lua_eval.specs.Numbers.{numbers_in}

abbrev pub by_numbers : Result (ℤ × ℤ × ℤ) Fault → Place → (ℤ → ℤ → ℤ → LuaPlan) → LuaPlan
by_numbers (Ok all) place go = go all.0 all.1 all.2
by_numbers (Err fault) place go = raise place fault

-- all three numbers, or the first fault
pub numbers_are : (first limit step : Result ℤ Fault) (place : Place) (go : ℤ → ℤ → ℤ → LuaPlan)
    → on_number first faults.ForInitial place (λ i. on_number limit faults.ForLimit place (λ l.
    on_number step faults.ForStep place (λ d. go i l d)))
    ≡ by_numbers (numbers_in first limit step) place go
numbers_are (Ok i) (Ok l) (Ok d) place go = refl
numbers_are (Ok i) (Ok l) (Err fault) place go = refl
numbers_are (Ok i) (Err fault) step place go = refl
numbers_are (Err fault) limit step place go = refl

-- an operator that evaluates both operands
pub left_other : (items : Items) (op : BinaryOperator) (right : NodeId) (place : Place) (scope : Scope) (v : Value)
    → (op ≡ binary.And → ⊥) → (op ≡ binary.Or → ⊥)
    → with_left items op right place scope v ≡ value_of right scope (λ b. operate items op v b place scope.call)
left_other items binary.And right place scope v not_and not_or = absurd (not_and refl)
left_other items binary.Or right place scope v not_and not_or = absurd (not_or refl)
left_other items op right place scope v not_and not_or = refl

-- an operator between two expressions goes on with the left one's value
pub binary_is : (items : Items) (op : BinaryOperator) (left right : NodeId) (place : Place) (scope : Scope)
    → binary_plan items op left right place scope ≡ value_of left scope (λ v. with_left items op right place scope v)
binary_is items binary.And left right place scope = refl
binary_is items binary.Or left right place scope = refl
binary_is items op left right place scope = refl

-- the first turn of a numeric `for`, by what its three values are
pub first_count_goes : (items : Items) (fs fs2 : List LuaFrame) (n : NodeId) (a b c : Value) (place : Place) (scope : Scope)
    (s s2 : LuaState) (left left2 : ℕ) (step : LuaStep) (found : Result (ℤ × ℤ × ℤ) Fault)
    → found ≡ numbers_in (operand s a) (operand s b) (operand s c)
    → Goes items fs (by_numbers found place (λ i l d. count n scope i l d [])) s left fs2 step s2 left2
    → Goes items fs (first_count n a b c place scope) s left fs2 step s2 left2
first_count_goes items fs fs2 n a b c place scope s s2 left left2 step found found_is g =
    let go : ℤ → ℤ → ℤ → LuaPlan = λ i l d. count n scope i l d [] in
    moved items fs fs2
    (on_number (operand s a) faults.ForInitial place (λ i. on_number (operand s b) faults.ForLimit place (λ l.
    on_number (operand s c) faults.ForStep place (λ d. go i l d))))
    (by_numbers found place go) s s s2 left left2 step
    (numbers_are (operand s a) (operand s b) (operand s c) place go
    ∙ ap (λ (f : Result (ℤ × ℤ × ℤ) Fault). by_numbers f place go) (sym found_is)) refl g
