-- The code of an operator keeps within its weight.
use Rattle.std.proofs.Common.{ℕ, ◌≤◌, Bool, true, false, List, length, Option, Some, None, arith}
use Rattle.std.specs.Prelude.{if◌then◌else◌, ◌&&◌, nat_eq}
use Rattle.std.proofs.lemmas.List.{length-append}
use Rattle.rv_isa.specs.declared.instr.Instr.{Instr}
use Rattle.rv_isa.specs.declared.operation.RegisterWordOp.{RegisterWordOp}
use Rattle.rv_isa.specs.declared.operand.Register.{Register}
use Rattle.terra_words.specs.declared.words.Width.{Width}
use Rattle.terra_words.specs.declared.words.BinaryOperator.{BinaryOperator}
use Rattle.terra_words.specs.declared.words.BinaryOperator.TheVariants.{Add, Subtract, Multiply, Divide, Modulo, Xor, And, Or, ShiftLeft}
use Rattle.terra_words.specs.declared.words.BinaryOperator.TheVariants.{ShiftRight, Equal, NotEqual, Less, LessEqual, Greater, GreaterEqual}
use Rattle.tac_form.specs.Weights.{operator_words}
use Rattle.rv_operators.specs.Codes.{code_of, cut, in_one, in_parts, operation, word_operation}
use Rattle.rv_operators.proofs.Short.{code-short, cut-short}

either-count : (b : Bool) (x y : List Instr) (n : ℕ) → length x ≤ n → length y ≤ n → length (if b then x else y) ≤ n
either-count true x y n h k = h
either-count false x y n h k = k

one-count : (d a b : Register) (o : Option RegisterWordOp) (other : List Instr) → length other ≤ 3 → length (in_one d a b o other) ≤ 3
one-count d a b (Some op) other h = omega arith
one-count d a b None other h = h

-- an operation of one instruction, and the cut of its result
cut-count : (d a b : Register) (w : Width) (op : BinaryOperator) → length (operation d a b w op) ≤ 1 →
    length (if w.signed && nat_eq w.bits 32 then in_one d a b (word_operation op) (in_parts d a b w op) else in_parts d a b w op) ≤ 3
cut-count d a b w op h =
    let parts : length (in_parts d a b w op) ≤ 3 = omega (arith, h, length-append (operation d a b w op) (cut d w), (cut-short d w).short) in
    either-count (w.signed && nat_eq w.bits 32) (in_one d a b (word_operation op) (in_parts d a b w op)) (in_parts d a b w op) 3
    (one-count d a b (word_operation op) (in_parts d a b w op) parts) parts

pub operator-count : (d a b : Register) (w : Width) (op : BinaryOperator) → length (code_of d a b w op) ≤ operator_words op
operator-count d a b w Add = omega (arith, cut-count d a b w Add (omega arith))
operator-count d a b w Subtract = omega (arith, cut-count d a b w Subtract (omega arith))
operator-count d a b w Multiply = omega (arith, cut-count d a b w Multiply (omega arith))
operator-count d a b w Divide = omega (arith, cut-count d a b w Divide (omega arith))
operator-count d a b w Modulo = omega (arith, cut-count d a b w Modulo (omega arith))
operator-count d a b w Xor = omega (arith, cut-count d a b w Xor (omega arith))
operator-count d a b w And = omega (arith, cut-count d a b w And (omega arith))
operator-count d a b w Or = omega (arith, cut-count d a b w Or (omega arith))
operator-count d a b w ShiftLeft = (code-short d a b w ShiftLeft).short
operator-count d a b w ShiftRight = (code-short d a b w ShiftRight).short
operator-count d a b w Equal = omega arith
operator-count d a b w NotEqual = omega arith
operator-count d a b w Less = omega arith
operator-count d a b w LessEqual = omega arith
operator-count d a b w Greater = omega arith
operator-count d a b w GreaterEqual = omega arith
