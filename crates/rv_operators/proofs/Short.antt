-- How long the sequences are, and that they are straight.
use Rattle.std.proofs.Common.{ℕ, ◌+◌, ◌≤◌, Bool, true, false, ◌&&◌, List, ◌++◌, length, Option, Some, None, refl, lit≤, arith}
use Rattle.std.specs.Prelude.{if◌then◌else◌, nat_eq}
use Rattle.std.proofs.lemmas.List.{length-append}
use Rattle.rv_isa.specs.declared.instr.Instr.{Instr}
use Rattle.rv_isa.specs.declared.operation.RegisterWordOp.{RegisterWordOp}
use Rattle.rv_isa.specs.declared.operand.Register.{Register}
use Rattle.terra_words.specs.declared.words.Width.{Width}
use Rattle.terra_words.specs.declared.words.BinaryOperator.{BinaryOperator}
use Rattle.terra_words.specs.declared.words.BinaryOperator.TheVariants.{Add, Subtract, Multiply, Divide, Modulo, Xor, And, Or, ShiftLeft}
use Rattle.terra_words.specs.declared.words.BinaryOperator.TheVariants.{ShiftRight, Equal, NotEqual, Less, LessEqual, Greater, GreaterEqual}
use Rattle.rv_operators.specs.Runs.{AreStraight}
use Rattle.rv_operators.specs.Codes.{counted, operation, is_comparison, cut, word_operation, in_one, in_parts, code_of}
use Rattle.rv_operators.proofs.Runs.{straight-both}

-- code of at most so many instructions, all straight
pub record Short (n : ℕ) (code : List Instr) : Type 0 where
  pub short : length code ≤ n
  pub straight : AreStraight code

either-short : (b : Bool) (n : ℕ) (x y : List Instr) → Short n x → Short n y → Short n (if b then x else y)
either-short true n x y h k = h
either-short false n x y h k = k

both-short : (n m : ℕ) (x y : List Instr) → Short n x → Short m y → Short (n + m) (x ++ y)
both-short n m x y h k = record {
  short = omega (arith, length-append x y, h.short, k.short);
  straight = straight-both x y h.straight k.straight;
}

longer : (n m : ℕ) (x : List Instr) → n ≤ m → Short n x → Short m x
longer n m x l h = record { short = omega (arith, h.short); straight = h.straight }

counted-short : (bits : ℕ) (b : Register) → Short 1 (counted bits b)
counted-short bits b = either-short (nat_eq bits 64) 1 _ _ (record { short = lit≤ tt; straight = refl }) (record { short = lit≤ tt; straight = refl })

pub cut-short : (d : Register) (w : Width) → Short 2 (cut d w)
cut-short d w =
    either-short (nat_eq w.bits 64) 2 _ _ (record { short = lit≤ tt; straight = refl })
    (either-short (w.signed && nat_eq w.bits 32) 2 _ _ (record { short = lit≤ tt; straight = refl }) (record { short = lit≤ tt; straight = refl }))

operation-short : (d a b : Register) (w : Width) (op : BinaryOperator) → Short 2 (operation d a b w op)
operation-short d a b w ShiftLeft = both-short 1 1 (counted w.bits b) _ (counted-short w.bits b) (record { short = lit≤ tt; straight = refl })
operation-short d a b w ShiftRight = both-short 1 1 (counted w.bits b) _ (counted-short w.bits b) (record { short = lit≤ tt; straight = refl })
operation-short d a b w Add = record { short = lit≤ tt; straight = refl }
operation-short d a b w Subtract = record { short = lit≤ tt; straight = refl }
operation-short d a b w Multiply = record { short = lit≤ tt; straight = refl }
operation-short d a b w Divide = record { short = lit≤ tt; straight = refl }
operation-short d a b w Modulo = record { short = lit≤ tt; straight = refl }
operation-short d a b w Xor = record { short = lit≤ tt; straight = refl }
operation-short d a b w And = record { short = lit≤ tt; straight = refl }
operation-short d a b w Or = record { short = lit≤ tt; straight = refl }
operation-short d a b w Equal = record { short = lit≤ tt; straight = refl }
operation-short d a b w NotEqual = record { short = lit≤ tt; straight = refl }
operation-short d a b w Less = record { short = lit≤ tt; straight = refl }
operation-short d a b w LessEqual = record { short = lit≤ tt; straight = refl }
operation-short d a b w Greater = record { short = lit≤ tt; straight = refl }
operation-short d a b w GreaterEqual = record { short = lit≤ tt; straight = refl }

one-short : (d a b : Register) (o : Option RegisterWordOp) (other : List Instr) → Short 4 other → Short 4 (in_one d a b o other)
one-short d a b (Some op) other h = record { short = lit≤ tt; straight = refl }
one-short d a b None other h = h

pub code-short : (d a b : Register) (w : Width) (op : BinaryOperator) → Short 4 (code_of d a b w op)
code-short d a b w op =
    let parts : Short 4 (in_parts d a b w op) = both-short 2 2 (operation d a b w op) (cut d w) (operation-short d a b w op) (cut-short d w) in
    either-short (is_comparison op) 4 _ _ (longer 2 4 (operation d a b w op) (lit≤ tt) (operation-short d a b w op))
    (either-short (w.signed && nat_eq w.bits 32) 4 _ _ (one-short d a b (word_operation op) (in_parts d a b w op) parts) parts)
