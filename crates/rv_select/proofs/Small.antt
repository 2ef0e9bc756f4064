-- What operators give has 64 bits.
use Rattle.std.proofs.Common.{ℕ, ◌≡◌, ◌+◌, ◌-◌, ◌%◌, ◌^◌, ◌<◌, Bool, true, false, ◌&&◌, arith}
use Rattle.std.specs.Prelude.{if◌then◌else◌, nat_le}
use Rattle.terra_words.specs.declared.words.Width.{Width}
use Rattle.terra_words.specs.declared.words.BinaryOperator.{BinaryOperator}
use Rattle.terra_words.specs.declared.words.BinaryOperator.TheVariants.{Add, Subtract, Multiply, Divide, Modulo, Xor, And, Or, ShiftLeft}
use Rattle.terra_words.specs.declared.words.BinaryOperator.TheVariants.{ShiftRight, Equal, NotEqual, Less, LessEqual, Greater, GreaterEqual}
use Rattle.terra_words.specs.Words.{wrapped, applied, flag}
use Rattle.rv_operators.specs.Codes.{is_width}
use Rattle.rv_operators.proofs.Cuts.{by-width}

either-small : (b : Bool) (m n : ℕ) → m < 2 ^ 64 → n < 2 ^ 64 → (if b then m else n) < 2 ^ 64
either-small true m n h k = h
either-small false m n h k = k

pub wrapped-small : (w : Width) (n : ℕ) → is_width w.bits ≡ true → wrapped w n < 2 ^ 64
unfolding wrapped
wrapped-small w n e =
    by-width w.bits (λ b. (if w.signed && nat_le (2 ^ (b - 1)) (n % 2 ^ b) then n % 2 ^ b + (2 ^ 64 - 2 ^ b) else n % 2 ^ b) < 2 ^ 64) e
    (either-small (w.signed && nat_le (2 ^ 63) (n % 2 ^ 64)) _ _ (omega arith) (omega arith))
    (either-small (w.signed && nat_le (2 ^ 31) (n % 2 ^ 32)) _ _ (omega arith) (omega arith))
    (either-small (w.signed && nat_le (2 ^ 15) (n % 2 ^ 16)) _ _ (omega arith) (omega arith))
    (either-small (w.signed && nat_le (2 ^ 7) (n % 2 ^ 8)) _ _ (omega arith) (omega arith))
    (either-small (w.signed && nat_le (2 ^ 0) (n % 2 ^ 1)) _ _ (omega arith) (omega arith))

flag-small : (b : Bool) → flag b < 2 ^ 64
flag-small b = either-small b 1 0 (omega arith) (omega arith)

pub applied-small : (w : Width) (op : BinaryOperator) (x y : ℕ) → is_width w.bits ≡ true → applied w op x y < 2 ^ 64
unfolding applied
applied-small w Add x y e = wrapped-small w _ e
applied-small w Subtract x y e = wrapped-small w _ e
applied-small w Multiply x y e = wrapped-small w _ e
applied-small w Divide x y e = wrapped-small w _ e
applied-small w Modulo x y e = wrapped-small w _ e
applied-small w Xor x y e = wrapped-small w _ e
applied-small w And x y e = wrapped-small w _ e
applied-small w Or x y e = wrapped-small w _ e
applied-small w ShiftLeft x y e = wrapped-small w _ e
applied-small w ShiftRight x y e = wrapped-small w _ e
applied-small w Equal x y e = flag-small _
applied-small w NotEqual x y e = flag-small _
applied-small w Less x y e = flag-small _
applied-small w LessEqual x y e = flag-small _
applied-small w Greater x y e = flag-small _
applied-small w GreaterEqual x y e = flag-small _
