-- Words of a width as they stand in 64 bits. Where an operator of 64 bits stays within the width, what it gives of them is what the
-- width's own operator gives.
use Rattle.std.proofs.Common.{◌≡◌, ℕ, ◌+◌, ◌<◌, ◌≤◌, Bool, true, false, refl, sym, ap, ◌∙◌, subst, arith}
use Rattle.std.specs.Prelude.{◌^◌, ◌-◌, ◌*◌, ◌/◌, ◌%◌, ◌⊎◌, nat_lt, nat_le, if◌then◌else◌, bit_and, bit_or, bit_xor}
use mathlib.Core.Logic.{inl, inr}
use Rattle.std.specs.Int.Bits.{and_self, and_zero_l, and_zero_r, or_self, or_zero_l, or_zero_r, xor_self, xor_zero_l, xor_zero_r}
use Rattle.std.specs.Int.Bits.{xor_add_and}
use Rattle.std.proofs.lemmas.Bool.{leb-true, leb-false, ltb-true}
use Rattle.std.proofs.lemmas.Nat.{and_le_l, and_mask, and_shr, or_lt, or_shr, xor_lt, xor_shr}
use Rattle.std.proofs.Math.Nat.{div-le_self, mod-le}
use Rattle.terra_words.specs.declared.words.BinaryOperator.{BinaryOperator}
use Rattle.terra_words.specs.declared.words.BinaryOperator.TheVariants as operators
use Rattle.terra_words.specs.Words.{wrapped, applied, complemented, is_negative}
use Rattle.tac_form.specs.declared.tac.Size.{Size}
use Rattle.tac_form.specs.declared.tac.Size.TheVariants.{One, Two, Four, Eight}
use Rattle.tac_form.specs.declared.tac.Number.{Number}
use Rattle.tac_form.specs.declared.tac.Operand.{Operand}
use Rattle.tac_form.specs.declared.tac.Operand.TheVariants.{Temp, Constant}
use Rattle.tac_form.specs.Flow as flow
use Rattle.tac_form.specs.Flow.{bytes_of}
use Rattle.tac_lower.specs.Pieces.{long}
use Rattle.tac_lower.specs.Lowering.{form_of, turned_form}
use Rattle.tac_lower.specs.Needs.{joins_bits}
use Rattle.tac_lower.proofs.Typing.{signed_low, signed-fits}

abbrev number : Bool → Size → Number
number signed size = record { signed = signed; size = size }

-- the words of numbers from -half to half - 1, as numbers below a limit: 2 ^ 64, or one more, which has the same low bits as 0
abbrev Signed : (half limit x : ℕ) → Type 0
Signed half limit x = (x < half) ⊎ ((2 ^ 64 - half ≤ x) × (x < limit))

-- the words of a form of fewer bytes than a word
abbrev Lies : (limit : ℕ) → Bool → Size → ℕ → Type 0
Lies limit signed Eight x = Unit {0}
Lies limit false One x = x < 2 ^ 8
Lies limit false Two x = x < 2 ^ 16
Lies limit false Four x = x < 2 ^ 32
Lies limit true One x = Signed (2 ^ 7) limit x
Lies limit true Two x = Signed (2 ^ 15) limit x
Lies limit true Four x = Signed (2 ^ 31) limit x

abbrev pub IsWord : Number → ℕ → Type 0
IsWord form x = Lies (2 ^ 64) form.signed form.size x

abbrev Stays : Bool → Size → ℕ → Type 0
Stays signed size x = Lies (2 ^ 64 + 1) signed size x

-- what is its own word lies so

signed-word : (half low x : ℕ) → half + half ≤ 2 ^ 64 → low < half + half → signed_low half (2 ^ 64 - (half + half)) low ≡ x →
    Signed half (2 ^ 64) x
signed-word half low x small lt e = by (nat_le half low) refl e
  where
    by : (b : Bool) → nat_le half low ≡ b → (if b then low + (2 ^ 64 - (half + half)) else low) ≡ x → Signed half (2 ^ 64) x
    by true h e = let le = leb-true half low h in inr (omega (arith, le, e, small, lt), omega (arith, e, small, lt))
    by false h e = let below = leb-false half low h in inl (omega (arith, below, e))

pub is-word : (form : Number) (x : ℕ) → wrapped (flow.width_of form) x ≡ x → IsWord form x
unfolding wrapped
is-word form x e = by form.signed form.size e
  where
    by : (signed : Bool) (size : Size) → wrapped (flow.width_of (number signed size)) x ≡ x → Lies (2 ^ 64) signed size x
    by signed Eight e = tt
    by false One e = omega (arith, e)
    by false Two e = omega (arith, e)
    by false Four e = omega (arith, e)
    by true One e = signed-word (2 ^ 7) (x % 2 ^ 8) x (omega arith) (omega arith) e
    by true Two e = signed-word (2 ^ 15) (x % 2 ^ 16) x (omega arith) (omega arith) e
    by true Four e = signed-word (2 ^ 31) (x % 2 ^ 32) x (omega arith) (omega arith) e

-- a number that lies so has the same word of 64 bits

low-64 : (x : ℕ) → signed_low (2 ^ 63) 0 (x % 2 ^ 64) ≡ x % 2 ^ 64
low-64 x = signed-fits (2 ^ 63) 0 (x % 2 ^ 64) (x % 2 ^ 64) (λ h. omega arith) (λ h. refl)

same-word : (signed : Bool) (size : Size) (x : ℕ) → Stays signed size x →
    wrapped (flow.width_of (long signed)) x ≡ wrapped (flow.width_of (number signed size)) x
unfolding wrapped
same-word signed Eight x h = refl
same-word false One x h = omega (arith, h)
same-word false Two x h = omega (arith, h)
same-word false Four x h = omega (arith, h)
same-word true One x h = low-64 x ∙ sym (by h)
  where
    by : Signed (2 ^ 7) (2 ^ 64 + 1) x → signed_low (2 ^ 7) (2 ^ 64 - 2 ^ 8) (x % 2 ^ 8) ≡ x % 2 ^ 64
    by (inl lt) = signed-fits (2 ^ 7) (2 ^ 64 - 2 ^ 8) (x % 2 ^ 8) (x % 2 ^ 64) (λ h. omega (arith, lt, h)) (λ h. omega (arith, lt, h))
    by (inr p) = let a = p.0 in let b = p.1 in
        signed-fits (2 ^ 7) (2 ^ 64 - 2 ^ 8) (x % 2 ^ 8) (x % 2 ^ 64) (λ h. omega (arith, a, b, h)) (λ h. omega (arith, a, b, h))
same-word true Two x h = low-64 x ∙ sym (by h)
  where
    by : Signed (2 ^ 15) (2 ^ 64 + 1) x → signed_low (2 ^ 15) (2 ^ 64 - 2 ^ 16) (x % 2 ^ 16) ≡ x % 2 ^ 64
    by (inl lt) = signed-fits (2 ^ 15) (2 ^ 64 - 2 ^ 16) (x % 2 ^ 16) (x % 2 ^ 64) (λ h. omega (arith, lt, h)) (λ h. omega (arith, lt, h))
    by (inr p) = let a = p.0 in let b = p.1 in
        signed-fits (2 ^ 15) (2 ^ 64 - 2 ^ 16) (x % 2 ^ 16) (x % 2 ^ 64) (λ h. omega (arith, a, b, h)) (λ h. omega (arith, a, b, h))
same-word true Four x h = low-64 x ∙ sym (by h)
  where
    by : Signed (2 ^ 31) (2 ^ 64 + 1) x → signed_low (2 ^ 31) (2 ^ 64 - 2 ^ 32) (x % 2 ^ 32) ≡ x % 2 ^ 64
    by (inl lt) = signed-fits (2 ^ 31) (2 ^ 64 - 2 ^ 32) (x % 2 ^ 32) (x % 2 ^ 64) (λ h. omega (arith, lt, h)) (λ h. omega (arith, lt, h))
    by (inr p) = let a = p.0 in let b = p.1 in
        signed-fits (2 ^ 31) (2 ^ 64 - 2 ^ 32) (x % 2 ^ 32) (x % 2 ^ 64) (λ h. omega (arith, a, b, h)) (λ h. omega (arith, a, b, h))

-- operators on bits: those from the sign on are none or all, before and after

abbrev Even : (all high : ℕ) → Type 0
Even all high = (high ≡ 0) ⊎ (high ≡ all)

record Joins (op : ℕ → ℕ → ℕ) : Type 0 where
  high : (x y k : ℕ) → op x y / 2 ^ k ≡ op (x / 2 ^ k) (y / 2 ^ k)
  even : (all x y : ℕ) → Even all x → Even all y → Even all (op x y)
  small : (k x y : ℕ) → x < 2 ^ k → y < 2 ^ k → op x y < 2 ^ k

and-even : (all x y : ℕ) → Even all x → Even all y → Even all (bit_and x y)
and-even all x y (inl e) h = inl (ap (λ m. bit_and m y) e ∙ and_zero_l y)
and-even all x y (inr e) (inl f) = inl (ap (bit_and x) f ∙ and_zero_r x)
and-even all x y (inr e) (inr f) = inr (ap (λ m. bit_and m y) e ∙ ap (bit_and all) f ∙ and_self all)

or-even : (all x y : ℕ) → Even all x → Even all y → Even all (bit_or x y)
or-even all x y (inl e) (inl f) = inl (ap (λ m. bit_or m y) e ∙ or_zero_l y ∙ f)
or-even all x y (inl e) (inr f) = inr (ap (λ m. bit_or m y) e ∙ or_zero_l y ∙ f)
or-even all x y (inr e) (inl f) = inr (ap (bit_or x) f ∙ or_zero_r x ∙ e)
or-even all x y (inr e) (inr f) = inr (ap (λ m. bit_or m y) e ∙ ap (bit_or all) f ∙ or_self all)

xor-even : (all x y : ℕ) → Even all x → Even all y → Even all (bit_xor x y)
xor-even all x y (inl e) (inl f) = inl (ap (λ m. bit_xor m y) e ∙ xor_zero_l y ∙ f)
xor-even all x y (inl e) (inr f) = inr (ap (λ m. bit_xor m y) e ∙ xor_zero_l y ∙ f)
xor-even all x y (inr e) (inl f) = inr (ap (bit_xor x) f ∙ xor_zero_r x ∙ e)
xor-even all x y (inr e) (inr f) = inl (ap (λ m. bit_xor m y) e ∙ ap (bit_xor all) f ∙ xor_self all)

and-joins : Joins bit_and
and-joins = record { high = and_shr; even = and-even; small = λ k x y a b. let le = and_le_l x y in omega (arith, le, a) }

or-joins : Joins bit_or
or-joins = record { high = or_shr; even = or-even; small = or_lt }

xor-joins : Joins bit_xor
xor-joins = record { high = xor_shr; even = xor-even; small = xor_lt }

high-7 : (x : ℕ) → Signed (2 ^ 7) (2 ^ 64) x → Even (2 ^ 57 - 1) (x / 2 ^ 7)
high-7 x (inl lt) = inl (omega (arith, lt))
high-7 x (inr p) = let a = p.0 in let b = p.1 in inr (omega (arith, a, b))

high-15 : (x : ℕ) → Signed (2 ^ 15) (2 ^ 64) x → Even (2 ^ 49 - 1) (x / 2 ^ 15)
high-15 x (inl lt) = inl (omega (arith, lt))
high-15 x (inr p) = let a = p.0 in let b = p.1 in inr (omega (arith, a, b))

high-31 : (x : ℕ) → Signed (2 ^ 31) (2 ^ 64) x → Even (2 ^ 33 - 1) (x / 2 ^ 31)
high-31 x (inl lt) = inl (omega (arith, lt))
high-31 x (inr p) = let a = p.0 in let b = p.1 in inr (omega (arith, a, b))

from-7 : (x : ℕ) → Even (2 ^ 57 - 1) (x / 2 ^ 7) → Signed (2 ^ 7) (2 ^ 64 + 1) x
from-7 x (inl e) = inl (omega (arith, e))
from-7 x (inr e) = inr (omega (arith, e), omega (arith, e))

from-15 : (x : ℕ) → Even (2 ^ 49 - 1) (x / 2 ^ 15) → Signed (2 ^ 15) (2 ^ 64 + 1) x
from-15 x (inl e) = inl (omega (arith, e))
from-15 x (inr e) = inr (omega (arith, e), omega (arith, e))

from-31 : (x : ℕ) → Even (2 ^ 33 - 1) (x / 2 ^ 31) → Signed (2 ^ 31) (2 ^ 64 + 1) x
from-31 x (inl e) = inl (omega (arith, e))
from-31 x (inr e) = inr (omega (arith, e), omega (arith, e))

joined : (op : ℕ → ℕ → ℕ) → Joins op → (signed : Bool) (size : Size) (x y : ℕ) → Lies (2 ^ 64) signed size x →
    Lies (2 ^ 64) signed size y → Stays signed size (op x y)
joined op j signed Eight x y a b = tt
joined op j false One x y a b = j.small 8 x y a b
joined op j false Two x y a b = j.small 16 x y a b
joined op j false Four x y a b = j.small 32 x y a b
joined op j true One x y a b =
    from-7 (op x y) (subst (λ m. Even (2 ^ 57 - 1) m) (sym (j.high x y 7))
    (j.even (2 ^ 57 - 1) (x / 2 ^ 7) (y / 2 ^ 7) (high-7 x a) (high-7 y b)))
joined op j true Two x y a b =
    from-15 (op x y) (subst (λ m. Even (2 ^ 49 - 1) m) (sym (j.high x y 15))
    (j.even (2 ^ 49 - 1) (x / 2 ^ 15) (y / 2 ^ 15) (high-15 x a) (high-15 y b)))
joined op j true Four x y a b =
    from-31 (op x y) (subst (λ m. Even (2 ^ 33 - 1) m) (sym (j.high x y 31))
    (j.even (2 ^ 33 - 1) (x / 2 ^ 31) (y / 2 ^ 31) (high-31 x a) (high-31 y b)))

-- quotients, remainders and shifts to the right are no further from zero than the first operand

nearer : (size : Size) (x m : ℕ) → m ≤ x → Lies (2 ^ 64) false size x → Stays false size m
nearer Eight x m le h = tt
nearer One x m le h = omega (arith, le, h)
nearer Two x m le h = omega (arith, le, h)
nearer Four x m le h = omega (arith, le, h)

-- a part of the meaning of an operator that goes by the sign
abbrev by_sign : (negative other x : ℕ) → ℕ
by_sign negative other x = if is_negative x then negative else other

signed-nearer : (half x negative other : ℕ) → half ≤ 2 ^ 63 → (2 ^ 63 ≤ x → (x ≤ negative) × (negative ≤ 2 ^ 64)) →
    (x < 2 ^ 63 → other ≤ x) → Signed half (2 ^ 64) x → Signed half (2 ^ 64 + 1) (by_sign negative other x)
signed-nearer half x negative other small n o h = by (is_negative x) refl h
  where
    by : (b : Bool) → is_negative x ≡ b → Signed half (2 ^ 64) x → Signed half (2 ^ 64 + 1) (if b then negative else other)
    by true e (inl lt) = let le = leb-true (2 ^ 63) x e in absurd (omega (arith, le, lt, small))
    by true e (inr p) =
        let q = n (leb-true (2 ^ 63) x e) in let q0 = q.0 in let q1 = q.1 in let a = p.0 in inr (omega (arith, q0, a), omega (arith, q1))
    by false e (inl lt) = let le = o (leb-false (2 ^ 63) x e) in inl (omega (arith, le, lt))
    by false e (inr p) = let below = leb-false (2 ^ 63) x e in let a = p.0 in absurd (omega (arith, below, a, small))

toward : (size : Size) (x negative other : ℕ) → (2 ^ 63 ≤ x → (x ≤ negative) × (negative ≤ 2 ^ 64)) → (x < 2 ^ 63 → other ≤ x) →
    Lies (2 ^ 64) true size x → Stays true size (by_sign negative other x)
toward Eight x negative other n o h = tt
toward One x negative other n o h = signed-nearer (2 ^ 7) x negative other (omega arith) n o h
toward Two x negative other n o h = signed-nearer (2 ^ 15) x negative other (omega arith) n o h
toward Four x negative other n o h = signed-nearer (2 ^ 31) x negative other (omega arith) n o h

abbrev magnitude : ℕ → ℕ
magnitude x = if is_negative x then 2 ^ 64 - x else x

abbrev remainder : Bool → ℕ → ℕ → ℕ
remainder false x y = x % y
remainder true x y = by_sign (2 ^ 64 - magnitude x % magnitude y) (magnitude x % magnitude y) x

magnitude-negative : (x : ℕ) → 2 ^ 63 ≤ x → magnitude x ≡ 2 ^ 64 - x
magnitude-negative x le = by (is_negative x) refl
  where
    by : (b : Bool) → is_negative x ≡ b → (if b then 2 ^ 64 - x else x) ≡ 2 ^ 64 - x
    by true e = refl
    by false e = let lt = leb-false (2 ^ 63) x e in absurd (omega (arith, lt, le))

magnitude-other : (x : ℕ) → x < 2 ^ 63 → magnitude x ≡ x
magnitude-other x lt = by (is_negative x) refl
  where
    by : (b : Bool) → is_negative x ≡ b → (if b then 2 ^ 64 - x else x) ≡ x
    by true e = let le = leb-true (2 ^ 63) x e in absurd (omega (arith, lt, le))
    by false e = refl

remainder-stays : (signed : Bool) (size : Size) (x y : ℕ) → Lies (2 ^ 64) signed size x → x < 2 ^ 64 →
    Stays signed size (remainder signed x y)
remainder-stays false size x y h lt = nearer size x (x % y) (mod-le x y) h
remainder-stays true size x y h lt =
    let le = mod-le (magnitude x) (magnitude y) in
    toward size x (2 ^ 64 - magnitude x % magnitude y) (magnitude x % magnitude y)
    (λ n. let e = magnitude-negative x n in (omega (arith, le, e, lt), omega arith))
    (λ o. let e = magnitude-other x o in omega (arith, le, e)) h

abbrev shifted : Bool → ℕ → ℕ → ℕ
shifted false x n = x / 2 ^ n
shifted true x n = by_sign (2 ^ 64 - 1 - (2 ^ 64 - 1 - x) / 2 ^ n) (x / 2 ^ n) x

shifted-stays : (signed : Bool) (size : Size) (x n : ℕ) → Lies (2 ^ 64) signed size x → x < 2 ^ 64 → Stays signed size (shifted signed x n)
shifted-stays false size x n h lt = nearer size x (x / 2 ^ n) (div-le_self x (2 ^ n)) h
shifted-stays true size x n h lt =
    let le = div-le_self (2 ^ 64 - 1 - x) (2 ^ n) in
    toward size x (2 ^ 64 - 1 - (2 ^ 64 - 1 - x) / 2 ^ n) (x / 2 ^ n) (λ h. (omega (arith, le, lt), omega arith))
    (λ h. div-le_self x (2 ^ n)) h

-- a count below the bits of a form is the same in them and in 64
same-count : (size : Size) (n : ℕ) → n < 8 * bytes_of size → n % 64 ≡ n % (8 * bytes_of size)
same-count One n lt = omega (arith, lt)
same-count Two n lt = omega (arith, lt)
same-count Four n lt = omega (arith, lt)
same-count Eight n lt = refl

quotient-same : (signed : Bool) (size : Size) (y : Operand) (x d : ℕ) → Lies (2 ^ 64) signed size x →
    applied (flow.width_of (form_of operators.Divide (number signed size) y)) operators.Divide x d
    ≡ applied (flow.width_of (number signed size)) operators.Divide x d
unfolding applied
quotient-same true size y x d h = refl
quotient-same false size y x d h = same-word false size (x / d) (nearer size x (x / d) (div-le_self x d) h)

remainder-same : (signed : Bool) (size : Size) (y : Operand) (x d : ℕ) → Lies (2 ^ 64) signed size x → x < 2 ^ 64 →
    applied (flow.width_of (form_of operators.Modulo (number signed size) y)) operators.Modulo x d
    ≡ applied (flow.width_of (number signed size)) operators.Modulo x d
unfolding applied
remainder-same true size y x d h lt = same-word true size (remainder true x d) (remainder-stays true size x d h lt)
remainder-same false size y x d h lt = same-word false size (remainder false x d) (remainder-stays false size x d h lt)

shift-same : (signed : Bool) (size : Size) (y : Operand) (x n : ℕ) → Lies (2 ^ 64) signed size x → x < 2 ^ 64 →
    ((c : ℕ) → y ≡ Constant c → c ≡ n) →
    applied (flow.width_of (form_of operators.ShiftRight (number signed size) y)) operators.ShiftRight x n
    ≡ applied (flow.width_of (number signed size)) operators.ShiftRight x n
unfolding applied
shift-same signed size (Temp t) x n h lt told = refl
shift-same signed size (Constant c) x n h lt told = by (nat_lt c (8 * bytes_of size)) refl
  where
    count : c < 8 * bytes_of size → n % 64 ≡ n % (8 * bytes_of size)
    count below = same-count size n (subst (λ m. m < 8 * bytes_of size) (told c refl) below)

    either : (b : Bool) (a : ℕ) → a ≡ n % (8 * bytes_of size) → Lies (2 ^ 64) b size x →
        wrapped (flow.width_of (long b)) (shifted b x a) ≡ wrapped (flow.width_of (number b size)) (shifted b x (n % (8 * bytes_of size)))
    either b a e g =
        ap (λ m. wrapped (flow.width_of (long b)) (shifted b x m)) e
        ∙ same-word b size (shifted b x (n % (8 * bytes_of size))) (shifted-stays b size x (n % (8 * bytes_of size)) g lt)

    sides : (b : Bool) → c < 8 * bytes_of size → Lies (2 ^ 64) b size x →
        applied (flow.width_of (long b)) operators.ShiftRight x n ≡ applied (flow.width_of (number b size)) operators.ShiftRight x n
    sides true below g = either true (n % 64) (count below) g
    sides false below g = either false (n % 64) (count below) g

    by : (b : Bool) → nat_lt c (8 * bytes_of size) ≡ b →
        applied (flow.width_of (if b then long signed else number signed size)) operators.ShiftRight x n
        ≡ applied (flow.width_of (number signed size)) operators.ShiftRight x n
    by true e = sides signed (ltb-true c (8 * bytes_of size) e) h
    by false e = refl

-- An operator that stays within a width gives the same as one of 64 bits. Its second operand is this, if a constant.
pub same-as-long : (op : BinaryOperator) (form : Number) (operand : Operand) (x y : ℕ) → IsWord form x → x < 2 ^ 64 →
    (joins_bits op ≡ true → IsWord form y) → ((c : ℕ) → operand ≡ Constant c → c ≡ y) →
    applied (flow.width_of (form_of op form operand)) op x y ≡ applied (flow.width_of form) op x y
unfolding applied
same-as-long operators.And form operand x y a lt b told =
    same-word form.signed form.size (bit_and x y) (joined bit_and and-joins form.signed form.size x y a (b refl))
same-as-long operators.Or form operand x y a lt b told =
    same-word form.signed form.size (bit_or x y) (joined bit_or or-joins form.signed form.size x y a (b refl))
same-as-long operators.Xor form operand x y a lt b told =
    same-word form.signed form.size (bit_xor x y) (joined bit_xor xor-joins form.signed form.size x y a (b refl))
same-as-long operators.Divide form operand x y a lt b told = quotient-same form.signed form.size operand x y a
same-as-long operators.Modulo form operand x y a lt b told = remainder-same form.signed form.size operand x y a lt
same-as-long operators.ShiftRight form operand x y a lt b told = shift-same form.signed form.size operand x y a lt told
same-as-long operators.Add form operand x y a lt b told = refl
same-as-long operators.Subtract form operand x y a lt b told = refl
same-as-long operators.Multiply form operand x y a lt b told = refl
same-as-long operators.ShiftLeft form operand x y a lt b told = refl
same-as-long operators.Equal form operand x y a lt b told = refl
same-as-long operators.NotEqual form operand x y a lt b told = refl
same-as-long operators.Less form operand x y a lt b told = refl
same-as-long operators.LessEqual form operand x y a lt b told = refl
same-as-long operators.Greater form operand x y a lt b told = refl
same-as-long operators.GreaterEqual form operand x y a lt b told = refl

-- all bits turned over

turned : (x : ℕ) → x < 2 ^ 64 → bit_xor x (2 ^ 64 - 1) ≡ 2 ^ 64 - 1 - x
turned x lt =
    let e : bit_and x (2 ^ 64 - 1) ≡ x % 2 ^ 64 = and_mask x 64 in
    let sum = xor_add_and x (2 ^ 64 - 1) in
    omega (arith, lt, e, sum)

signed-turned : (half x : ℕ) → half ≤ 2 ^ 63 → Signed half (2 ^ 64) x → Signed half (2 ^ 64 + 1) (2 ^ 64 - 1 - x)
signed-turned half x small (inl lt) = inr (omega (arith, lt, small), omega arith)
signed-turned half x small (inr p) = let a = p.0 in let b = p.1 in inl (omega (arith, a, b, small))

turned-stays : (size : Size) (x : ℕ) → Lies (2 ^ 64) true size x → Stays true size (2 ^ 64 - 1 - x)
turned-stays Eight x h = tt
turned-stays One x h = signed-turned (2 ^ 7) x (omega arith) h
turned-stays Two x h = signed-turned (2 ^ 15) x (omega arith) h
turned-stays Four x h = signed-turned (2 ^ 31) x (omega arith) h

pub complement-is : (form : Number) (x : ℕ) → IsWord form x → x < 2 ^ 64 →
    applied (flow.width_of (turned_form form)) operators.Xor x (2 ^ 64 - 1) ≡ complemented (flow.width_of form) x
unfolding applied complemented
complement-is form x h lt = by form.signed form.size h
  where
    by : (signed : Bool) (size : Size) → Lies (2 ^ 64) signed size x →
        applied (flow.width_of (turned_form (number signed size))) operators.Xor x (2 ^ 64 - 1)
        ≡ complemented (flow.width_of (number signed size)) x
    by true size h =
        ap (wrapped (flow.width_of (long true))) (turned x lt) ∙ same-word true size (2 ^ 64 - 1 - x) (turned-stays size x h)
    by false size h = ap (wrapped (flow.width_of (number false size))) (turned x lt)
