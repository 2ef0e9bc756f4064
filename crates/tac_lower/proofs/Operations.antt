-- The rest of the operations on words: `not`, conversions to bools, steps of pointers, differences, operators, and primitives.
use Rattle.std.proofs.Common.{◌≡◌, ◌≢◌, ℕ, zero, suc, ◌+◌, ◌*◌, ◌<◌, ◌≤◌, Bool, true, false, ℤ, pos, negsuc, List, [], ◌∷◌, ◌++◌, length}
use Rattle.std.proofs.Common.{Option, Some, None, refl, sym, ap, ◌∙◌, subst, arith}
use Rattle.std.specs.Prelude.{◌^◌, ◌-◌, ◌%◌, not, nat_eq, nat_le, nat_lt, if◌then◌else◌}
use Rattle.std.proofs.lemmas.Bool.{eqb-true, lt-ltb, leb-true}
use Rattle.tl_base.specs.declared.place.Place.{Place}
use Rattle.tl_base.specs.declared.ids.TypeId.{TypeId}
use Rattle.lua_value.specs.declared.primitive.Primitive.{Primitive}
use Rattle.lua_value.specs.declared.primitive.Primitive.TheVariants as primitives
use Rattle.terra_memory.specs.Region as regions
use Rattle.terra_memory.specs.Region.{range_of, alloc_of, aligned, heap_limit, first_address}
use Rattle.terra_words.specs.declared.words.BinaryOperator.{BinaryOperator}
use Rattle.terra_words.specs.declared.words.BinaryOperator.TheVariants as operators
use Rattle.terra_words.specs.declared.words.FaultKind.TheVariants.{BadAddress}
use Rattle.terra_words.specs.declared.words.Width.{Width}
use Rattle.terra_words.specs.Words.{wrapped, applied, complemented, divides, moved, flag, is_negative, is_less, signed, long_width}
use Rattle.terra_words.specs.Runs.{Value, word, number, value_at}
use Rattle.terra_types.specs.declared.types.Integer.TheVariants.{Int8, Int16, Int32, Int64, Uint8, Uint16, Uint32, Uint64}
use Rattle.terra_types.specs.declared.types.TypeForm.{TypeForm}
use Rattle.terra_types.specs.declared.types.TypeForm.TheVariants as forms
use Rattle.terra_types.specs.Opening.{boolean}
use Rattle.terra_term.specs.declared.lists.TypedName.{TypedName}
use Rattle.terra_meaning.specs.Values.{form_at, width_of, IsValue}
use Rattle.terra_meaning.specs.Running.{State, Got, Gives, Ends, fault}
use Rattle.terra_meaning.specs.Meaning as meaning
use Rattle.terra_meaning.specs.Meaning.{the_value, type_at}
use Rattle.tac_form.specs.declared.tac.Number.{Number}
use Rattle.tac_form.specs.declared.tac.Operand.{Operand}
use Rattle.tac_form.specs.declared.tac.Operand.TheVariants.{Temp, Constant}
use Rattle.tac_form.specs.declared.tac.Instruction.{Instruction}
use Rattle.tac_form.specs.declared.tac.Instruction.TheVariants.{TestDivisor, PutByte, Write, Alloc}
use Rattle.tac_form.specs.Flow as flow
use Rattle.tac_form.specs.Flow.{Goes, fetched}
use Rattle.tac_lower.specs.Pieces.{Used, with_temp, Piece, known, doing, Result, a_word, word_of, word_at, no_word, Holders, number_in}
use Rattle.tac_lower.specs.Pieces.{number_of, whole_word, long, compute}
use Rattle.tac_lower.specs.Lowering.{binary, step, difference, primitive, form_of, stays_within, turned_form, turned_over}
pub use Rattle.tac_lower.specs.Needs.{IsWide, is_comparison, joins_bits, BinaryNeeds, PrimitiveNeeds}
use Rattle.tac_lower.proofs.Places.{Point, after}
use Rattle.tac_lower.proofs.Standing.{Setting, Private, stands, word_in, operand-is, Fine, Grown, Comes, Leaves}
use Rattle.tac_lower.proofs.Simulates.{Fact, one_of, all_of, AllMean, Knows, Sim, then_sim}
use Rattle.tac_lower.proofs.Words.{width_by, wrapped-small, HasNumber}
use Rattle.tac_lower.proofs.Writes.{grown-temp, nat_eq-ne, puts_sim, PassesOr, passes_sim}
use Rattle.tac_lower.proofs.Loads.{sim_as, compute_sim}
use Rattle.tac_lower.proofs.Images.{IsWord, is-word, same-as-long, complement-is}
use Rattle.tac_lower.proofs.Operators.{first-word, second-word, both-words, first-again, second-again, first-small, good-number}
use Rattle.tac_lower.proofs.Operators.{number-width_at, binary_sim}
use Rattle.tac_lower.proofs.Reaches.{added, multiplied}
use Rattle.tac_lower.proofs.Counts.{good-flag}

-- a type that is the opening's is a bool
pub is-boolean : (z : Setting) (of : TypeId) → nat_eq of.0 boolean.0 ≡ true → form_at z.types of ≡ forms.Bool
is-boolean z of e =
    let same : of ≡ boolean = ap (λ m. record { 0 = m }) (eqb-true of.0 boolean.0 e) in
    subst (λ t. form_at z.types t ≡ forms.Bool) (sym same) z.boolean_is

-- not

flipped : (x : ℕ) → x < 2 → applied (flow.width_of whole_word) operators.Xor x 1 ≡ 1 - x
unfolding applied wrapped
flipped zero lt = refl
flipped (suc zero) lt = refl
flipped (suc (suc m)) lt = absurd (omega (arith, lt))

rest-of-bit : (x : ℕ) → x < 2 → (b : Bool) × (1 - x ≡ flag b)
rest-of-bit zero lt = (true, refl)
rest-of-bit (suc zero) lt = (false, refl)
rest-of-bit (suc (suc m)) lt = absurd (omega (arith, lt))

complement-wrapped : (w : Width) (x : ℕ) → complemented w x ≡ wrapped w (2 ^ 64 - 1 - x)
unfolding complemented
complement-wrapped w x = refl

-- operators that compare give bits, and the others words of the width

applied-word : (w : Width) (op : BinaryOperator) (x y : ℕ) (P : ℕ → Type 0) → is_comparison op ≡ false → ((m : ℕ) → P (wrapped w m)) →
    P (applied w op x y)
unfolding applied
applied-word w operators.Add x y P e h = h _
applied-word w operators.Subtract x y P e h = h _
applied-word w operators.Multiply x y P e h = h _
applied-word w operators.Divide x y P e h = h _
applied-word w operators.Modulo x y P e h = h _
applied-word w operators.Xor x y P e h = h _
applied-word w operators.And x y P e h = h _
applied-word w operators.Or x y P e h = h _
applied-word w operators.ShiftLeft x y P e h = h _
applied-word w operators.ShiftRight x y P e h = h _
applied-word w operators.Equal x y P e h = absurd (grind (arith, e))
applied-word w operators.NotEqual x y P e h = absurd (grind (arith, e))
applied-word w operators.Less x y P e h = absurd (grind (arith, e))
applied-word w operators.LessEqual x y P e h = absurd (grind (arith, e))
applied-word w operators.Greater x y P e h = absurd (grind (arith, e))
applied-word w operators.GreaterEqual x y P e h = absurd (grind (arith, e))

applied-bit : (w : Width) (op : BinaryOperator) (x y : ℕ) (P : ℕ → Type 0) → is_comparison op ≡ true → ((b : Bool) → P (flag b)) →
    P (applied w op x y)
unfolding applied
applied-bit w operators.Equal x y P e h = h (nat_eq x y)
applied-bit w operators.NotEqual x y P e h = h (not (nat_eq x y))
applied-bit w operators.Less x y P e h = h (is_less w x y)
applied-bit w operators.LessEqual x y P e h = h (not (is_less w y x))
applied-bit w operators.Greater x y P e h = h (is_less w y x)
applied-bit w operators.GreaterEqual x y P e h = h (not (is_less w x y))
applied-bit w operators.Add x y P e h = absurd (grind (arith, e))
applied-bit w operators.Subtract x y P e h = absurd (grind (arith, e))
applied-bit w operators.Multiply x y P e h = absurd (grind (arith, e))
applied-bit w operators.Divide x y P e h = absurd (grind (arith, e))
applied-bit w operators.Modulo x y P e h = absurd (grind (arith, e))
applied-bit w operators.Xor x y P e h = absurd (grind (arith, e))
applied-bit w operators.And x y P e h = absurd (grind (arith, e))
applied-bit w operators.Or x y P e h = absurd (grind (arith, e))
applied-bit w operators.ShiftLeft x y P e h = absurd (grind (arith, e))
applied-bit w operators.ShiftRight x y P e h = absurd (grind (arith, e))

-- a comparison depends on the sign of its width alone
less-by : (w v : Width) (x y : ℕ) → w.signed ≡ v.signed → is_less w x y ≡ is_less v x y
less-by w v x y e = ap (λ b. if b then nat_lt ((x + 2 ^ 63) % 2 ^ 64) ((y + 2 ^ 63) % 2 ^ 64) else nat_lt x y) e

compared-by : (w v : Width) (op : BinaryOperator) (x y : ℕ) → is_comparison op ≡ true → w.signed ≡ v.signed →
    applied w op x y ≡ applied v op x y
unfolding applied
compared-by w v operators.Equal x y e s = refl
compared-by w v operators.NotEqual x y e s = refl
compared-by w v operators.Less x y e s = ap flag (less-by w v x y s)
compared-by w v operators.LessEqual x y e s = ap (λ b. flag (not b)) (less-by w v y x s)
compared-by w v operators.Greater x y e s = ap flag (less-by w v y x s)
compared-by w v operators.GreaterEqual x y e s = ap (λ b. flag (not b)) (less-by w v x y s)
compared-by w v operators.Add x y e s = absurd (grind (arith, e))
compared-by w v operators.Subtract x y e s = absurd (grind (arith, e))
compared-by w v operators.Multiply x y e s = absurd (grind (arith, e))
compared-by w v operators.Divide x y e s = absurd (grind (arith, e))
compared-by w v operators.Modulo x y e s = absurd (grind (arith, e))
compared-by w v operators.Xor x y e s = absurd (grind (arith, e))
compared-by w v operators.And x y e s = absurd (grind (arith, e))
compared-by w v operators.Or x y e s = absurd (grind (arith, e))
compared-by w v operators.ShiftLeft x y e s = absurd (grind (arith, e))
compared-by w v operators.ShiftRight x y e s = absurd (grind (arith, e))

same-sign : (form : TypeForm) → (flow.width_of (number_in form)).signed ≡ (width_by form).signed
same-sign (forms.Integer Int8) = refl
same-sign (forms.Integer Int16) = refl
same-sign (forms.Integer Int32) = refl
same-sign (forms.Integer Int64) = refl
same-sign (forms.Integer Uint8) = refl
same-sign (forms.Integer Uint16) = refl
same-sign (forms.Integer Uint32) = refl
same-sign (forms.Integer Uint64) = refl
same-sign forms.Bool = refl
same-sign forms.Unit = refl
same-sign (forms.Pointer t) = refl
same-sign (forms.Function params result) = refl
same-sign (forms.Array t m) = refl
same-sign (forms.Struct number place layout) = refl

-- the form that an operator is taken at has the same sign
form-sign : (op : BinaryOperator) (form : Number) (y : Operand) → (form_of op form y).signed ≡ form.signed
form-sign op form y = by (stays_within op form y)
  where
    by : (b : Bool) → (if b then long form.signed else form).signed ≡ form.signed
    by true = refl
    by false = refl

-- a word of a type with numbers is one of its form
word-at : (z : Setting) (of : TypeId) (x : ℕ) → HasNumber (form_at z.types of) → wrapped (width_of z.types of) x ≡ x →
    IsWord (number_of z.types of) x
word-at z of x numbers again =
    is-word (number_of z.types of) x (subst (λ w. wrapped w x ≡ x) (sym (number-width_at z of numbers)) again)

long-small : (op : BinaryOperator) (x y : ℕ) → is_comparison op ≡ false → applied long_width op x y < 2 ^ 64
long-small op x y e = applied-word long_width op x y (λ m. m < 2 ^ 64) e (λ m. wrapped-small (forms.Integer Int64) m)

-- what is given is this
abbrev pub GivesOnly : Value → Got Value → Type 0
GivesOnly v (Gives w s) = w ≡ v
GivesOnly v (Ends r) = Unit {0}

-- an address that is given lies in the region
alloc-small : (r : regions.Contents) (m : ℤ) → length r.bytes ≤ 67108864 → (alloc_of r m).0 < 2 ^ 64
unfolding alloc_of
alloc-small r (negsuc m) small = omega arith
alloc-small r (pos m) small = by (nat_le (aligned r.heap + m) (heap_limit r)) refl
  where
    made : Bool → ℕ × regions.Contents
    made b = if b then (aligned r.heap, record r { heap = aligned r.heap + m }) else (0, r)

    by : (b : Bool) → nat_le (aligned r.heap + m) (heap_limit r) ≡ b → (made b).0 < 2 ^ 64
    by true e =
        let le = leb-true (aligned r.heap + m) (heap_limit r) e in
        let low : heap_limit r ≤ first_address + length r.bytes = omega arith in
        omega (arith, le, low, small)
    by false e = omega arith

alloc-same : (r : regions.Contents) (m : ℤ) → length (alloc_of r m).1.bytes ≡ length r.bytes
unfolding alloc_of
alloc-same r (negsuc m) = refl
alloc-same r (pos m) = by (nat_le (aligned r.heap + m) (heap_limit r))
  where
    made : Bool → ℕ × regions.Contents
    made b = if b then (aligned r.heap, record r { heap = aligned r.heap + m }) else (0, r)

    by : (b : Bool) → length (made b).1.bytes ≡ length r.bytes
    by true = refl
    by false = refl

module _ (z : Setting) (n : ℕ) (names : List TypedName) (scope : Holders) (facts : List Fact) (u : Used) (of : TypeId)
    (ts : List TypeId) (rs : List Result) (vs : List Value) where
  abbrev x0 : ℕ
  x0 = number (value_at vs 0)

  abbrev x1 : ℕ
  x1 = number (value_at vs 1)

  abbrev all : List Fact
  all = all_of ts rs vs ∷ facts

  pub not_bool_sim : form_at z.types of ≡ forms.Bool → x0 < 2 →
      Sim z n names scope all u (compute operators.Xor whole_word (word_at rs 0) (Constant 1) u) (λ s. Gives (word (1 - x0)) s) names scope
      (λ w. one_of the_value of (a_word (Temp u.temps)) w)
  not_bool_sim form lt =
      let b = rest-of-bit x0 lt in
      compute_sim u the_value of operators.Xor whole_word (word_at rs 0) (Constant 1) x0 1 (word (1 - x0))
      (λ u1 k knows. (first-word z scope u1 ts rs vs k knows.0, refl)) refl (ap word (flipped x0 lt))
      (subst (λ m. IsValue z.types of (word m)) (sym b.1) (good-flag z of b.0 form))

  pub not_number_sim : HasNumber (form_at z.types of) → wrapped (width_of z.types of) x0 ≡ x0 → x0 < 2 ^ 64 →
      Sim z n names scope all u (turned_over (number_of z.types of) (word_at rs 0) u)
      (λ s. Gives (word (complemented (width_of z.types of) x0)) s) names scope (λ w. one_of the_value of (a_word (Temp u.temps)) w)
  not_number_sim numbers again lt =
      let form = number_of z.types of in
      compute_sim u the_value of operators.Xor (turned_form form) (word_at rs 0) (Constant (2 ^ 64 - 1)) x0 (2 ^ 64 - 1)
      (word (complemented (width_of z.types of) x0)) (λ u1 k knows. (first-word z scope u1 ts rs vs k knows.0, refl)) refl
      (ap word (complement-is form x0 (word-at z of x0 numbers again) lt ∙ ap (λ w. complemented w x0) (number-width_at z of numbers)))
      (subst (λ m. IsValue z.types of (word m)) (sym (complement-wrapped (width_of z.types of) x0))
      (good-number z of (Temp u.temps) (2 ^ 64 - 1 - x0) numbers))

  -- to bool

  unequal : applied (flow.width_of whole_word) operators.NotEqual x0 0 ≡ flag (nat_lt 0 x0)
  unfolding applied
  unequal = by x0
    where
      by : (x : ℕ) → flag (not (nat_eq x 0)) ≡ flag (nat_lt 0 x)
      by zero = refl
      by (suc m) =
          let some : suc m ≢ 0 = omega arith in
          let pos : 0 < suc m = omega arith in
          ap (λ b. flag (not b)) (nat_eq-ne (suc m) 0 some) ∙ ap flag (sym (lt-ltb 0 (suc m) pos))

  pub to_bool_sim : form_at z.types of ≡ forms.Bool →
      Sim z n names scope all u (compute operators.NotEqual whole_word (word_at rs 0) (Constant 0) u)
      (λ s. Gives (word (flag (nat_lt 0 x0))) s) names scope (λ w. one_of the_value of (a_word (Temp u.temps)) w)
  to_bool_sim form =
      compute_sim u the_value of operators.NotEqual whole_word (word_at rs 0) (Constant 0) x0 0 (word (flag (nat_lt 0 x0)))
      (λ u1 k knows. (first-word z scope u1 ts rs vs k knows.0, refl)) refl (ap word unequal) (good-flag z of (nat_lt 0 x0) form)

  -- a pointer that is moved

  multiple : (size : ℕ) → Sim z n names scope all u (compute operators.Multiply whole_word (word_at rs 1) (Constant size) u)
      (λ s. Gives (word ((x1 * size) % 2 ^ 64)) s) names scope (λ w. one_of meaning.the_address of (a_word (Temp u.temps)) w)
  multiple size =
      compute_sim u meaning.the_address of operators.Multiply whole_word (word_at rs 1) (Constant size) x1 size
      (word ((x1 * size) % 2 ^ 64)) (λ u1 k knows. (second-word z scope u1 ts rs vs k knows.0, refl)) refl
      (ap word (multiplied x1 size)) (omega arith)

  pub forward_sim : (size : ℕ) → IsWide z.types of →
      Sim z n names scope all u (step size operators.Add (word_at rs 0) (word_at rs 1) u)
      (λ s. Gives (word (moved x0 (x1 * size))) s) names scope
      (λ w. one_of the_value of (step size operators.Add (word_at rs 0) (word_at rs 1) u).result w)
  forward_sim size wide =
      sim_as (λ s. Gives (word ((x0 + (x1 * size) % 2 ^ 64) % 2 ^ 64)) s) (λ s. Gives (word (moved x0 (x1 * size))) s)
      (λ s. let e : (x0 + (x1 * size) % 2 ^ 64) % 2 ^ 64 ≡ (x0 + x1 * size) % 2 ^ 64 = omega arith in ap (λ m. Gives (word m) s) e)
      (then_sim {mid = λ w. one_of meaning.the_address of (a_word (Temp u.temps)) w}
      (λ r u'. compute operators.Add whole_word (word_at rs 0) (word_of r) u') (λ w s. Gives (word ((x0 + number w) % 2 ^ 64)) s) (word 0)
      (multiple size)
      (λ w. compute_sim (with_temp u) the_value of operators.Add whole_word (word_at rs 0) (Temp u.temps) x0 (number w)
      (word ((x0 + number w) % 2 ^ 64)) (λ u1 k knows. (first-word z scope u1 ts rs vs k knows.1.0, ap number knows.0.is)) refl
      (ap word (added x0 (number w))) (wide ((x0 + number w) % 2 ^ 64) (omega arith))))

  subtracted : (y : ℕ) → applied (flow.width_of whole_word) operators.Subtract x0 y ≡ (x0 + (2 ^ 64 - y)) % 2 ^ 64
  unfolding applied wrapped
  subtracted y = refl

  pub back_sim : (size : ℕ) → IsWide z.types of →
      Sim z n names scope all u (step size operators.Subtract (word_at rs 0) (word_at rs 1) u)
      (λ s. Gives (word (moved x0 (2 ^ 64 - (x1 * size) % 2 ^ 64))) s) names scope
      (λ w. one_of the_value of (step size operators.Subtract (word_at rs 0) (word_at rs 1) u).result w)
  back_sim size wide =
      then_sim {mid = λ w. one_of meaning.the_address of (a_word (Temp u.temps)) w}
      (λ r u'. compute operators.Subtract whole_word (word_at rs 0) (word_of r) u')
      (λ w s. Gives (word ((x0 + (2 ^ 64 - number w)) % 2 ^ 64)) s) (word 0) (multiple size)
      (λ w. compute_sim (with_temp u) the_value of operators.Subtract whole_word (word_at rs 0) (Temp u.temps) x0 (number w)
      (word ((x0 + (2 ^ 64 - number w)) % 2 ^ 64)) (λ u1 k knows. (first-word z scope u1 ts rs vs k knows.1.0, ap number knows.0.is)) refl
      (ap word (subtracted (number w))) (wide ((x0 + (2 ^ 64 - number w)) % 2 ^ 64) (omega arith)))

  -- how many elements lie between two pointers

  pub difference_sim : (size : ℕ) → size ≢ 0 → IsWide z.types of →
      Sim z n names scope all u (difference size (word_at rs 0) (word_at rs 1) u)
      (λ s. meaning.in_elements (applied long_width operators.Subtract x0 x1) size s) names scope
      (λ w. one_of the_value of (difference size (word_at rs 0) (word_at rs 1) u).result w)
  difference_sim zero some wide = absurd (some refl)
  difference_sim (suc size) some wide =
      let apart = applied long_width operators.Subtract x0 x1 in
      then_sim {mid = λ w. one_of meaning.the_address of (a_word (Temp u.temps)) w}
      (λ r u'. compute operators.Divide (long true) (word_of r) (Constant (suc size)) u')
      (λ w s. Gives (word (applied long_width operators.Divide (number w) (suc size))) s) (word 0)
      (compute_sim u meaning.the_address of operators.Subtract (long true) (word_at rs 0) (word_at rs 1) x0 x1 (word apart)
      (both-words z scope facts ts rs vs) refl refl (long-small operators.Subtract x0 x1 refl))
      (λ w. compute_sim (with_temp u) the_value of operators.Divide (long true) (Temp u.temps) (Constant (suc size)) (number w) (suc size)
      (word (applied long_width operators.Divide (number w) (suc size))) (λ u1 k knows. (ap number knows.0.is, refl))
      (nat_eq-ne (suc size) 0 some) refl (wide (applied long_width operators.Divide (number w) (suc size))
      (long-small operators.Divide (number w) (suc size) refl)))

  -- an operator

  abbrev first : TypeId
  first = type_at ts 0

  abbrev form : BinaryOperator → Number
  form op = form_of op (number_of z.types first) (word_at rs 1)

  binary-result : (place : Place) (op : BinaryOperator) →
      a_word (Temp u.temps) ≡ (binary place (number_of z.types first) op (word_at rs 0) (word_at rs 1) u).result
  binary-result place op = by (divides op)
    where
      by : (b : Bool) →
          a_word (Temp u.temps) ≡ a_word
          (Temp (if b then doing (tt {0}) (TestDivisor place (word_at rs 1)) u else known (tt {0}) u).used.temps)
      by true = refl
      by false = refl

  binary-grown : (place : Place) (op : BinaryOperator) →
      Grown u (binary place (number_of z.types first) op (word_at rs 0) (word_at rs 1) u).used
  binary-grown place op = by (divides op)
    where
      by : (b : Bool) → Grown u (with_temp (if b then doing (tt {0}) (TestDivisor place (word_at rs 1)) u else known (tt {0}) u).used)
      by true = grown-temp u
      by false = grown-temp u

  -- the operator of the code gives the same: operands are words of their types, and a constant is the second one
  same-applied : (op : BinaryOperator) (k : Private) → HasNumber (form_at z.types first) → (joins_bits op ≡ true → type_at ts 1 ≡ first) →
      AllMean z scope u ts rs vs k → applied (flow.width_of (form op)) op x0 x1 ≡ applied (width_of z.types first) op x0 x1
  same-applied op k numbers one knows =
      same-as-long op (number_of z.types first) (word_at rs 1) x0 x1
      (word-at z first x0 numbers (first-again z scope u ts rs vs k knows)) (first-small z scope u ts rs vs k knows)
      (λ e. word-at z first x1 numbers
      (subst (λ t. wrapped (width_of z.types t) x1 ≡ x1) (one e) (second-again z scope u ts rs vs k knows)))
      (λ c e. ap (word_in k) (sym e) ∙ second-word z scope u ts rs vs k knows)
      ∙ ap (λ w. applied w op x0 x1) (number-width_at z first numbers)

  pub operator_sim : (place : Place) (op : BinaryOperator) → BinaryNeeds z.types (is_comparison op) first of →
      (joins_bits op ≡ true → type_at ts 1 ≡ first) →
      Sim z n names scope all u (binary place (number_of z.types first) op (word_at rs 0) (word_at rs 1) u)
      (meaning.binary place (width_of z.types first) op x0 x1) names scope
      (λ w. one_of the_value of (binary place (number_of z.types first) op (word_at rs 0) (word_at rs 1) u).result w)
  operator_sim place op needs one =
      subst (λ r. Sim z n names scope all u (binary place (number_of z.types first) op (word_at rs 0) (word_at rs 1) u)
      (meaning.binary place (width_of z.types first) op x0 x1) names scope (λ w. one_of the_value of r w)) (binary-result place op)
      (by (is_comparison op) refl needs)
    where
      by : (b : Bool) → is_comparison op ≡ b → BinaryNeeds z.types b first of →
          Sim z n names scope all u (binary place (number_of z.types first) op (word_at rs 0) (word_at rs 1) u)
          (meaning.binary place (width_of z.types first) op x0 x1) names scope (λ w. one_of the_value of (a_word (Temp u.temps)) w)
      by true e bool =
          binary_sim u place of first op ts rs vs
          (compared-by (flow.width_of (form op)) (width_of z.types first) op x0 x1 e
          (form-sign op (number_of z.types first) (word_at rs 1) ∙ same-sign (form_at z.types first)))
          (applied-bit (width_of z.types first) op x0 x1 (λ m. IsValue z.types of (word m)) e (λ b. good-flag z of b bool))
      by false e h = record {
        grown = binary-grown place op;
        over = λ t lt away. away;
        run = λ out at k s has whole_ fine knows less.
            (binary_sim u place of first op ts rs vs (same-applied op k h.0 one knows.0)
            (subst (λ t. IsValue z.types t (word (applied (width_of z.types first) op x0 x1))) h.1
            (applied-word (width_of z.types first) op x0 x1 (λ m. IsValue z.types first (word m)) e
            (λ m. good-number z first (Temp u.temps) m h.0)))).run out at k s has whole_ fine knows less;
      }

  -- primitives

  -- a part that gives one value wherever it gives any
  always_sim : (r : Piece Result) (go : State → Got Value) (v : Value) → ((s : State) → GivesOnly v (go s)) →
      Sim z n names scope all u r go names scope (λ w. one_of the_value of r.result v) →
      Sim z n names scope all u r go names scope (λ w. one_of the_value of r.result w)
  always_sim r go v only x = record {
    grown = x.grown;
    over = x.over;
    run = λ out at k s has whole_ fine knows less. by at k s (go s) (only s) (x.run out at k s has whole_ fine knows less);
  }
    where
      by : (at : Point) (k : Private) (s : State) (g : Got Value) → GivesOnly v g →
          Leaves z at k s
          (λ w s'. Comes z names scope at u k s (after r.code at) names scope r.used s'
          (Knows z scope r.used (one_of the_value of r.result v))) g →
          Leaves z at k s
          (λ w s'. Comes z names scope at u k s (after r.code at) names scope r.used s'
          (Knows z scope r.used (one_of the_value of r.result w))) g
      by at k s (Ends e) o h = h
      by at k s (Gives w s1) o h =
          subst (λ y. Comes z names scope at u k s (after r.code at) names scope r.used s1
          (Knows z scope r.used (one_of the_value of r.result y)))
          (sym o) h

  -- an instruction that gives nothing
  nothing_sim : (i : Instruction) (go : State → Got Value) → IsValue z.types of (word 0) → ((s : State) → GivesOnly (word 0) (go s)) →
      ((at : Point) (k : Private) (s : State) → Fine z names scope u k s → AllMean z scope u ts rs vs k → PassesOr z at k s i (go s)) →
      Sim z n names scope all u (doing no_word i u) go names scope (λ w. one_of the_value of no_word w)
  nothing_sim i go unit only passes =
      always_sim (doing no_word i u) go (word 0) only
      (passes_sim u no_word i go (λ at k s fine knows. passes at k s fine knows.0)
      (λ b k knows. record { is = refl; own = tt; good = unit }))

  put_byte_sim : IsValue z.types of (word 0) →
      Sim z n names scope all u (doing no_word (PutByte (word_at rs 0)) u) (λ s. meaning.printed s (x0 % 256 ∷ [])) names scope
      (λ w. one_of the_value of no_word w)
  put_byte_sim unit =
      nothing_sim (PutByte (word_at rs 0)) (λ s. meaning.printed s (x0 % 256 ∷ [])) unit (λ s. refl) (λ at k s fine knows. record {
        moves = ap (λ b. Goes (flow.ahead (record (stands z at k s) { out = s.out ++ b % 256 ∷ [] })))
            (operand-is z at k s (word_at rs 0) ∙ first-word z scope u ts rs vs k knows);
        same = record { variables = refl; sized = refl; left = refl };
      })

  write_sim : (place : Place) → IsValue z.types of (word 0) →
      Sim z n names scope all u (doing no_word (Write place (word_at rs 0) (word_at rs 1)) u) (meaning.primitive place primitives.Write vs)
      names scope (λ w. one_of the_value of no_word w)
  write_sim place unit =
      nothing_sim (Write place (word_at rs 0) (word_at rs 1)) (meaning.primitive place primitives.Write vs) unit (λ s. only s)
      (λ at k s fine knows.
      by at k s (is_negative x1) (range_of s.region x0 x1)
      (ap (λ m. if is_negative m then flow.fault BadAddress place (stands z at k s)
      else fetched place (stands z at k s) (range_of s.region (flow.operand (stands z at k s) (word_at rs 0)) m) (λ bs. shown at k s bs))
      (operand-is z at k s (word_at rs 1) ∙ second-word z scope u ts rs vs k knows)
      ∙ ap (λ m. if is_negative x1 then flow.fault BadAddress place (stands z at k s)
      else fetched place (stands z at k s) (range_of s.region m x1) (λ bs. shown at k s bs))
      (operand-is z at k s (word_at rs 0) ∙ first-word z scope u ts rs vs k knows)))
    where
      shown : Point → Private → State → List ℕ → flow.Moved
      shown at k s bs = Goes (flow.ahead (record (stands z at k s) { out = s.out ++ bs }))

      only-range : (s : State) (o : Option (List ℕ)) → GivesOnly (word 0) (meaning.print_range place s o)
      only-range s None = tt
      only-range s (Some bs) = refl

      only : (s : State) → GivesOnly (word 0) (meaning.primitive place primitives.Write vs s)
      only s = by (is_negative x1)
        where
          by : (b : Bool) → GivesOnly (word 0) (if b then fault BadAddress place s else meaning.print_range place s
              (range_of s.region x0 x1))
          by true = tt
          by false = only-range s (range_of s.region x0 x1)

      by : (at : Point) (k : Private) (s : State) (b : Bool) (o : Option (List ℕ)) →
          flow.act z.program (Write place (word_at rs 0) (word_at rs 1)) (stands z at k s)
          ≡ (if b then flow.fault BadAddress place (stands z at k s) else fetched place (stands z at k s) o (λ bs. shown at k s bs)) →
          PassesOr z at k s (Write place (word_at rs 0) (word_at rs 1))
          (if b then fault BadAddress place s else meaning.print_range place s o)
      by at k s true o e = e
      by at k s false None e = e
      by at k s false (Some bs) e = record { moves = e; same = record { variables = refl; sized = refl; left = refl } }

  alloc_sim : IsWide z.types of →
      Sim z n names scope all u (doing (a_word (Temp u.temps)) (Alloc u.temps (word_at rs 0)) (with_temp u))
      (λ s. meaning.allocated s (alloc_of s.region (signed x0))) names scope (λ w. one_of the_value of (a_word (Temp u.temps)) w)
  alloc_sim wide =
      puts_sim u the_value of (Alloc u.temps (word_at rs 0)) (λ s. meaning.allocated s (alloc_of s.region (signed x0)))
      (λ at k s fine knows. record {
        word_put = (alloc_of s.region (signed x0)).0;
        moves = ap (λ m. flow.allocated u.temps (stands z at k s) (alloc_of s.region (signed m)))
            (operand-is z at k s (word_at rs 0) ∙ first-word z scope u ts rs vs k knows.0);
        is = refl;
        good = wide (alloc_of s.region (signed x0)).0
            (alloc-small s.region (signed x0) (let e = fine.sized in let m = z.room in omega (arith, e, m)));
        same = record { variables = refl; sized = alloc-same s.region (signed x0); left = refl };
      })

  -- what a primitive needs of its result's type
  pub primitive_sim : (place : Place) (p : Primitive) → PrimitiveNeeds z.types p of →
      Sim z n names scope all u (primitive place p rs u) (meaning.primitive place p vs) names scope
      (λ w. one_of the_value of (primitive place p rs u).result w)
  primitive_sim place primitives.PutByte unit = put_byte_sim unit
  primitive_sim place primitives.Write unit = write_sim place unit
  primitive_sim place primitives.Alloc wide = alloc_sim wide
