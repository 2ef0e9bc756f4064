-- The code of a typed term, by recursion on the term, as the meaning of terms goes.
use Rattle.std.specs.Prelude.{ℕ, suc, ◌+◌, ◌-◌, ◌^◌, Bool, true, false, not, ◌&&◌, nat_eq, nat_le, nat_lt, if◌then◌else◌, List, [], ◌∷◌}
use Rattle.std.specs.Prelude.{◌++◌, length, Option, Some, None, map}
use Rattle.tl_base.specs.declared.place.Place.{Place}
use Rattle.tl_base.specs.declared.ids.TypeId.{TypeId}
use Rattle.tl_base.specs.declared.ids.FnId.{FnId}
use Rattle.terra_words.specs.declared.words.FaultKind.TheVariants.{NoReturn}
use Rattle.terra_words.specs.declared.words.BinaryOperator.{BinaryOperator}
use Rattle.terra_words.specs.declared.words.BinaryOperator.TheVariants as operators
use Rattle.terra_words.specs.Words.{divides, wrapped}
use Rattle.terra_types.specs.declared.types.TypeForm.{TypeForm}
use Rattle.terra_types.specs.declared.types.TypeForm.TheVariants as forms
use Rattle.terra_types.specs.Opening.{boolean, unit}
use Rattle.terra_term.specs.declared.operators.Operation.{Operation}
use Rattle.terra_term.specs.declared.operators.Operation.TheVariants as operations
use Rattle.lua_value.specs.declared.primitive.Primitive.{Primitive}
use Rattle.lua_value.specs.declared.primitive.Primitive.TheVariants as primitives
use Rattle.terra_term.specs.declared.lists.TypedName.{TypedName}
use Rattle.terra_term.specs.TypedTerms.{Expression, typed, Constant', Variable, Global, Operate, Both, Either, Dereference, Select, Follow}
use Rattle.terra_term.specs.TypedTerms.{Element, Index, Address, Decay, Let, Expressions, no_more, then_one, Statement, statement, Var}
use Rattle.terra_term.specs.TypedTerms.{Assign, If, IfElse, While, Repeat, For, Do, Break, Finish, Return, Perform, Statements, done}
use Rattle.terra_term.specs.TypedTerms.{and_then, type_of, place_of}
use Rattle.terra_term.specs.Stores.{Contents, Callable}
use Rattle.terra_term.specs.Sizes.{body_size}
use Rattle.terra_term.specs.WellTyped.{widest}
use Rattle.terra_meaning.specs.Values.{form_at, bytes_at, target_of}
use Rattle.terra_meaning.specs.Frames.{frame_of}
use Rattle.terra_meaning.specs.Meaning.{constant, types_of, type_at, in_expression, in_list, in_statement, in_block, Wanted, the_value}
use Rattle.terra_meaning.specs.Meaning.{the_address}
use Rattle.tac_form.specs.declared.tac.Size.{Size}
use Rattle.tac_form.specs.declared.tac.Size.TheVariants.{Eight}
use Rattle.tac_form.specs.declared.tac.Number.{Number}
use Rattle.tac_form.specs.declared.tac.Operand.{Operand}
use Rattle.tac_form.specs.declared.tac.Operand.TheVariants.{Temp, Constant}
use Rattle.tac_form.specs.declared.tac.Spot.TheVariants as spots
use Rattle.tac_form.specs.declared.tac.Destination.{Destination}
use Rattle.tac_form.specs.declared.tac.Instruction.TheVariants.{Compute, TestDivisor, Copy, Clear, Call, CallValue, PutByte, Write, Alloc}
use Rattle.tac_form.specs.declared.tac.Exit.TheVariants.{Fail}
use Rattle.tac_form.specs.declared.tac.Signature.{Signature}
use Rattle.tac_form.specs.declared.tac.Tac.{Tac}
use Rattle.tac_form.specs.Flow.{width_of}
use Rattle.tac_lower.specs.Items.{Item, does, ends, skips, tests, repeats, repeats_unless, leaves, gives, fails, count_ends, loop_of}
use Rattle.tac_lower.specs.Items.{blocks_of}
use Rattle.tac_lower.specs.Pieces.{Used, nothing_used, with_temp, with_area, Piece, known, doing, then_piece, taken, Result, a_word}
use Rattle.tac_lower.specs.Pieces.{an_area, an_offset, no_word, word_of, part_of, parts_of, address_of, result_at, word_at, rest, long}
use Rattle.tac_lower.specs.Pieces.{whole_word, number_of, given, destination, compute, copied, located, loaded, stored, Holder, in_temp}
use Rattle.tac_lower.specs.Pieces.{at_offset, Holders, holder_of, Around, declare, declare_all}

-- places

-- a place was reached by its address
abbrev pub reached : List TypeForm → Wanted → Place → TypeId → Result → Used → Piece Result
reached types the_value at of r u = loaded types of (spots.Region at (address_of r)) u
reached types the_address at of r u = known r u

abbrev pub variable : List TypeForm → Wanted → Place → TypeId → Option Holder → Used → Piece Result
variable types want at of None u = known no_word u
variable types want at of (Some (in_temp t)) u = copied (Temp t) u
variable types want at of (Some (at_offset offset)) u = reached types want at of (an_offset offset) u

-- the entry at an offset of what lies at an address; one of a variable lies in the frame too
abbrev pub entry : (offset : ℕ) → Result → Used → Piece Result
entry offset (an_offset at) u = known (an_offset (at + offset)) u
entry offset r u =
    if nat_eq offset 0 then known (a_word (word_of r)) u
    else compute operators.Add whole_word (word_of r) (Constant offset) u

-- an element behind an address
abbrev pub element : (size : ℕ) → (from index : Operand) → Used → Piece Result
element size from index u =
    then_piece (compute operators.Multiply whole_word index (Constant size) u)
    (λ r u'. compute operators.Add whole_word from (word_of r) u')

-- operations

abbrev tested_divisor : Place → BinaryOperator → Operand → Used → Piece (Unit {0})
tested_divisor at op y u = if divides op then doing tt (TestDivisor at y) u else known tt u

-- Whether an operator of 64 bits leaves, of words of a width as they stand there, a word of the width, whose other bits are zeros or
-- copies of its sign. Of numbers with a sign the quotient may lie outside: the least one by -1. A shift goes by the low bits of its
-- count, which are the same where it is below the bits.
abbrev pub stays_within : BinaryOperator → Number → Operand → Bool
stays_within operators.And number y = true
stays_within operators.Or number y = true
stays_within operators.Xor number y = true
stays_within operators.Divide number y = not number.signed
stays_within operators.Modulo number y = true
stays_within operators.ShiftRight number (Constant count) = nat_lt count (width_of number).bits
stays_within _ number y = false

-- the numbers that an operator is of: those of 64 bits where they do, since of these nothing is cut
abbrev pub form_of : BinaryOperator → Number → Operand → Number
form_of op number y = if stays_within op number y then long number.signed else number

abbrev pub binary : Place → Number → BinaryOperator → Operand → Operand → Used → Piece Result
binary at number op x y u = then_piece (tested_divisor at op y u) (λ t u'. compute op (form_of op number y) x y u')

-- All bits of a word turned over. Of a number with a sign those above the width are too, and none is cut; of one without the
-- word of the width's bits alone may be longer than the cut.
abbrev pub turned_form : Number → Number
turned_form number = if number.signed then long true else number

abbrev pub turned_over : Number → Operand → Used → Piece Result
turned_over number x u = compute operators.Xor (turned_form number) x (Constant (2 ^ 64 - 1)) u

abbrev pub step : (size : ℕ) → BinaryOperator → Operand → Operand → Used → Piece Result
step size op x y u =
    then_piece (compute operators.Multiply whole_word y (Constant size) u)
    (λ r u'. compute op whole_word x (word_of r) u')

abbrev pub difference : (size : ℕ) → Operand → Operand → Used → Piece Result
difference size x y u =
    then_piece (compute operators.Subtract (long true) x y u)
    (λ r u'. compute operators.Divide (long true) (word_of r) (Constant size) u')

abbrev pub extracted : List TypeForm → TypeId → ℕ → Result → Used → Piece Result
extracted types of offset (an_area n) u = loaded types of (spots.Area n offset) u
extracted types of offset r u = known no_word u

-- the entries of a struct go to their offsets
abbrev pub constructed : List TypeForm → (area : ℕ) → List ℕ → List TypeId → List Result → Used → Piece (Unit {0})
constructed types n (offset ∷ offsets) (t ∷ ts) (v ∷ vs) u =
    then_piece (stored types t (spots.Area n offset) v u) (λ b u'. constructed types n offsets ts vs u')
constructed types n _ _ _ u = known tt u

abbrev pub construct : List TypeForm → (size : ℕ) → List ℕ → List TypeId → List Result → Used → Piece Result
construct types size offsets ts vs u =
    let n = length u.areas in
    taken (λ b. an_area n)
    (then_piece (doing (tt {0}) (Clear n size) (with_area size u)) (λ b u'. constructed types n offsets ts vs u'))

abbrev pub primitive : Place → Primitive → List Result → Used → Piece Result
primitive at primitives.PutByte vs u = doing no_word (PutByte (word_at vs 0)) u
primitive at primitives.Write vs u = doing no_word (Write at (word_at vs 0) (word_at vs 1)) u
primitive at primitives.Alloc vs u = doing (a_word (Temp u.temps)) (Alloc u.temps (word_at vs 0)) (with_temp u)

abbrev pub signature_in : TypeForm → Signature
signature_in (forms.Function params result) = record { params = params; result = result }
signature_in _ = record { params = []; result = record { 0 = 0 } }

abbrev pub call : Place → FnId → List Result → Destination → Used → Piece Result
call at f vs to u = doing (given to) (Call to at f (parts_of vs)) u

abbrev pub call_value : Place → Signature → List Result → Destination → Used → Piece Result
call_value at sig vs to u = doing (given to) (CallValue to at sig (word_at vs 0) (parts_of (rest vs))) u

-- a word as one of a form of fewer bytes than a word; a constant's is a constant
abbrev pub cut : Number → Operand → Used → Piece Result
cut number (Constant x) u = known (a_word (Constant (wrapped (width_of number) x))) u
cut number (Temp t) u = compute operators.Add number (Temp t) (Constant 0) u

abbrev pub is_whole : Size → Bool
is_whole Eight = true
is_whole _ = false

-- a word as one of a form: one of eight bytes stays as it is
abbrev pub fitted : Number → Operand → Used → Piece Result
fitted number x u = if is_whole number.size then known (a_word x) u else cut number x u

-- what an operation gives of operands of these types, which were evaluated
abbrev pub operation : Around → Place → TypeId → Operation → List TypeId → List Result → Used → Piece Result
operation c at of operations.Negate ts vs u =
    compute operators.Subtract (number_of c.types of) (Constant 0) (word_at vs 0) u
operation c at of operations.Not ts vs u =
    if nat_eq of.0 boolean.0 then compute operators.Xor whole_word (word_at vs 0) (Constant 1) u
    else turned_over (number_of c.types of) (word_at vs 0) u
operation c at of (operations.Binary op) ts vs u =
    binary at (number_of c.types (type_at ts 0)) op (word_at vs 0) (word_at vs 1) u
operation c at of operations.StepForward ts vs u =
    step (bytes_at c.types (target_of c.types of)) operators.Add (word_at vs 0) (word_at vs 1) u
operation c at of operations.StepBack ts vs u =
    step (bytes_at c.types (target_of c.types of)) operators.Subtract (word_at vs 0) (word_at vs 1) u
operation c at of operations.Difference ts vs u =
    difference (bytes_at c.types (target_of c.types (type_at ts 0))) (word_at vs 0) (word_at vs 1) u
operation c at of operations.Convert ts vs u =
    if nat_eq of.0 boolean.0 then compute operators.NotEqual whole_word (word_at vs 0) (Constant 0) u
    else fitted (number_of c.types of) (word_at vs 0) u
operation c at of (operations.Extract offset) ts vs u = extracted c.types of offset (result_at vs 0) u
operation c at of (operations.Call f) ts vs u =
    then_piece (destination c.types of u) (λ to u'. call at f vs to u')
operation c at of (operations.Primitive p) ts vs u = primitive at p vs u
operation c at of operations.CallValue ts vs u =
    then_piece (destination c.types of u)
    (λ to u'. call_value at (signature_in (form_at c.types (type_at ts 0))) vs to u')
operation c at of (operations.Construct offsets) ts vs u =
    construct c.types (bytes_at c.types of) offsets ts vs u

-- `and` and `or`: the first operand goes to a temporary, whose word, or its opposite, is tested before the second
abbrev pub opposite : Operand → Used → Piece Operand
opposite a u = taken word_of (compute operators.Xor whole_word a (Constant 1) u)

abbrev pub passed_over : (test : Operand) → List Item → List Item
passed_over test code = ends (tests test (suc (count_ends code))) ∷ (code ++ ends (skips 0) ∷ [])

abbrev pub into : ℕ → Piece Result → Piece (Unit {0})
into d p = record { result = tt; code = p.code ++ does (Copy d (word_of p.result)) ∷ []; used = p.used }

-- the first operand in a temporary, the test of it, and the second operand in the same one
abbrev pub short_circuit : (d : ℕ) → (first : Piece (Unit {0})) → (test : Used → Piece Operand) →
    (second : Used → Piece (Unit {0})) → Piece Result
short_circuit d first test second =
    let t = test first.used in
    let b = second t.used in
    record {
      result = a_word (Temp d);
      code = first.code ++ (t.code ++ passed_over t.result b.code);
      used = b.used;
    }

-- assignments

-- what an assignment goes to: a variable without an address, or what lies at an address
pub data Target : Type 0 where
  to_temp : ℕ → Target
  to_place : Result → Target

abbrev pub target_at : Option Holder → Piece Result → Used → Piece Target
target_at (Some (in_temp t)) p u = known (to_temp t) u
target_at _ p u = taken to_place p

-- the target that an expression is, whose address has this code
abbrev pub aimed : Holders → Expression → Piece Result → Used → Piece Target
aimed scope (typed at of (Variable x)) p u = target_at (holder_of x scope) p u
aimed scope _ p u = taken to_place p

abbrev pub assigned : List TypeForm → Expression → Target → Result → Used → Piece (Unit {0})
assigned types e (to_temp t) v u = doing tt (Copy t (word_of v)) u
assigned types e (to_place r) v u = stored types (type_of e) (spots.Region (place_of e) (address_of r)) v u

abbrev pub assigned_all : List TypeForm → Expressions → List Target → List Result → Used → Piece (Unit {0})
assigned_all types (then_one e es) (p ∷ ps) vs u =
    then_piece (assigned types e p (result_at vs 0) u) (λ b u'. assigned_all types es ps (rest vs) u')
assigned_all types _ _ vs u = known tt u

-- loops

-- a `for`: its numbers, and what holds its value, its limit and its step
pub record Counting : Type 0 where
  pub number : Number
  pub value : ℕ
  pub limit : Operand
  pub step : Operand

abbrev pub step_in : List Result → Operand
step_in [] = Constant 1
step_in (v ∷ vs) = word_of v

abbrev pub counting : Number → List Result → (value : ℕ) → Counting
counting number vs value = record { number = number; value = value; limit = word_at vs 1; step = step_in (rest (rest vs)) }

abbrev pub is_one : Operand → Bool
is_one (Constant step) = nat_eq step 1
is_one (Temp t) = false

-- a step that may be below zero: below the limit where it is above zero, and above the limit where it is below
abbrev pub either_way : Counting → Operand → Used → Piece Result
either_way k below u =
    then_piece (compute operators.Less k.number k.limit (Temp k.value) u) (λ above u1.
    then_piece (compute operators.Less k.number k.step (Constant 0) u1) (λ falls u2.
    then_piece (compute operators.Greater k.number k.step (Constant 0) u2) (λ rises u3.
    then_piece (compute operators.And whole_word (word_of falls) (word_of above) u3) (λ falling u4.
    then_piece (compute operators.And whole_word (word_of rises) below u4) (λ rising u5.
    compute operators.Or whole_word (word_of falling) (word_of rising) u5)))))

abbrev pub with_step : Counting → Operand → Used → Piece Result
with_step k below u =
    then_piece (compute operators.NotEqual whole_word k.step (Constant 0) u) (λ moves u'.
    if k.number.signed then either_way k below u' else compute operators.And whole_word below (word_of moves) u')

-- whether a `for` goes on to its value
abbrev pub runs : Counting → Used → Piece Result
runs k u =
    then_piece (compute operators.Less k.number (Temp k.value) k.limit u) (λ below u'.
    if is_one k.step then known below u' else with_step k (word_of below) u')

-- the value of a `for` goes on behind the count
abbrev pub counted_on : Counting → Item
counted_on k = does (Compute k.value operators.Add k.number (Temp k.value) k.step)

-- a test, what is done where it holds, and the way back to the test
abbrev pub while_loop : List Item → (test : Operand) → (body : List Item) → List Item
while_loop code test body =
    ends (skips 0) ∷ loop_of (code ++ ends (tests test (suc (count_ends body))) ∷
    (body ++ ends (repeats (count_ends code + suc (count_ends body))) ∷ []))

abbrev pub repeat_loop : List Item → (test : Operand) → List Item
repeat_loop code test = ends (skips 0) ∷ loop_of (code ++ ends (repeats_unless test (count_ends code)) ∷ [])

-- choices

abbrev pub choice : (test : Operand) → (one other : List Item) → List Item
choice test a b =
    ends (tests test (suc (count_ends a))) ∷
    (a ++ ends (skips (suc (count_ends b))) ∷ (b ++ ends (skips 0) ∷ []))

-- What the code of an expression gives, and the variables in scope after a statement. `from` is the number of the next
-- declaration, as in the meaning.
abbrev mutual
  pub piece : Around → Wanted → Expression → (from : ℕ) → Holders → Used → Piece Result
  piece c want (typed at of (Constant' k)) from scope u = known (a_word (Constant (constant c.entries k))) u
  piece c want (typed at of (Variable x)) from scope u = variable c.types want at of (holder_of x scope) u
  piece c want (typed at of (Global a)) from scope u = reached c.types want at of (a_word (Constant a)) u
  piece c want (typed at of (Operate op es)) from scope u =
      then_piece (pieces c es from scope u) (λ vs u'. operation c at of op (types_of es) vs u')
  piece c want (typed at of (Both a b)) from scope u =
      short_circuit u.temps (into u.temps (piece c the_value a from scope (with_temp u))) (known (Temp u.temps))
      (λ u'. into u.temps (piece c the_value b (from + in_expression a) scope u'))
  piece c want (typed at of (Either a b)) from scope u =
      short_circuit u.temps (into u.temps (piece c the_value a from scope (with_temp u))) (opposite (Temp u.temps))
      (λ u'. into u.temps (piece c the_value b (from + in_expression a) scope u'))
  piece c want (typed at of (Dereference p)) from scope u =
      then_piece (piece c the_value p from scope u) (λ v u'. reached c.types want at of (a_word (word_of v)) u')
  piece c want (typed at of (Select offset e)) from scope u =
      then_piece (piece c the_address e from scope u) (λ v u'. then_piece (entry offset v u')
      (λ r u''. reached c.types want at of r u''))
  piece c want (typed at of (Follow offset p)) from scope u =
      then_piece (piece c the_value p from scope u) (λ v u'. then_piece (entry offset (a_word (word_of v)) u')
      (λ r u''. reached c.types want at of r u''))
  piece c want (typed at of (Element a i)) from scope u =
      then_piece (piece c the_address a from scope u) (λ v u1. then_piece (located v u1) (λ array u2.
      then_piece (piece c the_value i (from + in_expression a) scope u2) (λ n u3.
      then_piece (element (bytes_at c.types of) (word_of array) (word_of n) u3)
      (λ r u4. reached c.types want at of r u4))))
  piece c want (typed at of (Index p i)) from scope u =
      then_piece (piece c the_value p from scope u) (λ v u1.
      then_piece (piece c the_value i (from + in_expression p) scope u1) (λ n u2.
      then_piece (element (bytes_at c.types of) (word_of v) (word_of n) u2)
      (λ r u3. reached c.types want at of r u3)))
  piece c want (typed at of (Address e)) from scope u =
      then_piece (piece c the_address e from scope u) (λ v u'. located v u')
  piece c want (typed at of (Decay a)) from scope u =
      then_piece (piece c the_address a from scope u) (λ v u'. located v u')
  piece c want (typed at of (Let block e)) from scope u =
      then_piece (all c block from scope u) (λ inner u'. piece c the_value e (from + in_block block) inner u')

  pub pieces : Around → Expressions → (from : ℕ) → Holders → Used → Piece (List Result)
  pieces c no_more from scope u = known [] u
  pieces c (then_one e es) from scope u =
      then_piece (piece c the_value e from scope u) (λ v u'.
      taken (λ vs. v ∷ vs) (pieces c es (from + in_expression e) scope u'))

  pub targets : Around → Expressions → (from : ℕ) → Holders → Used → Piece (List Target)
  targets c no_more from scope u = known [] u
  targets c (then_one e es) from scope u =
      then_piece (aimed scope e (piece c the_address e from scope u) u) (λ p u'.
      taken (λ ps. p ∷ ps) (targets c es (from + in_expression e) scope u'))

  pub one : Around → Statement → (from : ℕ) → Holders → Used → Piece Holders
  one c (statement at (Var names values)) from scope u =
      then_piece (pieces c values from scope u) (λ vs u'. declare_all c at names vs (from + in_list values) scope u')
  one c (statement at (Assign places values)) from scope u =
      then_piece (pieces c values from scope u) (λ vs u1.
      then_piece (targets c places (from + in_list values) scope u1) (λ ps u2.
      taken (λ b. scope) (assigned_all c.types places ps vs u2)))
  one c (statement at (If test block)) from scope u =
      let v = piece c the_value test from scope u in
      let a = all c block (from + in_expression test) scope v.used in
      record { result = scope; code = v.code ++ passed_over (word_of v.result) a.code; used = a.used }
  one c (statement at (IfElse test block other)) from scope u =
      let v = piece c the_value test from scope u in
      let a = all c block (from + in_expression test) scope v.used in
      let b = all c other (from + in_expression test + in_block block) scope a.used in
      record { result = scope; code = v.code ++ choice (word_of v.result) a.code b.code; used = b.used }
  one c (statement at (While test body)) from scope u =
      let v = piece c the_value test from scope u in
      let a = all c body (from + in_expression test) scope v.used in
      record { result = scope; code = while_loop v.code (word_of v.result) a.code; used = a.used }
  one c (statement at (Repeat body test)) from scope u =
      let r = then_piece (all c body from scope u)
      (λ inner u'. piece c the_value test (from + in_block body) inner u') in
      record { result = scope; code = repeat_loop r.code (word_of r.result); used = r.used }
  one c (statement at (For x bounds body)) from scope u =
      then_piece (pieces c bounds from scope u) (λ vs u1.
      let k = counting (number_of c.types x.of) vs u1.temps in
      let t = runs k (with_temp u1) in
      let a = then_piece (declare c at x (Some (a_word (Temp k.value))) (from + in_list bounds) scope t.used)
      (λ inner u2. all c body (suc (from + in_list bounds)) inner u2) in
      record {
        result = scope;
        code = does (Copy k.value (word_at vs 0)) ∷
            while_loop t.code (word_of t.result) (a.code ++ counted_on k ∷ []);
        used = a.used;
      })
  one c (statement at (Do body)) from scope u = taken (λ inner. scope) (all c body from scope u)
  one c (statement at Break) from scope u = record { result = scope; code = ends leaves ∷ []; used = u }
  one c (statement at Finish) from scope u = record { result = scope; code = ends (gives (part_of no_word)) ∷ []; used = u }
  one c (statement at (Return e)) from scope u =
      let v = piece c the_value e from scope u in
      record { result = scope; code = v.code ++ ends (gives (part_of v.result)) ∷ []; used = v.used }
  one c (statement at (Perform e)) from scope u = taken (λ v. scope) (piece c the_value e from scope u)

  pub all : Around → Statements → (from : ℕ) → Holders → Used → Piece Holders
  all c done from scope u = known scope u
  all c (and_then s ss) from scope u =
      then_piece (one c s from scope u) (λ scope' u'. all c ss (from + in_statement s) scope' u')

-- functions

-- where parameters go
abbrev pub received : List TypeForm → List TypedName → Used → Piece (List Destination)
received types [] u = known [] u
received types (x ∷ xs) u =
    then_piece (destination types x.of u) (λ to u'. taken (λ tos. to ∷ tos) (received types xs u'))

-- a body that ends gives nothing, which is a fault where a result is due
abbrev pub ending : Callable → Item
ending k = ends (if nat_eq k.body.result.0 unit.0 then gives (part_of no_word) else fails NoReturn k.at)

abbrev pub type_of_name : TypedName → TypeId
type_of_name x = x.of

abbrev pub around : Contents → List FnId → Callable → Around
around store entries k = record { types = store.types; entries = entries; homes = (frame_of store.types k.body).homes }

-- the code of a function's body, whose parameters went to these
abbrev pub body_piece : Around → Callable → List Destination → Used → Piece Holders
body_piece c k tos u =
    then_piece (declare_all c k.at k.body.parameters (map given tos) 0 [] u)
    (λ scope u'. all c k.body.body (length k.body.parameters) scope u')

-- types whose values are passed: a value has at most so many bytes
abbrev pub are_narrow : List TypeForm → List TypeId → Bool
are_narrow types [] = true
are_narrow types (t ∷ ts) = nat_le (bytes_at types t) widest && are_narrow types ts

abbrev pub parameter_types : Callable → List TypeId
parameter_types k = map type_of_name k.body.parameters

-- the code of a function that calls reach
abbrev pub code_of : Contents → List FnId → Callable → Tac
code_of store entries k =
    let tos = received store.types k.body.parameters nothing_used in
    let r = body_piece (around store entries k) k tos.result tos.used in
    record {
      nodes = (body_size k.body).nodes;
      signature = record { params = parameter_types k; result = k.body.result };
      place = k.at;
      counts = false;
      frame = (frame_of store.types k.body).size;
      temps = r.used.temps;
      areas = r.used.areas;
      parameters = tos.result;
      blocks = blocks_of (r.code ++ ending k ∷ []);
    }

-- A function with a parameter that no value goes to, since it is too wide, is called nowhere. It may stand as a value all the
-- same, and so has code.
abbrev pub unreached : Callable → Tac
unreached k = record {
  nodes = (body_size k.body).nodes;
  signature = record { params = parameter_types k; result = k.body.result };
  place = k.at;
  counts = false;
  frame = 0;
  temps = 0;
  areas = [];
  parameters = [];
  blocks = record { instructions = []; exit = Fail NoReturn k.at } ∷ [];
}

-- the code of a function of a store, where these functions stand as values
abbrev pub lowered : Contents → List FnId → Callable → Tac
lowered store entries k = if are_narrow store.types (parameter_types k) then code_of store entries k else unreached k
