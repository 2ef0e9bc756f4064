-- Lowered code has at most 250 words for each typed node, with the fixed part of its function.
use Rattle.std.proofs.Common.{◌≡◌, ℕ, suc, ◌+◌, ◌*◌, ◌≤◌, Bool, true, false, List, [], ◌∷◌, ◌++◌, length, map, Option, Some, None, refl, ap}
use Rattle.std.proofs.Common.{arith}
use Rattle.std.specs.Prelude.{nat_eq, fold, sum_by, if◌then◌else◌}
use Rattle.tl_base.specs.declared.place.Place.{Place}
use Rattle.tl_base.specs.declared.ids.TypeId.{TypeId}
use Rattle.tl_base.specs.declared.ids.FnId.{FnId}
use Rattle.lua_value.specs.declared.primitive.Primitive.TheVariants as primitives
use Rattle.terra_words.specs.declared.words.BinaryOperator.TheVariants as operators
use Rattle.terra_words.specs.declared.words.FaultKind.TheVariants.{NoReturn}
use Rattle.terra_words.specs.Words.{divides}
use Rattle.terra_types.specs.declared.types.TypeForm.{TypeForm}
use Rattle.terra_types.specs.Opening.{boolean, unit}
use Rattle.terra_term.specs.declared.operators.Operation.{Operation}
use Rattle.terra_term.specs.declared.operators.Operation.TheVariants as operations
use Rattle.terra_term.specs.declared.lists.TypedName.{TypedName}
use Rattle.terra_term.specs.TypedTerms.{Expression, typed, Constant', Variable, Global, Operate, Both, Either, Dereference, Select, Follow}
use Rattle.terra_term.specs.TypedTerms.{Element, Index, Address, Decay, Let, Expressions, no_more, then_one, Statement, statement, Var}
use Rattle.terra_term.specs.TypedTerms.{Assign, If, IfElse, While, Repeat, For, Do, Break, Finish, Return, Perform, Statements, done}
use Rattle.terra_term.specs.TypedTerms.{and_then, type_of, place_of}
use Rattle.terra_term.specs.Sizes.{typed_size, typed_list_size, typed_statement_size, typed_block_size}
use Rattle.terra_term.specs.Stores.{Contents, Callable}
use Rattle.terra_meaning.specs.Values.{form_at, bytes_at, is_aggregate}
use Rattle.terra_meaning.specs.Frames.{Home, by_value, in_frame, home_at}
use Rattle.terra_meaning.specs.Meaning.{Wanted, the_value, the_address, types_of, type_at, in_expression, in_list, in_statement, in_block}
use Rattle.tac_form.specs.declared.tac.Number.{Number}
use Rattle.tac_form.specs.declared.tac.Operand.{Operand}
use Rattle.tac_form.specs.declared.tac.Operand.TheVariants.{Temp, Constant}
use Rattle.tac_form.specs.declared.tac.Address.TheVariants as addresses
use Rattle.tac_form.specs.declared.tac.Size.{Size}
use Rattle.tac_form.specs.declared.tac.Destination.{Destination}
use Rattle.tac_form.specs.declared.tac.Destination.TheVariants as destinations
use Rattle.tac_form.specs.declared.tac.Instruction.TheVariants.{Compute, TestDivisor, Copy, Load, Store, Move}
use Rattle.tac_form.specs.declared.tac.Spot.{Spot}
use Rattle.tac_form.specs.declared.tac.Spot.TheVariants as spots
use Rattle.tac_form.specs.declared.tac.Block.{Block}
use Rattle.tac_form.specs.declared.tac.Tac.{Tac}
use Rattle.tac_form.specs.Weights.{block_words, code_words, exit_words, words_of}
use Rattle.tac_lower.specs.Items.{Item, does, ends, Ending, skips, tests, repeats, repeats_unless, leaves, gives, fails, count_ends}
use Rattle.tac_lower.specs.Items.{loop_of, exit_of, Draft, empty_draft, with_item, with_items, blocks_of}
use Rattle.tac_lower.specs.Pieces.{Used, nothing_used, with_temp, with_area, Piece, known, doing, then_piece, taken, Result, a_word}
use Rattle.tac_lower.specs.Pieces.{an_area, an_offset, no_word, word_of, part_of, parts_of, address_of, word_at, result_at, rest}
use Rattle.tac_lower.specs.Pieces.{whole_word, number_of, is_bool, given, compute, copied, located, loaded_bit, loaded_area, loaded_word}
use Rattle.tac_lower.specs.Pieces.{loaded, stored_part, stored, placed, Holder, in_temp, at_offset, Holders, holder_of, Around, declare_at}
use Rattle.tac_lower.specs.Pieces.{declare, declare_all, first_of}
use Rattle.tac_lower.specs.Lowering.{cut, is_whole, reached, variable, entry, element, form_of, turned_over, extracted, constructed, call}
use Rattle.tac_lower.specs.Lowering.{call_value, signature_in, operation, target_at, aimed, Target, to_temp, to_place, assigned}
use Rattle.tac_lower.specs.Lowering.{assigned_all, passed_over, choice, Counting, counting, is_one, either_way, runs, counted_on}
use Rattle.tac_lower.specs.Lowering.{while_loop, piece, pieces, targets, one, all, around, ending, received, code_of, unreached, are_narrow}
use Rattle.tac_lower.specs.Lowering.{parameter_types, lowered}

-- sums

abbrev total : {X : Type 0} → (X → ℕ) → List X → ℕ
total f [] = 0
total f (x ∷ xs) = f x + total f xs

sum-total : {X : Type 0} (f : X → ℕ) (n : ℕ) (xs : List X) → fold (λ a x. a + f x) n xs ≡ n + total f xs
sum-total f n [] = omega arith
sum-total f n (x ∷ xs) = let h = sum-total f (n + f x) xs in omega (arith, h)

total-append : {X : Type 0} (f : X → ℕ) (xs : List X) (y : X) → total f (xs ++ y ∷ []) ≡ total f xs + f y
total-append f [] y = omega arith
total-append f (x ∷ xs) y = let h = total-append f xs y in omega (arith, h)

-- the words of items

abbrev ending_words : Ending → ℕ
ending_words e = exit_words (exit_of 0 0 e)

abbrev weigh : List Item → ℕ
weigh [] = 0
weigh (does i ∷ is) = words_of i + weigh is
weigh (ends e ∷ is) = ending_words e + weigh is

weigh-append : (a b : List Item) → weigh (a ++ b) ≡ weigh a + weigh b
weigh-append [] b = omega arith
weigh-append (does i ∷ a) b = let h = weigh-append a b in omega (arith, h)
weigh-append (ends e ∷ a) b = let h = weigh-append a b in omega (arith, h)

both : (a b : List Item) (m n : ℕ) → weigh a ≤ m → weigh b ≤ n → weigh (a ++ b) ≤ m + n
both a b m n x y = let h = weigh-append a b in omega (arith, h, x, y)

same-ending : (n : ℕ) (e : Ending) → exit_words (exit_of 0 n e) ≡ ending_words e
same-ending n (skips k) = refl
same-ending n (tests a k) = refl
same-ending n (repeats k) = refl
same-ending n (repeats_unless a k) = refl
same-ending n leaves = refl
same-ending n (gives v) = refl
same-ending n (fails kind at) = refl

loop-words : (is : List Item) → weigh (loop_of is) ≡ weigh is
loop-words [] = refl
loop-words (does i ∷ is) = ap (λ n. words_of i + n) (loop-words is)
loop-words (ends (skips k) ∷ is) = ap (λ n. 2 + n) (loop-words is)
loop-words (ends (tests a k) ∷ is) = ap (λ n. 13 + n) (loop-words is)
loop-words (ends (repeats k) ∷ is) = ap (λ n. 5 + n) (loop-words is)
loop-words (ends (repeats_unless a k) ∷ is) = ap (λ n. 16 + n) (loop-words is)
loop-words (ends leaves ∷ is) = ap (λ n. 2 + n) (loop-words is)
loop-words (ends (gives v) ∷ is) = ap (λ n. 10 + n) (loop-words is)
loop-words (ends (fails kind at) ∷ is) = ap (λ n. 11 + n) (loop-words is)

block-weighs : (d : Draft) (e : Ending) →
    block_words (record { instructions = d.code; exit = exit_of 0 (length d.blocks) e }) ≡ total words_of d.code + ending_words e
block-weighs d e =
    let a = sum-total words_of 0 d.code in let b = same-ending (length d.blocks) e in omega (arith, a, b)

blocks-weigh : (is : List Item) (d : Draft) →
    total block_words (with_items d is).blocks + total words_of (with_items d is).code
    ≡ total block_words d.blocks + total words_of d.code + weigh is
blocks-weigh [] d = omega arith
blocks-weigh (does i ∷ is) d =
    let h = blocks-weigh is (with_item d (does i)) in
    let a = total-append words_of d.code i in omega (arith, h, a)
blocks-weigh (ends e ∷ is) d =
    let h = blocks-weigh is (with_item d (ends e)) in
    let b : Block = record { instructions = d.code; exit = exit_of 0 (length d.blocks) e } in
    let a = total-append block_words d.blocks b in
    let c = block-weighs d e in
    let z = none in omega (arith, h, a, c, z)
  where
    none : total words_of [] ≡ 0
    none = refl

-- pieces without terms

located-words : (r : Result) (u : Used) → weigh (located r u).code ≤ 12
located-words (a_word o) u = omega arith
located-words (an_area n) u = omega arith
located-words (an_offset o) u = omega arith

load-words : (d : ℕ) (form : Number) (s : Spot) → words_of (Load d form s) ≤ 29
load-words d form (spots.Region at (addresses.Word a)) = omega arith
load-words d form (spots.Region at (addresses.Frame o)) = omega arith
load-words d form (spots.Area n o) = omega arith

read-words : (n size : ℕ) (s : Spot) → words_of (Move (spots.Area n 0) s size) ≤ 63
read-words n size (spots.Region at (addresses.Word a)) = omega arith
read-words n size (spots.Region at (addresses.Frame o)) = omega arith
read-words n size (spots.Area m o) = omega arith

written-words : (n size : ℕ) (s : Spot) → words_of (Move s (spots.Area n 0) size) ≤ 63
written-words n size (spots.Region at (addresses.Word a)) = omega arith
written-words n size (spots.Region at (addresses.Frame o)) = omega arith
written-words n size (spots.Area m o) = omega arith

store-words : (s : Spot) (size : Size) (a : Operand) → words_of (Store s size a) ≤ 33
store-words (spots.Region at (addresses.Word b)) size a = omega arith
store-words (spots.Region at (addresses.Frame o)) size a = omega arith
store-words (spots.Area m o) size a = omega arith

loaded-words : (types : List TypeForm) (of : TypeId) (from : Spot) (u : Used) → weigh (loaded types of from u).code ≤ 63
loaded-words types of from u = by (is_aggregate types of) (nat_eq (bytes_at types of) 0)
  where
    area : (b : Bool) → weigh (if b then known (an_area (length u.areas)) (with_area (bytes_at types of) u)
        else doing (an_area (length u.areas)) (Move (spots.Area (length u.areas) 0) from (bytes_at types of))
        (with_area (bytes_at types of) u)).code ≤ 63
    area true = omega arith
    area false = let h = read-words (length u.areas) (bytes_at types of) from in omega (arith, h)

    bit : (b : Bool) (r : Result) (v : Used) → weigh (loaded_bit b r v).code ≤ 23
    bit true r v = omega arith
    bit false r v = omega arith

    by : (agg none : Bool) →
        weigh (if agg then loaded_area (bytes_at types of) from u else (if none then known no_word u else loaded_word types of from u)).code
        ≤ 63
    by true none = area (nat_eq (bytes_at types of) 0)
    by false true = omega arith
    by false false =
        let h = load-words u.temps (number_of types of) from in
        let k = bit (is_bool types of) (a_word (Temp u.temps)) (with_temp u) in omega (arith, h, k)

stored-words : (types : List TypeForm) (of : TypeId) (to : Spot) (r : Result) (u : Used) → weigh (stored types of to r u).code ≤ 63
stored-words types of to r u = by (nat_eq (bytes_at types of) 0) r
  where
    by : (b : Bool) (q : Result) → weigh (if b then known (tt {0}) u else stored_part types of to q u).code ≤ 63
    by true q = omega arith
    by false (a_word o) = let h = store-words to (number_of types of).size o in omega (arith, h)
    by false (an_area n) = let h = written-words n (bytes_at types of) to in omega (arith, h)
    by false (an_offset o) = let h = store-words to (number_of types of).size (Constant 0) in omega (arith, h)

placed-words : (types : List TypeForm) (of : TypeId) (to : Spot) (r : Result) (u : Used) → weigh (placed types of to r u).code ≤ 63
placed-words types of to (an_area n) u = stored-words types of to (an_area n) u
placed-words types of to (a_word o) u = by (nat_eq (bytes_at types of) 0)
  where
    by : (b : Bool) → weigh (if b then taken (λ t. tt {0}) (copied o u) else stored types of to (a_word o) u).code ≤ 63
    by true = omega arith
    by false = stored-words types of to (a_word o) u
placed-words types of to (an_offset o) u = by (nat_eq (bytes_at types of) 0)
  where
    by : (b : Bool) → weigh (if b then taken (λ t. tt {0}) (copied (Constant 0) u) else stored types of to (an_offset o) u).code ≤ 63
    by true = omega arith
    by false = stored-words types of to (an_offset o) u

declare-words : (types : List TypeForm) (at : Place) (x : TypedName) (v : Option Result) (home : Home) (scope : Holders) (u : Used) →
    weigh (declare_at types at x v home scope u).code ≤ 63
declare-words types at x None by_value scope u = omega arith
declare-words types at x (Some v) by_value scope u = omega arith
declare-words types at x None (in_frame o) scope u = omega arith
declare-words types at x (Some v) (in_frame o) scope u = placed-words types x.of (spots.Region at (addresses.Frame o)) v u

declares-words : (c : Around) (at : Place) (xs : List TypedName) (vs : List Result) (k : ℕ) (scope : Holders) (u : Used) →
    weigh (declare_all c at xs vs k scope u).code ≤ 63 * length xs
declares-words c at [] vs k scope u = omega arith
declares-words c at (x ∷ xs) vs k scope u =
    let p = declare c at x (first_of vs) k scope u in
    let h = both p.code (declare_all c at xs (rest vs) (suc k) p.result p.used).code 63 (63 * length xs)
    (declare-words c.types at x (first_of vs) (home_at c.homes k) scope u)
    (declares-words c at xs (rest vs) (suc k) p.result p.used) in omega (arith, h)

reached-words : (types : List TypeForm) (want : Wanted) (at : Place) (of : TypeId) (r : Result) (u : Used) →
    weigh (reached types want at of r u).code ≤ 63
reached-words types the_value at of r u = loaded-words types of (spots.Region at (address_of r)) u
reached-words types the_address at of r u = omega arith

variable-words : (types : List TypeForm) (want : Wanted) (at : Place) (of : TypeId) (o : Option Holder) (u : Used) →
    weigh (variable types want at of o u).code ≤ 63
variable-words types want at of None u = omega arith
variable-words types want at of (Some (in_temp t)) u = omega arith
variable-words types want at of (Some (at_offset o)) u = reached-words types want at of (an_offset o) u

entry-words : (offset : ℕ) (r : Result) (u : Used) → weigh (entry offset r u).code ≤ 23
entry-words offset (an_offset o) u = omega arith
entry-words offset (a_word o) u = by (nat_eq offset 0)
  where
    by : (b : Bool) → weigh (if b then known (a_word o) u else compute operators.Add whole_word o (Constant offset) u).code ≤ 23
    by true = omega arith
    by false = omega arith
entry-words offset (an_area n) u = by (nat_eq offset 0)
  where
    by : (b : Bool) → weigh (if b then known (a_word (Constant 0)) u else compute operators.Add whole_word (Constant 0)
        (Constant offset) u).code ≤ 23
    by true = omega arith
    by false = omega arith

constructed-words : (types : List TypeForm) (area : ℕ) (os : List ℕ) (ts : List TypeId) (vs : List Result) (u : Used) →
    weigh (constructed types area os ts vs u).code ≤ 63 * length vs
constructed-words types area [] ts vs u = omega arith
constructed-words types area (o ∷ os) [] vs u = omega arith
constructed-words types area (o ∷ os) (t ∷ ts) [] u = omega arith
constructed-words types area (o ∷ os) (t ∷ ts) (v ∷ vs) u =
    let p = stored types t (spots.Area area o) v u in
    let h = both p.code (constructed types area os ts vs p.used).code 63 (63 * length vs) (stored-words types t (spots.Area area o) v u)
    (constructed-words types area os ts vs p.used) in omega (arith, h)

extracted-words : (types : List TypeForm) (of : TypeId) (offset : ℕ) (r : Result) (u : Used) → weigh (extracted types of offset r u).code
    ≤ 63
extracted-words types of offset (an_area n) u = loaded-words types of (spots.Area n offset) u
extracted-words types of offset (a_word o) u = omega arith
extracted-words types of offset (an_offset o) u = omega arith

parts-count : (vs : List Result) → length (parts_of vs) ≡ length vs
parts-count [] = refl
parts-count (v ∷ vs) = ap suc (parts-count vs)

rest-count : (vs : List Result) → length (rest vs) ≤ length vs
rest-count [] = omega arith
rest-count (v ∷ vs) = omega arith

operation-words : (c : Around) (at : Place) (of : TypeId) (op : Operation) (ts : List TypeId) (vs : List Result) (u : Used) →
    weigh (operation c at of op ts vs u).code ≤ 101 + 63 * length vs
operation-words c at of operations.Negate ts vs u = omega arith
operation-words c at of operations.Not ts vs u = by (nat_eq of.0 boolean.0)
  where
    by : (b : Bool) → weigh (if b then compute operators.Xor whole_word (word_at vs 0) (Constant 1) u
        else turned_over (number_of c.types of) (word_at vs 0) u).code ≤ 101 + 63 * length vs
    by true = omega arith
    by false = omega arith
operation-words c at of (operations.Binary op) ts vs u = by (divides op)
  where
    by : (b : Bool) → weigh (then_piece (if b then doing (tt {0}) (TestDivisor at (word_at vs 1)) u else known (tt {0}) u)
        (λ t u'. compute op (form_of op (number_of c.types (type_at ts 0)) (word_at vs 1)) (word_at vs 0) (word_at vs 1) u')).code
        ≤ 101 + 63 * length vs
    by true = omega arith
    by false = omega arith
operation-words c at of operations.StepForward ts vs u = omega arith
operation-words c at of operations.StepBack ts vs u = omega arith
operation-words c at of operations.Difference ts vs u = omega arith
operation-words c at of operations.Convert ts vs u = by (nat_eq of.0 boolean.0) (is_whole (number_of c.types of).size) (word_at vs 0)
  where
    by : (b whole : Bool) (x : Operand) → weigh (if b then compute operators.NotEqual whole_word x (Constant 0) u
        else (if whole then known (a_word x) u else cut (number_of c.types of) x u)).code ≤ 101 + 63 * length vs
    by true whole x = omega arith
    by false true x = omega arith
    by false false (Temp t) = omega arith
    by false false (Constant k) = omega arith
operation-words c at of (operations.Extract offset) ts vs u =
    let h = extracted-words c.types of offset (result_at vs 0) u in omega (arith, h)
operation-words c at of (operations.Call f) ts vs u = by (is_aggregate c.types of)
  where
    by : (b : Bool) → weigh (then_piece (if b then known (destinations.Area (length u.areas)) (with_area (bytes_at c.types of) u)
        else known (destinations.Temp u.temps) (with_temp u)) (λ to u'. call at f vs to u')).code ≤ 101 + 63 * length vs
    by true = let h = parts-count vs in omega (arith, h)
    by false = let h = parts-count vs in omega (arith, h)
operation-words c at of (operations.Primitive primitives.PutByte) ts vs u = omega arith
operation-words c at of (operations.Primitive primitives.Write) ts vs u = omega arith
operation-words c at of (operations.Primitive primitives.Alloc) ts vs u = omega arith
operation-words c at of operations.CallValue ts vs u = by (is_aggregate c.types of)
  where
    by : (b : Bool) → weigh (then_piece (if b then known (destinations.Area (length u.areas)) (with_area (bytes_at c.types of) u)
        else known (destinations.Temp u.temps) (with_temp u))
        (λ to u'. call_value at (signature_in (form_at c.types (type_at ts 0))) vs to u')).code ≤ 101 + 63 * length vs
    by true = let h = parts-count (rest vs) in let k = rest-count vs in omega (arith, h, k)
    by false = let h = parts-count (rest vs) in let k = rest-count vs in omega (arith, h, k)
operation-words c at of (operations.Construct offsets) ts vs u =
    let h = constructed-words c.types (length u.areas) offsets ts vs (with_area (bytes_at c.types of) u) in omega (arith, h)

-- assignments

target-words : (o : Option Holder) (p : Piece Result) (u : Used) → weigh (target_at o p u).code ≤ weigh p.code
target-words None p u = omega arith
target-words (Some (in_temp t)) p u = omega arith
target-words (Some (at_offset o)) p u = omega arith

aimed-words : (scope : Holders) (e : Expression) (p : Piece Result) (u : Used) → weigh (aimed scope e p u).code ≤ weigh p.code
aimed-words scope (typed at of (Variable x)) p u = target-words (holder_of x scope) p u
aimed-words scope (typed at of (Constant' k)) p u = omega arith
aimed-words scope (typed at of (Global a)) p u = omega arith
aimed-words scope (typed at of (Operate op es)) p u = omega arith
aimed-words scope (typed at of (Both a b)) p u = omega arith
aimed-words scope (typed at of (Either a b)) p u = omega arith
aimed-words scope (typed at of (Dereference q)) p u = omega arith
aimed-words scope (typed at of (Select o e)) p u = omega arith
aimed-words scope (typed at of (Follow o q)) p u = omega arith
aimed-words scope (typed at of (Element a i)) p u = omega arith
aimed-words scope (typed at of (Index q i)) p u = omega arith
aimed-words scope (typed at of (Address e)) p u = omega arith
aimed-words scope (typed at of (Decay e)) p u = omega arith
aimed-words scope (typed at of (Let ss e)) p u = omega arith

assigned-words : (types : List TypeForm) (es : Expressions) (ps : List Target) (vs : List Result) (u : Used) →
    weigh (assigned_all types es ps vs u).code ≤ 63 * length ps
assigned-words types no_more ps vs u = omega arith
assigned-words types (then_one e es) [] vs u = omega arith
assigned-words types (then_one e es) (to_temp t ∷ ps) vs u =
    let p = assigned types e (to_temp t) (result_at vs 0) u in
    let h = assigned-words types es ps (rest vs) p.used in omega (arith, h)
assigned-words types (then_one e es) (to_place r ∷ ps) vs u =
    let p = assigned types e (to_place r) (result_at vs 0) u in
    let h = both p.code (assigned_all types es ps (rest vs) p.used).code 63 (63 * length ps)
    (stored-words types (type_of e) (spots.Region (place_of e) (address_of r)) (result_at vs 0) u)
    (assigned-words types es ps (rest vs) p.used) in omega (arith, h)

-- the test of a `for`: a step that isn't 1 has an expression of its own

runs-words : (number : Number) (vs : List Result) (value : ℕ) (u : Used) → weigh (runs (counting number vs value) u).code ≤ 34 + 63 *
    length vs
runs-words number [] value u = omega arith
runs-words number (a ∷ []) value u = omega arith
runs-words number (a ∷ b ∷ []) value u = omega arith
runs-words number (a ∷ b ∷ s ∷ vs) value u = by (is_one (word_of s)) number.signed
  where
    k : Counting
    k = counting number (a ∷ b ∷ s ∷ vs) value

    by : (one signed : Bool) → weigh (then_piece (compute operators.Less k.number (Temp k.value) k.limit u) (λ below u'.
        if one then known below u' else then_piece (compute operators.NotEqual whole_word k.step (Constant 0) u') (λ moves u''.
        if signed then either_way k (word_of below) u'' else compute operators.And whole_word (word_of below) (word_of moves) u''))).code
        ≤ 34 + 63 * suc (suc (suc (length vs)))
    by true signed = omega arith
    by false true = omega arith
    by false false = omega arith

-- terms

while-words : (code : List Item) (test : Operand) (body : List Item) → weigh (while_loop code test body) ≡ 20 + weigh code + weigh body
while-words code test body =
    let back = ends (repeats (count_ends code + suc (count_ends body))) ∷ [] in
    let inside = ends (tests test (suc (count_ends body))) ∷ (body ++ back) in
    let a = loop-words (code ++ inside) in
    let b = weigh-append code inside in
    let d = weigh-append body back in omega (arith, a, b, d)

passed-words : (a : Operand) (is : List Item) → weigh (passed_over a is) ≡ 15 + weigh is
passed-words a is = let h = weigh-append is (ends (skips 0) ∷ []) in omega (arith, h)

choice-words : (t : Operand) (a b : List Item) → weigh (choice t a b) ≡ 17 + weigh a + weigh b
choice-words t a b =
    let last = ends (skips 0) ∷ [] in
    let h = weigh-append a (ends (skips (suc (count_ends b))) ∷ (b ++ last)) in
    let k = weigh-append b last in omega (arith, h, k)

into-words : (d : ℕ) (code : List Item) (a : Operand) → weigh (code ++ does (Copy d a) ∷ []) ≡ weigh code + 11
into-words d code a = weigh-append code (does (Copy d a) ∷ [])

module _ (c : Around) where
  abbrev nodes : Expression → ℕ
  nodes e = (typed_size e).nodes

  mutual
    -- with 63 words more for what takes the value
    expression-words : (want : Wanted) (e : Expression) (from : ℕ) (scope : Holders) (u : Used) →
        weigh (piece c want e from scope u).code + 63 ≤ 250 * nodes e
    expression-words want (typed at of (Constant' k)) from scope u = omega arith
    expression-words want (typed at of (Variable x)) from scope u =
        let h = variable-words c.types want at of (holder_of x scope) u in omega (arith, h)
    expression-words want (typed at of (Global a)) from scope u =
        let h = reached-words c.types want at of (a_word (Constant a)) u in omega (arith, h)
    expression-words want (typed at of (Operate op es)) from scope u =
        let p = pieces c es from scope u in
        let q = operation c at of op (types_of es) p.result p.used in
        let x = expressions-words es from scope u in
        let y = operation-words c at of op (types_of es) p.result p.used in
        let h = weigh-append p.code q.code in omega (arith, h, x, y)
    expression-words want (typed at of (Both a b)) from scope u =
        let p = piece c the_value a from scope (with_temp u) in
        let q = piece c the_value b (from + in_expression a) scope p.used in
        let first = p.code ++ does (Copy u.temps (word_of p.result)) ∷ [] in
        let second = q.code ++ does (Copy u.temps (word_of q.result)) ∷ [] in
        let x = expression-words the_value a from scope (with_temp u) in
        let y = expression-words the_value b (from + in_expression a) scope p.used in
        let h = weigh-append first (passed_over (Temp u.temps) second) in
        let k = passed-words (Temp u.temps) second in
        let i = into-words u.temps p.code (word_of p.result) in
        let j = into-words u.temps q.code (word_of q.result) in omega (arith, h, k, i, j, x, y)
    expression-words want (typed at of (Either a b)) from scope u =
        let p = piece c the_value a from scope (with_temp u) in
        let v = with_temp p.used in
        let q = piece c the_value b (from + in_expression a) scope v in
        let first = p.code ++ does (Copy u.temps (word_of p.result)) ∷ [] in
        let second = q.code ++ does (Copy u.temps (word_of q.result)) ∷ [] in
        let opposite = does (Compute p.used.temps operators.Xor whole_word (Temp u.temps) (Constant 1)) in
        let x = expression-words the_value a from scope (with_temp u) in
        let y = expression-words the_value b (from + in_expression a) scope v in
        let h = weigh-append first (opposite ∷ passed_over (Temp p.used.temps) second) in
        let k = passed-words (Temp p.used.temps) second in
        let i = into-words u.temps p.code (word_of p.result) in
        let j = into-words u.temps q.code (word_of q.result) in omega (arith, h, k, i, j, x, y)
    expression-words want (typed at of (Dereference e)) from scope u =
        let p = piece c the_value e from scope u in
        let r = reached c.types want at of (a_word (word_of p.result)) p.used in
        let x = expression-words the_value e from scope u in
        let y = reached-words c.types want at of (a_word (word_of p.result)) p.used in
        let h = weigh-append p.code r.code in omega (arith, h, x, y)
    expression-words want (typed at of (Select offset e)) from scope u =
        let p = piece c the_address e from scope u in
        let q = entry offset p.result p.used in
        let r = reached c.types want at of q.result q.used in
        let x = expression-words the_address e from scope u in
        let y = entry-words offset p.result p.used in
        let z = reached-words c.types want at of q.result q.used in
        let h = weigh-append p.code (q.code ++ r.code) in
        let k = weigh-append q.code r.code in omega (arith, h, k, x, y, z)
    expression-words want (typed at of (Follow offset e)) from scope u =
        let p = piece c the_value e from scope u in
        let q = entry offset (a_word (word_of p.result)) p.used in
        let r = reached c.types want at of q.result q.used in
        let x = expression-words the_value e from scope u in
        let y = entry-words offset (a_word (word_of p.result)) p.used in
        let z = reached-words c.types want at of q.result q.used in
        let h = weigh-append p.code (q.code ++ r.code) in
        let k = weigh-append q.code r.code in omega (arith, h, k, x, y, z)
    expression-words want (typed at of (Element e i)) from scope u =
        let p = piece c the_address e from scope u in
        let l = located p.result p.used in
        let j = piece c the_value i (from + in_expression e) scope l.used in
        let m = element (bytes_at c.types of) (word_of l.result) (word_of j.result) j.used in
        let r = reached c.types want at of m.result m.used in
        let x = expression-words the_address e from scope u in
        let y = located-words p.result p.used in
        let z = expression-words the_value i (from + in_expression e) scope l.used in
        let v = reached-words c.types want at of m.result m.used in
        let h = weigh-append p.code (l.code ++ (j.code ++ (m.code ++ r.code))) in
        let k = weigh-append l.code (j.code ++ (m.code ++ r.code)) in
        let n = weigh-append j.code (m.code ++ r.code) in omega (arith, h, k, n, x, y, z, v)
    expression-words want (typed at of (Index e i)) from scope u =
        let p = piece c the_value e from scope u in
        let j = piece c the_value i (from + in_expression e) scope p.used in
        let m = element (bytes_at c.types of) (word_of p.result) (word_of j.result) j.used in
        let r = reached c.types want at of m.result m.used in
        let x = expression-words the_value e from scope u in
        let z = expression-words the_value i (from + in_expression e) scope p.used in
        let v = reached-words c.types want at of m.result m.used in
        let h = weigh-append p.code (j.code ++ (m.code ++ r.code)) in
        let n = weigh-append j.code (m.code ++ r.code) in omega (arith, h, n, x, z, v)
    expression-words want (typed at of (Address e)) from scope u =
        let p = piece c the_address e from scope u in
        let x = expression-words the_address e from scope u in
        let y = located-words p.result p.used in
        let h = weigh-append p.code (located p.result p.used).code in omega (arith, h, x, y)
    expression-words want (typed at of (Decay e)) from scope u =
        let p = piece c the_address e from scope u in
        let x = expression-words the_address e from scope u in
        let y = located-words p.result p.used in
        let h = weigh-append p.code (located p.result p.used).code in omega (arith, h, x, y)
    expression-words want (typed at of (Let block e)) from scope u =
        let p = all c block from scope u in
        let q = piece c the_value e (from + in_block block) p.result p.used in
        let x = block-words block from scope u in
        let y = expression-words the_value e (from + in_block block) p.result p.used in
        let h = weigh-append p.code q.code in omega (arith, h, x, y)

    expressions-words : (es : Expressions) (from : ℕ) (scope : Holders) (u : Used) →
        weigh (pieces c es from scope u).code + 63 * length (pieces c es from scope u).result ≤ 250 * (typed_list_size es).nodes
    expressions-words no_more from scope u = omega arith
    expressions-words (then_one e es) from scope u =
        let p = piece c the_value e from scope u in
        let q = pieces c es (from + in_expression e) scope p.used in
        let x = expression-words the_value e from scope u in
        let y = expressions-words es (from + in_expression e) scope p.used in
        let h = weigh-append p.code q.code in omega (arith, h, x, y)

    targets-words : (es : Expressions) (from : ℕ) (scope : Holders) (u : Used) →
        weigh (targets c es from scope u).code + 63 * length (targets c es from scope u).result ≤ 250 * (typed_list_size es).nodes
    targets-words no_more from scope u = omega arith
    targets-words (then_one e es) from scope u =
        let p = aimed scope e (piece c the_address e from scope u) u in
        let q = targets c es (from + in_expression e) scope p.used in
        let x = expression-words the_address e from scope u in
        let z = aimed-words scope e (piece c the_address e from scope u) u in
        let y = targets-words es (from + in_expression e) scope p.used in
        let h = weigh-append p.code q.code in omega (arith, h, x, y, z)

    statement-words : (s : Statement) (from : ℕ) (scope : Holders) (u : Used) →
        weigh (one c s from scope u).code ≤ 250 * (typed_statement_size s).nodes
    statement-words (statement at (Var xs values)) from scope u =
        let p = pieces c values from scope u in
        let q = declare_all c at xs p.result (from + in_list values) scope p.used in
        let x = expressions-words values from scope u in
        let y = declares-words c at xs p.result (from + in_list values) scope p.used in
        let h = weigh-append p.code q.code in omega (arith, h, x, y)
    statement-words (statement at (Assign places values)) from scope u =
        let p = pieces c values from scope u in
        let q = targets c places (from + in_list values) scope p.used in
        let r = assigned_all c.types places q.result p.result q.used in
        let x = expressions-words values from scope u in
        let y = targets-words places (from + in_list values) scope p.used in
        let z = assigned-words c.types places q.result p.result q.used in
        let h = weigh-append p.code (q.code ++ r.code) in
        let k = weigh-append q.code r.code in omega (arith, h, k, x, y, z)
    statement-words (statement at (If test block)) from scope u =
        let p = piece c the_value test from scope u in
        let q = all c block (from + in_expression test) scope p.used in
        let x = expression-words the_value test from scope u in
        let y = block-words block (from + in_expression test) scope p.used in
        let h = weigh-append p.code (passed_over (word_of p.result) q.code) in
        let k = passed-words (word_of p.result) q.code in omega (arith, h, k, x, y)
    statement-words (statement at (IfElse test block other)) from scope u =
        let p = piece c the_value test from scope u in
        let q = all c block (from + in_expression test) scope p.used in
        let r = all c other (from + in_expression test + in_block block) scope q.used in
        let x = expression-words the_value test from scope u in
        let y = block-words block (from + in_expression test) scope p.used in
        let z = block-words other (from + in_expression test + in_block block) scope q.used in
        let h = weigh-append p.code (choice (word_of p.result) q.code r.code) in
        let k = choice-words (word_of p.result) q.code r.code in omega (arith, h, k, x, y, z)
    statement-words (statement at (While test body)) from scope u =
        let p = piece c the_value test from scope u in
        let q = all c body (from + in_expression test) scope p.used in
        let x = expression-words the_value test from scope u in
        let y = block-words body (from + in_expression test) scope p.used in
        let h = while-words p.code (word_of p.result) q.code in omega (arith, h, x, y)
    statement-words (statement at (Repeat body test)) from scope u =
        let p = all c body from scope u in
        let q = piece c the_value test (from + in_block body) p.result p.used in
        let code = p.code ++ q.code in
        let back = ends (repeats_unless (word_of q.result) (count_ends code)) ∷ [] in
        let x = block-words body from scope u in
        let y = expression-words the_value test (from + in_block body) p.result p.used in
        let h = loop-words (code ++ back) in
        let k = weigh-append code back in
        let l = weigh-append p.code q.code in omega (arith, h, k, l, x, y)
    statement-words (statement at (For x bounds body)) from scope u =
        let p = pieces c bounds from scope u in
        let number = number_of c.types x.of in
        let k = counting number p.result p.used.temps in
        let t = runs k (with_temp p.used) in
        let d = declare c at x (Some (a_word (Temp k.value))) (from + in_list bounds) scope t.used in
        let b = all c body (suc (from + in_list bounds)) d.result d.used in
        let inside = (d.code ++ b.code) ++ counted_on k ∷ [] in
        let v = expressions-words bounds from scope u in
        let w = runs-words number p.result p.used.temps (with_temp p.used) in
        let y = declare-words c.types at x (Some (a_word (Temp k.value))) (home_at c.homes (from + in_list bounds)) scope t.used in
        let z = block-words body (suc (from + in_list bounds)) d.result d.used in
        let h = weigh-append p.code (does (Copy k.value (word_at p.result 0)) ∷ while_loop t.code (word_of t.result) inside) in
        let i = while-words t.code (word_of t.result) inside in
        let j = weigh-append (d.code ++ b.code) (counted_on k ∷ []) in
        let l = weigh-append d.code b.code in omega (arith, h, i, j, l, v, w, y, z)
    statement-words (statement at (Do body)) from scope u = let h = block-words body from scope u in omega (arith, h)
    statement-words (statement at Break) from scope u = omega arith
    statement-words (statement at Finish) from scope u = omega arith
    statement-words (statement at (Return e)) from scope u =
        let p = piece c the_value e from scope u in
        let x = expression-words the_value e from scope u in
        let h = weigh-append p.code (ends (gives (part_of p.result)) ∷ []) in omega (arith, h, x)
    statement-words (statement at (Perform e)) from scope u =
        let x = expression-words the_value e from scope u in omega (arith, x)

    block-words : (ss : Statements) (from : ℕ) (scope : Holders) (u : Used) →
        weigh (all c ss from scope u).code ≤ 250 * (typed_block_size ss).nodes
    block-words done from scope u = omega arith
    block-words (and_then s ss) from scope u =
        let p = one c s from scope u in
        let q = all c ss (from + in_statement s) p.result p.used in
        let x = statement-words s from scope u in
        let y = block-words ss (from + in_statement s) p.result p.used in
        let h = weigh-append p.code q.code in omega (arith, h, x, y)

-- functions

pub received-count : (types : List TypeForm) (xs : List TypedName) (u : Used) → length (received types xs u).result ≡ length xs
received-count types [] u = refl
received-count types (x ∷ xs) u = by (is_aggregate types x.of) (λ v. received-count types xs v)
  where
    by : (b : Bool) → ((v : Used) → length (received types xs v).result ≡ length xs) →
        length (then_piece (if b then known (destinations.Area (length u.areas)) (with_area (bytes_at types x.of) u)
        else known (destinations.Temp u.temps) (with_temp u)) (λ to u'. taken (λ tos. to ∷ tos) (received types xs u'))).result
        ≡ suc (length xs)
    by true more = ap suc (more (with_area (bytes_at types x.of) u))
    by false more = ap suc (more (with_temp u))

-- what parameters take
fold-most : (f : Destination → ℕ) (n : ℕ) (tos : List Destination) → ((to : Destination) → f to ≤ 42) →
    fold (λ a x. a + f x) n tos ≤ n + 42 * length tos
fold-most f n [] most = omega arith
fold-most f n (to ∷ tos) most =
    let h = fold-most f (n + f to) tos most in
    let k = most to in omega (arith, h, k)

taken-most : (f : Destination → ℕ) (tos : List Destination) (other : ℕ) → ((t : ℕ) → f (destinations.Temp t) ≤ 42) →
    ((n : ℕ) → f (destinations.Area n) ≤ 42) → f destinations.Nothing ≤ 42 →
    79 + fold (λ a x. a + f x) 0 tos + other ≤ 79 + 42 * length tos + other
taken-most f tos other temp area nothing = let h = fold-most f 0 tos most in omega (arith, h)
  where
    most : (to : Destination) → f to ≤ 42
    most (destinations.Temp t) = temp t
    most (destinations.Area n) = area n
    most destinations.Nothing = nothing

parameters-words : (tac : Tac) → code_words tac ≤ 79 + 42 * length tac.parameters + sum_by block_words tac.blocks
parameters-words tac = taken-most _ tac.parameters (sum_by block_words tac.blocks) (λ t. omega arith) (λ n. omega arith) (omega arith)

last-words : (k : Callable) → weigh (ending k ∷ []) ≤ 11
last-words k = by (nat_eq k.body.result.0 unit.0)
  where
    by : (b : Bool) → weigh (ends (if b then gives (part_of no_word) else fails NoReturn k.at) ∷ []) ≤ 11
    by true = omega arith
    by false = omega arith

few-words : (store : Contents) (entries : List FnId) (k : Callable) →
    code_words (code_of store entries k) ≤ 250 * (code_of store entries k).nodes
few-words store entries k =
    let c = around store entries k in
    let tos = received store.types k.body.parameters nothing_used in
    let D = declare_all c k.at k.body.parameters (map given tos.result) 0 [] tos.used in
    let B = all c k.body.body (length k.body.parameters) D.result D.used in
    let items = (D.code ++ B.code) ++ ending k ∷ [] in
    let tac = code_of store entries k in
    let a = parameters-words tac in
    let b = sum-total block_words 0 (blocks_of items) in
    let d = blocks-weigh items empty_draft in
    let e = received-count store.types k.body.parameters nothing_used in
    let f = declares-words c k.at k.body.parameters (map given tos.result) 0 [] tos.used in
    let g = block-words c k.body.body (length k.body.parameters) D.result D.used in
    let h = last-words k in
    let i = weigh-append (D.code ++ B.code) (ending k ∷ []) in
    let j = weigh-append D.code B.code in omega (arith, a, b, d, e, f, g, h, i, j)

pub lowered-words : (store : Contents) (entries : List FnId) (k : Callable) →
    code_words (lowered store entries k) ≤ 250 * (lowered store entries k).nodes
lowered-words store entries k = by (are_narrow store.types (parameter_types k))
  where
    by : (b : Bool) → code_words (if b then code_of store entries k else unreached k)
        ≤ 250 * (if b then code_of store entries k else unreached k).nodes
    by true = few-words store entries k
    by false = omega arith
