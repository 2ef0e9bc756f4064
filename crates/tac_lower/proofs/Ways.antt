-- Each way round the flow graph of lowered code counts: code leaves no loop that isn't there, skips go on, and ways back count.
use Rattle.std.proofs.Common.{◌≡◌, ℕ, suc, ◌+◌, ◌<◌, Bool, true, false, List, [], ◌∷◌, ◌++◌, length, map, Option, Some, None, refl, sym, ap}
use Rattle.std.proofs.Common.{◌∙◌, subst, arith}
use Rattle.std.specs.Prelude.{◌&&◌, ◌||◌, nat_eq, nat_lt, if◌then◌else◌}
use Rattle.std.proofs.lemmas.Bool.{lt-ltb}
use Rattle.tl_base.specs.declared.place.Place.{Place}
use Rattle.tl_base.specs.declared.ids.TypeId.{TypeId}
use Rattle.tl_base.specs.declared.ids.FnId.{FnId}
use Rattle.lua_value.specs.declared.primitive.Primitive.TheVariants as primitives
use Rattle.terra_words.specs.declared.words.BinaryOperator.TheVariants as operators
use Rattle.terra_words.specs.declared.words.FaultKind.TheVariants.{NoReturn}
use Rattle.terra_words.specs.Words.{divides}
use Rattle.terra_types.specs.declared.types.TypeForm.{TypeForm}
use Rattle.terra_types.specs.Opening.{boolean, unit}
use Rattle.terra_term.specs.declared.operators.Operation.{Operation}
use Rattle.terra_term.specs.declared.operators.Operation.TheVariants as operations
use Rattle.terra_term.specs.declared.lists.TypedName.{TypedName}
use Rattle.terra_term.specs.TypedTerms.{Expression, typed, Constant', Variable, Global, Operate, Both, Either, Dereference, Select, Follow}
use Rattle.terra_term.specs.TypedTerms.{Element, Index, Address, Decay, Let, Expressions, no_more, then_one, Statement, statement, Var}
use Rattle.terra_term.specs.TypedTerms.{Assign, If, IfElse, While, Repeat, For, Do, Break, Finish, Return, Perform, Statements, done}
use Rattle.terra_term.specs.TypedTerms.{and_then, type_of, place_of}
use Rattle.terra_term.specs.Stores.{Contents, Callable}
use Rattle.terra_term.specs.WellTyped.{Within}
use Rattle.terra_meaning.specs.Values.{form_at, bytes_at, is_aggregate}
use Rattle.terra_meaning.specs.Frames.{Home, by_value, in_frame, home_at, frame_of}
use Rattle.terra_meaning.specs.Meaning.{Wanted, the_value, the_address, types_of, type_at, in_expression, in_list, in_statement, in_block}
use Rattle.tac_form.specs.declared.tac.Operand.{Operand}
use Rattle.tac_form.specs.declared.tac.Operand.TheVariants.{Temp, Constant}
use Rattle.tac_form.specs.declared.tac.Address.TheVariants as addresses
use Rattle.tac_form.specs.declared.tac.Destination.TheVariants as destinations
use Rattle.tac_form.specs.declared.tac.Instruction.{Instruction}
use Rattle.tac_form.specs.declared.tac.Instruction.TheVariants.{Compute, TestDivisor, Copy, Move}
use Rattle.tac_form.specs.declared.tac.Spot.{Spot}
use Rattle.tac_form.specs.declared.tac.Spot.TheVariants as spots
use Rattle.tac_form.specs.declared.tac.Block.{Block}
use Rattle.tac_form.specs.Fits.{Counted, blocks_count}
use Rattle.tac_lower.specs.Items.{Item, does, ends, Ending, skips, tests, repeats, repeats_unless, leaves, gives, fails, count_ends}
use Rattle.tac_lower.specs.Items.{loop_of, exit_of, Draft, empty_draft, with_item, with_items}
use Rattle.tac_lower.specs.Pieces.{Used, with_temp, with_area, Piece, known, doing, then_piece, taken, Result, a_word, an_area, an_offset}
use Rattle.tac_lower.specs.Pieces.{no_word, word_of, part_of, address_of, word_at, result_at, rest, whole_word, number_of, is_bool, given}
use Rattle.tac_lower.specs.Pieces.{compute, copied, located, loaded_bit, loaded_area, loaded_word, loaded, stored_part, stored, placed}
use Rattle.tac_lower.specs.Pieces.{Holder, in_temp, at_offset, Holders, holder_of, Around, declare_at, declare, declare_all, first_of}
use Rattle.tac_lower.specs.Lowering.{cut, is_whole, reached, variable, entry, element, form_of, turned_over, extracted, constructed, call}
use Rattle.tac_lower.specs.Lowering.{call_value, signature_in, operation, target_at, aimed, Target, to_temp, to_place, assigned}
use Rattle.tac_lower.specs.Lowering.{assigned_all, passed_over, choice, counting, runs, counted_on, while_loop, piece, pieces, targets, one}
use Rattle.tac_lower.specs.Lowering.{all, around, ending, received, code_of, unreached, are_narrow, parameter_types, lowered}
use Rattle.tac_lower.specs.Needs.{Needs, NeedsAll, NeedsTargets, NeedsOne, NeedsBlock, BodyNeeds, in_let, declared_names, names_after}
use Rattle.tac_lower.specs.Needs.{names_after_one, OperationNeeds, CallNeeds}

-- code that doesn't leave a loop around it
abbrev StaysIn : Ending → Type 0
StaysIn leaves = ⊥
StaysIn _ = Unit {0}

abbrev Stays : List Item → Type 0
Stays [] = Unit {0}
Stays (does i ∷ is) = Stays is
Stays (ends e ∷ is) = StaysIn e × Stays is

both : (a b : List Item) → Stays a → Stays b → Stays (a ++ b)
both [] b x y = y
both (does i ∷ a) b x y = both a b x y
both (ends e ∷ a) b x y = (x.0, both a b x.1 y)

-- a loop's code doesn't leave the one around it
loop-stays : (is : List Item) → Stays (loop_of is)
loop-stays [] = tt
loop-stays (does i ∷ is) = loop-stays is
loop-stays (ends leaves ∷ is) = (tt, loop-stays is)
loop-stays (ends (skips k) ∷ is) = (tt, loop-stays is)
loop-stays (ends (tests a k) ∷ is) = (tt, loop-stays is)
loop-stays (ends (repeats k) ∷ is) = (tt, loop-stays is)
loop-stays (ends (repeats_unless a k) ∷ is) = (tt, loop-stays is)
loop-stays (ends (gives v) ∷ is) = (tt, loop-stays is)
loop-stays (ends (fails kind at) ∷ is) = (tt, loop-stays is)

while-stays : (code : List Item) (test : Operand) (body : List Item) → Stays (while_loop code test body)
while-stays code test body = (
  tt,
  loop-stays (code ++ ends (tests test (suc (count_ends body))) ∷
      (body ++ ends (repeats (count_ends code + suc (count_ends body))) ∷ [])),
)

passed-stays : (a : Operand) (is : List Item) → Stays is → Stays (passed_over a is)
passed-stays a is h = (tt, both is (ends (skips 0) ∷ []) h (tt, tt))

-- pieces without terms

located-stays : (r : Result) (u : Used) → Stays (located r u).code
located-stays (a_word o) u = tt
located-stays (an_area n) u = tt
located-stays (an_offset o) u = tt

loaded-stays : (types : List TypeForm) (of : TypeId) (from : Spot) (u : Used) → Stays (loaded types of from u).code
loaded-stays types of from u = by (is_aggregate types of) (nat_eq (bytes_at types of) 0)
  where
    area : (b : Bool) → Stays (if b then known (an_area (length u.areas)) (with_area (bytes_at types of) u)
        else doing (an_area (length u.areas)) (Move (spots.Area (length u.areas) 0) from (bytes_at types of))
        (with_area (bytes_at types of) u)).code
    area true = tt
    area false = tt

    bit : (b : Bool) (r : Result) (v : Used) → Stays (loaded_bit b r v).code
    bit true r v = tt
    bit false r v = tt

    by : (agg none : Bool) →
        Stays (if agg then loaded_area (bytes_at types of) from u else (if none then known no_word u else loaded_word types of from u)).code
    by true none = area (nat_eq (bytes_at types of) 0)
    by false true = tt
    by false false = bit (is_bool types of) (a_word (Temp u.temps)) (with_temp u)

stored-stays : (types : List TypeForm) (of : TypeId) (to : Spot) (r : Result) (u : Used) → Stays (stored types of to r u).code
stored-stays types of to r u = by (nat_eq (bytes_at types of) 0) r
  where
    by : (b : Bool) (q : Result) → Stays (if b then known (tt {0}) u else stored_part types of to q u).code
    by true q = tt
    by false (a_word o) = tt
    by false (an_area n) = tt
    by false (an_offset o) = tt

placed-stays : (types : List TypeForm) (of : TypeId) (to : Spot) (r : Result) (u : Used) → Stays (placed types of to r u).code
placed-stays types of to (an_area n) u = stored-stays types of to (an_area n) u
placed-stays types of to (a_word o) u = by (nat_eq (bytes_at types of) 0)
  where
    by : (b : Bool) → Stays (if b then taken (λ t. tt {0}) (copied o u) else stored types of to (a_word o) u).code
    by true = tt
    by false = stored-stays types of to (a_word o) u
placed-stays types of to (an_offset o) u = by (nat_eq (bytes_at types of) 0)
  where
    by : (b : Bool) → Stays (if b then taken (λ t. tt {0}) (copied (Constant 0) u) else stored types of to (an_offset o) u).code
    by true = tt
    by false = stored-stays types of to (an_offset o) u

declare-stays : (types : List TypeForm) (at : Place) (x : TypedName) (v : Option Result) (home : Home) (scope : Holders) (u : Used) →
    Stays (declare_at types at x v home scope u).code
declare-stays types at x None by_value scope u = tt
declare-stays types at x (Some v) by_value scope u = tt
declare-stays types at x None (in_frame o) scope u = tt
declare-stays types at x (Some v) (in_frame o) scope u = placed-stays types x.of (spots.Region at (addresses.Frame o)) v u

declares-stay : (c : Around) (at : Place) (xs : List TypedName) (vs : List Result) (k : ℕ) (scope : Holders) (u : Used) →
    Stays (declare_all c at xs vs k scope u).code
declares-stay c at [] vs k scope u = tt
declares-stay c at (x ∷ xs) vs k scope u =
    let p = declare c at x (first_of vs) k scope u in
    both p.code (declare_all c at xs (rest vs) (suc k) p.result p.used).code
    (declare-stays c.types at x (first_of vs) (home_at c.homes k) scope u)
    (declares-stay c at xs (rest vs) (suc k) p.result p.used)

reached-stays : (types : List TypeForm) (want : Wanted) (at : Place) (of : TypeId) (r : Result) (u : Used) →
    Stays (reached types want at of r u).code
reached-stays types the_value at of r u = loaded-stays types of (spots.Region at (address_of r)) u
reached-stays types the_address at of r u = tt

variable-stays : (types : List TypeForm) (want : Wanted) (at : Place) (of : TypeId) (o : Option Holder) (u : Used) →
    Stays (variable types want at of o u).code
variable-stays types want at of None u = tt
variable-stays types want at of (Some (in_temp t)) u = tt
variable-stays types want at of (Some (at_offset o)) u = reached-stays types want at of (an_offset o) u

entry-stays : (offset : ℕ) (r : Result) (u : Used) → Stays (entry offset r u).code
entry-stays offset (an_offset o) u = tt
entry-stays offset (a_word o) u = by (nat_eq offset 0)
  where
    by : (b : Bool) → Stays (if b then known (a_word o) u else compute operators.Add whole_word o (Constant offset) u).code
    by true = tt
    by false = tt
entry-stays offset (an_area n) u = by (nat_eq offset 0)
  where
    by : (b : Bool) → Stays (if b then known (a_word (Constant 0)) u else compute operators.Add whole_word (Constant 0)
        (Constant offset) u).code
    by true = tt
    by false = tt

constructed-stays : (types : List TypeForm) (area : ℕ) (os : List ℕ) (ts : List TypeId) (vs : List Result) (u : Used) →
    Stays (constructed types area os ts vs u).code
constructed-stays types area [] ts vs u = tt
constructed-stays types area (o ∷ os) [] vs u = tt
constructed-stays types area (o ∷ os) (t ∷ ts) [] u = tt
constructed-stays types area (o ∷ os) (t ∷ ts) (v ∷ vs) u =
    let p = stored types t (spots.Area area o) v u in
    both p.code (constructed types area os ts vs p.used).code (stored-stays types t (spots.Area area o) v u)
    (constructed-stays types area os ts vs p.used)

extracted-stays : (types : List TypeForm) (of : TypeId) (offset : ℕ) (r : Result) (u : Used) → Stays (extracted types of offset r u).code
extracted-stays types of offset (an_area n) u = loaded-stays types of (spots.Area n offset) u
extracted-stays types of offset (a_word o) u = tt
extracted-stays types of offset (an_offset o) u = tt

operation-stays : (c : Around) (at : Place) (of : TypeId) (op : Operation) (ts : List TypeId) (vs : List Result) (u : Used) →
    Stays (operation c at of op ts vs u).code
operation-stays c at of operations.Negate ts vs u = tt
operation-stays c at of operations.Not ts vs u = by (nat_eq of.0 boolean.0)
  where
    by : (b : Bool) → Stays (if b then compute operators.Xor whole_word (word_at vs 0) (Constant 1) u
        else turned_over (number_of c.types of) (word_at vs 0) u).code
    by true = tt
    by false = tt
operation-stays c at of (operations.Binary op) ts vs u = by (divides op)
  where
    by : (b : Bool) → Stays (then_piece (if b then doing (tt {0}) (TestDivisor at (word_at vs 1)) u else known (tt {0}) u)
        (λ t u'. compute op (form_of op (number_of c.types (type_at ts 0)) (word_at vs 1)) (word_at vs 0) (word_at vs 1) u')).code
    by true = tt
    by false = tt
operation-stays c at of operations.StepForward ts vs u = tt
operation-stays c at of operations.StepBack ts vs u = tt
operation-stays c at of operations.Difference ts vs u = tt
operation-stays c at of operations.Convert ts vs u = by (nat_eq of.0 boolean.0) (is_whole (number_of c.types of).size) (word_at vs 0)
  where
    by : (b whole : Bool) (x : Operand) → Stays (if b then compute operators.NotEqual whole_word x (Constant 0) u
        else (if whole then known (a_word x) u else cut (number_of c.types of) x u)).code
    by true whole x = tt
    by false true x = tt
    by false false (Temp t) = tt
    by false false (Constant k) = tt
operation-stays c at of (operations.Extract offset) ts vs u = extracted-stays c.types of offset (result_at vs 0) u
operation-stays c at of (operations.Call f) ts vs u = by (is_aggregate c.types of)
  where
    by : (b : Bool) → Stays (then_piece (if b then known (destinations.Area (length u.areas)) (with_area (bytes_at c.types of) u)
        else known (destinations.Temp u.temps) (with_temp u)) (λ to u'. call at f vs to u')).code
    by true = tt
    by false = tt
operation-stays c at of (operations.Primitive primitives.PutByte) ts vs u = tt
operation-stays c at of (operations.Primitive primitives.Write) ts vs u = tt
operation-stays c at of (operations.Primitive primitives.Alloc) ts vs u = tt
operation-stays c at of operations.CallValue ts vs u = by (is_aggregate c.types of)
  where
    by : (b : Bool) → Stays (then_piece (if b then known (destinations.Area (length u.areas)) (with_area (bytes_at c.types of) u)
        else known (destinations.Temp u.temps) (with_temp u))
        (λ to u'. call_value at (signature_in (form_at c.types (type_at ts 0))) vs to u')).code
    by true = tt
    by false = tt
operation-stays c at of (operations.Construct offsets) ts vs u =
    constructed-stays c.types (length u.areas) offsets ts vs (with_area (bytes_at c.types of) u)

-- assignments

target-stays : (o : Option Holder) (p : Piece Result) (u : Used) → Stays p.code → Stays (target_at o p u).code
target-stays None p u h = h
target-stays (Some (in_temp t)) p u h = tt
target-stays (Some (at_offset o)) p u h = h

aimed-stays : (scope : Holders) (e : Expression) (p : Piece Result) (u : Used) → Stays p.code → Stays (aimed scope e p u).code
aimed-stays scope (typed at of (Variable x)) p u h = target-stays (holder_of x scope) p u h
aimed-stays scope (typed at of (Constant' c')) p u h = h
aimed-stays scope (typed at of (Global a')) p u h = h
aimed-stays scope (typed at of (Operate op es)) p u h = h
aimed-stays scope (typed at of (Both b1 b2)) p u h = h
aimed-stays scope (typed at of (Either b1 b2)) p u h = h
aimed-stays scope (typed at of (Dereference q)) p u h = h
aimed-stays scope (typed at of (Select o e1)) p u h = h
aimed-stays scope (typed at of (Follow o q)) p u h = h
aimed-stays scope (typed at of (Element b1 i)) p u h = h
aimed-stays scope (typed at of (Index q i)) p u h = h
aimed-stays scope (typed at of (Address e1)) p u h = h
aimed-stays scope (typed at of (Decay e1)) p u h = h
aimed-stays scope (typed at of (Let ss e1)) p u h = h

assigned-stays : (types : List TypeForm) (es : Expressions) (ps : List Target) (vs : List Result) (u : Used) →
    Stays (assigned_all types es ps vs u).code
assigned-stays types no_more ps vs u = tt
assigned-stays types (then_one e es) [] vs u = tt
assigned-stays types (then_one e es) (to_temp t ∷ ps) vs u = assigned-stays types es ps (rest vs) u
assigned-stays types (then_one e es) (to_place r ∷ ps) vs u =
    let p = assigned types e (to_place r) (result_at vs 0) u in
    both p.code (assigned_all types es ps (rest vs) p.used).code
    (stored-stays types (type_of e) (spots.Region (place_of e) (address_of r)) (result_at vs 0) u)
    (assigned-stays types es ps (rest vs) p.used)

-- terms; a break stands in a loop

module _ (c : Around) (types : List TypeForm) (frame : ℕ) (outside : Within) (Ops : Operation → List TypeId → TypeId → Type 0) where
  abbrev NeedsOf : Wanted → List TypedName → ℕ → Expression → Type 0
  NeedsOf = Needs types frame c.entries c.homes outside Ops

  abbrev NeedsEach : List TypedName → ℕ → Expressions → Type 0
  NeedsEach = NeedsAll types frame c.entries c.homes outside Ops

  abbrev NeedsAims : List TypedName → ℕ → Expressions → Type 0
  NeedsAims = NeedsTargets types frame c.entries c.homes outside Ops

  abbrev NeedsStatement : Within → List TypedName → ℕ → Statement → Type 0
  NeedsStatement = NeedsOne types frame c.entries c.homes outside Ops

  abbrev NeedsStatements : Within → List TypedName → ℕ → Statements → Type 0
  NeedsStatements = NeedsBlock types frame c.entries c.homes outside Ops

  mutual
    expression-stays : (want : Wanted) (e : Expression) (from : ℕ) (names : List TypedName) (scope : Holders) (u : Used) →
        NeedsOf want names from e →
        Stays (piece c want e from scope u).code
    expression-stays want (typed at of (Constant' k)) from names scope u h = tt
    expression-stays want (typed at of (Variable x)) from names scope u h = variable-stays c.types want at of (holder_of x scope) u
    expression-stays want (typed at of (Global a)) from names scope u h = reached-stays c.types want at of (a_word (Constant a)) u
    expression-stays want (typed at of (Operate op es)) from names scope u h =
        let p = pieces c es from scope u in
        both p.code (operation c at of op (types_of es) p.result p.used).code (expressions-stay es from names scope u h.1)
        (operation-stays c at of op (types_of es) p.result p.used)
    expression-stays want (typed at of (Both x y)) from names scope u h =
        let p = piece c the_value x from scope (with_temp u) in
        let q = piece c the_value y (from + in_expression x) scope p.used in
        both (p.code ++ does (Copy u.temps (word_of p.result)) ∷ [])
        (passed_over (Temp u.temps) (q.code ++ does (Copy u.temps (word_of q.result)) ∷ []))
        (both p.code (does (Copy u.temps (word_of p.result)) ∷ []) (expression-stays the_value x from names scope (with_temp u) h.1) tt)
        (passed-stays (Temp u.temps) (q.code ++ does (Copy u.temps (word_of q.result)) ∷ [])
        (both q.code (does (Copy u.temps (word_of q.result)) ∷ [])
        (expression-stays the_value y (from + in_expression x) names scope p.used h.2) tt))
    expression-stays want (typed at of (Either x y)) from names scope u h =
        let p = piece c the_value x from scope (with_temp u) in
        let v = with_temp p.used in
        let q = piece c the_value y (from + in_expression x) scope v in
        both (p.code ++ does (Copy u.temps (word_of p.result)) ∷ [])
        (does (Compute p.used.temps operators.Xor whole_word (Temp u.temps) (Constant 1)) ∷
        passed_over (Temp p.used.temps) (q.code ++ does (Copy u.temps (word_of q.result)) ∷ []))
        (both p.code (does (Copy u.temps (word_of p.result)) ∷ []) (expression-stays the_value x from names scope (with_temp u) h.1) tt)
        (passed-stays (Temp p.used.temps) (q.code ++ does (Copy u.temps (word_of q.result)) ∷ [])
        (both q.code (does (Copy u.temps (word_of q.result)) ∷ [])
        (expression-stays the_value y (from + in_expression x) names scope v h.2) tt))
    expression-stays want (typed at of (Dereference q)) from names scope u h =
        let p = piece c the_value q from scope u in
        both p.code (reached c.types want at of (a_word (word_of p.result)) p.used).code
        (expression-stays the_value q from names scope u h)
        (reached-stays c.types want at of (a_word (word_of p.result)) p.used)
    expression-stays want (typed at of (Select offset e)) from names scope u h =
        let p = piece c the_address e from scope u in
        let q = entry offset p.result p.used in
        let r = reached c.types want at of q.result q.used in
        both p.code (q.code ++ r.code) (expression-stays the_address e from names scope u h.0)
        (both q.code r.code (entry-stays offset p.result p.used) (reached-stays c.types want at of q.result q.used))
    expression-stays want (typed at of (Follow offset e)) from names scope u h =
        let p = piece c the_value e from scope u in
        let q = entry offset (a_word (word_of p.result)) p.used in
        let r = reached c.types want at of q.result q.used in
        both p.code (q.code ++ r.code) (expression-stays the_value e from names scope u h)
        (both q.code r.code (entry-stays offset (a_word (word_of p.result)) p.used)
        (reached-stays c.types want at of q.result q.used))
    expression-stays want (typed at of (Element e i)) from names scope u h =
        let p = piece c the_address e from scope u in
        let l = located p.result p.used in
        let j = piece c the_value i (from + in_expression e) scope l.used in
        let m = element (bytes_at c.types of) (word_of l.result) (word_of j.result) j.used in
        let r = reached c.types want at of m.result m.used in
        both p.code (l.code ++ (j.code ++ (m.code ++ r.code))) (expression-stays the_address e from names scope u h.0)
        (both l.code (j.code ++ (m.code ++ r.code)) (located-stays p.result p.used)
        (both j.code (m.code ++ r.code) (expression-stays the_value i (from + in_expression e) names scope l.used h.1)
        (reached-stays c.types want at of m.result m.used)))
    expression-stays want (typed at of (Index e i)) from names scope u h =
        let p = piece c the_value e from scope u in
        let j = piece c the_value i (from + in_expression e) scope p.used in
        let m = element (bytes_at c.types of) (word_of p.result) (word_of j.result) j.used in
        let r = reached c.types want at of m.result m.used in
        both p.code (j.code ++ (m.code ++ r.code)) (expression-stays the_value e from names scope u h.0)
        (both j.code (m.code ++ r.code) (expression-stays the_value i (from + in_expression e) names scope p.used h.1)
        (reached-stays c.types want at of m.result m.used))
    expression-stays want (typed at of (Address e)) from names scope u h =
        let p = piece c the_address e from scope u in
        both p.code (located p.result p.used).code (expression-stays the_address e from names scope u h.0) (located-stays p.result p.used)
    expression-stays want (typed at of (Decay e)) from names scope u h =
        let p = piece c the_address e from scope u in
        both p.code (located p.result p.used).code (expression-stays the_address e from names scope u h.0) (located-stays p.result p.used)
    expression-stays want (typed at of (Let block e)) from names scope u h =
        let p = all c block from scope u in
        both p.code (piece c the_value e (from + in_block block) p.result p.used).code
        (block-stays block from (in_let outside) names scope u refl h.1)
        (expression-stays the_value e (from + in_block block) (names_after block names) p.result p.used h.2)

    expressions-stay : (es : Expressions) (from : ℕ) (names : List TypedName) (scope : Holders) (u : Used) → NeedsEach names from es →
        Stays (pieces c es from scope u).code
    expressions-stay no_more from names scope u h = tt
    expressions-stay (then_one e es) from names scope u h =
        let p = piece c the_value e from scope u in
        both p.code (pieces c es (from + in_expression e) scope p.used).code (expression-stays the_value e from names scope u h.0)
        (expressions-stay es (from + in_expression e) names scope p.used h.1)

    targets-stay : (es : Expressions) (from : ℕ) (names : List TypedName) (scope : Holders) (u : Used) → NeedsAims names from es →
        Stays (targets c es from scope u).code
    targets-stay no_more from names scope u h = tt
    targets-stay (then_one e es) from names scope u h =
        let p = aimed scope e (piece c the_address e from scope u) u in
        both p.code (targets c es (from + in_expression e) scope p.used).code
        (aimed-stays scope e (piece c the_address e from scope u) u (expression-stays the_address e from names scope u h.0))
        (targets-stay es (from + in_expression e) names scope p.used h.1)

    statement-stays : (s : Statement) (from : ℕ) (w : Within) (names : List TypedName) (scope : Holders) (u : Used) → w.in_loop ≡ false →
        NeedsStatement w names from s → Stays (one c s from scope u).code
    statement-stays (statement at (Var xs values)) from w names scope u outer h =
        let p = pieces c values from scope u in
        both p.code (declare_all c at xs p.result (from + in_list values) scope p.used).code
        (expressions-stay values from names scope u h.0)
        (declares-stay c at xs p.result (from + in_list values) scope p.used)
    statement-stays (statement at (Assign places values)) from w names scope u outer h =
        let p = pieces c values from scope u in
        let q = targets c places (from + in_list values) scope p.used in
        both p.code (q.code ++ (assigned_all c.types places q.result p.result q.used).code)
        (expressions-stay values from names scope u h.0)
        (both q.code (assigned_all c.types places q.result p.result q.used).code
        (targets-stay places (from + in_list values) names scope p.used h.1)
        (assigned-stays c.types places q.result p.result q.used))
    statement-stays (statement at (If test block)) from w names scope u outer h =
        let p = piece c the_value test from scope u in
        let q = all c block (from + in_expression test) scope p.used in
        both p.code (passed_over (word_of p.result) q.code) (expression-stays the_value test from names scope u h.0)
        (passed-stays (word_of p.result) q.code (block-stays block (from + in_expression test) w names scope p.used outer h.1))
    statement-stays (statement at (IfElse test block other)) from w names scope u outer h =
        let p = piece c the_value test from scope u in
        let q = all c block (from + in_expression test) scope p.used in
        let r = all c other (from + in_expression test + in_block block) scope q.used in
        both p.code (choice (word_of p.result) q.code r.code) (expression-stays the_value test from names scope u h.0) (
          tt,
          both q.code (ends (skips (suc (count_ends r.code))) ∷ (r.code ++ ends (skips 0) ∷ []))
              (block-stays block (from + in_expression test) w names scope p.used outer h.1) (
                tt,
                both r.code (ends (skips 0) ∷ []) (block-stays other (from + in_expression test + in_block block) w names scope q.used outer
                    h.2) (tt, tt),
              ),
        )
    statement-stays (statement at (While test body)) from w names scope u outer h =
        let p = piece c the_value test from scope u in
        let q = all c body (from + in_expression test) scope p.used in (
          tt,
          loop-stays (p.code ++ ends (tests (word_of p.result) (suc (count_ends q.code))) ∷
              (q.code ++ ends (repeats (count_ends p.code + suc (count_ends q.code))) ∷ [])),
        )
    statement-stays (statement at (Repeat body test)) from w names scope u outer h =
        let p = all c body from scope u in
        let q = piece c the_value test (from + in_block body) p.result p.used in
        (tt, loop-stays ((p.code ++ q.code) ++ ends (repeats_unless (word_of q.result) (count_ends (p.code ++ q.code))) ∷ []))
    statement-stays (statement at (For x bounds body)) from w names scope u outer h =
        let p = pieces c bounds from scope u in
        let k = counting (number_of c.types x.of) p.result p.used.temps in
        let t = runs k (with_temp p.used) in
        let d = declare c at x (Some (a_word (Temp k.value))) (from + in_list bounds) scope t.used in
        let b = all c body (suc (from + in_list bounds)) d.result d.used in
        let inside = (d.code ++ b.code) ++ counted_on k ∷ [] in
        both p.code (does (Copy k.value (word_at p.result 0)) ∷ while_loop t.code (word_of t.result) inside)
        (expressions-stay bounds from names scope u h.0) (while-stays t.code (word_of t.result) inside)
    statement-stays (statement at (Do body)) from w names scope u outer h = block-stays body from w names scope u outer h
    statement-stays (statement at Break) from w names scope u outer h =
        let bad : true ≡ false = sym h ∙ outer in absurd (grind (arith, bad))
    statement-stays (statement at Finish) from w names scope u outer h = (tt, tt)
    statement-stays (statement at (Return e)) from w names scope u outer h =
        let p = piece c the_value e from scope u in
        both p.code (ends (gives (part_of p.result)) ∷ []) (expression-stays the_value e from names scope u h.0) (tt, tt)
    statement-stays (statement at (Perform e)) from w names scope u outer h = expression-stays the_value e from names scope u h

    block-stays : (ss : Statements) (from : ℕ) (w : Within) (names : List TypedName) (scope : Holders) (u : Used) → w.in_loop ≡ false →
        NeedsStatements w names from ss → Stays (all c ss from scope u).code
    block-stays done from w names scope u outer h = tt
    block-stays (and_then s ss) from w names scope u outer h =
        let p = one c s from scope u in
        both p.code (all c ss (from + in_statement s) p.result p.used).code (statement-stays s from w names scope u outer h.0)
        (block-stays ss (from + in_statement s) w (names_after_one s names) p.result p.used outer h.1)

-- blocks

exit-counts : (n : ℕ) (e : Ending) (is : List Instruction) → StaysIn e →
    blocks_count n (record { instructions = is; exit = exit_of 0 n e } ∷ []) ≡ true
exit-counts n leaves is h = absurd h
exit-counts n (skips k) is h =
    let lt : n < suc n + k = omega arith in ap (λ b. (false || b) && true) (lt-ltb n (suc n + k) lt)
exit-counts n (tests a k) is h =
    let lt : n < suc n + k = omega arith in
    let on : n < suc n = omega arith in
    ap (λ b. ((false || nat_lt n (suc n)) && (false || b)) && true) (lt-ltb n (suc n + k) lt)
    ∙ ap (λ b. ((false || b) && true) && true) (lt-ltb n (suc n) on)
exit-counts n (repeats k) is h = refl
exit-counts n (repeats_unless a k) is h =
    let on : n < suc n = omega arith in ap (λ b. ((false || b) && true) && true) (lt-ltb n (suc n) on)
exit-counts n (gives v) is h = refl
exit-counts n (fails kind at) is h = refl

left : (a b : Bool) → (a && b) ≡ true → (a && true) ≡ true
left true b h = refl
left false b h = h

right : (a b : Bool) → (a && b) ≡ true → b ≡ true
right true b h = h
right false b h = absurd (grind (arith, h))

joined : (a b : Bool) → (a && true) ≡ true → b ≡ true → (a && b) ≡ true
joined true b h g = g
joined false b h g = h

count-append : (from : ℕ) (bs : List Block) (b : Block) → blocks_count from bs ≡ true → blocks_count (from + length bs) (b ∷ []) ≡ true →
    blocks_count from (bs ++ b ∷ []) ≡ true
count-append from [] b h g = let e : from + 0 ≡ from = omega arith in subst (λ n. blocks_count n (b ∷ []) ≡ true) e g
count-append from (x ∷ xs) b h g =
    let e : from + length (x ∷ xs) ≡ suc from + length xs = omega arith in
    joined _ (blocks_count (suc from) (xs ++ b ∷ [])) (left _ (blocks_count (suc from) xs) h)
    (count-append (suc from) xs b (right _ (blocks_count (suc from) xs) h) (subst (λ n. blocks_count n (b ∷ []) ≡ true) e g))

items-count : (is : List Item) (d : Draft) → Stays is → blocks_count 0 d.blocks ≡ true → blocks_count 0 (with_items d is).blocks ≡ true
items-count [] d h g = g
items-count (does i ∷ is) d h g = items-count is (with_item d (does i)) h g
items-count (ends e ∷ is) d h g =
    items-count is (with_item d (ends e)) h.1
    (count-append 0 d.blocks (record { instructions = d.code; exit = exit_of 0 (length d.blocks) e }) g
    (subst (λ n. blocks_count n (record { instructions = d.code; exit = exit_of 0 (length d.blocks) e } ∷ []) ≡ true)
    (let e : length d.blocks ≡ 0 + length d.blocks = omega arith in e)
    (exit-counts (length d.blocks) e d.code h.0)))

ending-stays : (k : Callable) → Stays (ending k ∷ [])
ending-stays k = by (nat_eq k.body.result.0 unit.0)
  where
    by : (b : Bool) → Stays (ends (if b then gives (part_of no_word) else fails NoReturn k.at) ∷ [])
    by true = (tt, tt)
    by false = (tt, tt)

reached-counted : (store : Contents) (entries : List FnId) (k : Callable) → BodyNeeds store entries k → Counted (code_of store entries k)
reached-counted store entries k needs =
    let c = around store entries k in
    let tos = received store.types k.body.parameters (record { temps = 0; areas = [] }) in
    let D = declare_all c k.at k.body.parameters (map given tos.result) 0 [] tos.used in
    let B = all c k.body.body (length k.body.parameters) D.result D.used in
    let w : Within = record { result = k.body.result; in_loop = false; in_let = false } in
    items-count ((D.code ++ B.code) ++ ending k ∷ []) empty_draft
    (both (D.code ++ B.code) (ending k ∷ [])
    (both D.code B.code (declares-stay c k.at k.body.parameters (map given tos.result) 0 [] tos.used)
    (block-stays c store.types (frame_of store.types k.body).size w (OperationNeeds store.types (CallNeeds store)) k.body.body
    (length k.body.parameters) w
    (declared_names k.body.parameters []) D.result D.used refl needs.1))
    (ending-stays k)) refl

pub code-counted : (store : Contents) (entries : List FnId) (k : Callable) → BodyNeeds store entries k → Counted (lowered store entries k)
code-counted store entries k needs = by (are_narrow store.types (parameter_types k))
  where
    by : (b : Bool) → Counted (if b then code_of store entries k else unreached k)
    by true = reached-counted store entries k needs
    by false = refl
