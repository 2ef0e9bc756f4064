-- Small functions with what they mean, computed. The terms are those of this source, and the results are those of
-- another reading of the rules:
--
--     struct P { a : int64; b : int64 }
--     terra fib(n : int) : int if n < 2 then return n end return fib(n - 1) + fib(n - 2) end
--     terra sum(n : int) : int var t = 0 for i = 0, n do t = t + i end return t end
--     terra keep() : int var x = 5 var q = &x @q = 9 return x end
--     terra div(a : int, b : int) : int return a / b end
--     terra wild() : {} var p : &int = nil @p = 1 end
--     terra pair(x : int64) : int64 var p : P p.a = x p.b = 3 var q = p q.a = 0 return p.a * p.b + q.a end
--     terra out() : {} var i : uint8 = 65 while true do terralib.putbyte(i) i = i + 1 if i == 68 then break end end end
--     terra apart() : int64 var a : int64 = 1 var b : int64 = 2 return [int64](&b) - [int64](&a) end
--     terra none(b : bool) : int if b then return 1 end end
use Rattle.std.specs.Prelude.{◌≡◌, refl, ℕ, true, List, [], ◌∷◌, ◌++◌, Some, None}
use Rattle.std.specs.List.{list_all}
use Rattle.tl_base.specs.declared.place.Place.{Place}
use Rattle.tl_base.specs.declared.ids.SymId.{SymId}
use Rattle.tl_base.specs.declared.ids.TypeId.{TypeId}
use Rattle.tl_base.specs.declared.ids.FnId.{FnId}
use Rattle.terra_memory.specs.Numbers.{number_of, low_bytes}
use Rattle.terra_memory.specs.Region.{range_of, alloc_of}
use Rattle.terra_words.specs.declared.words.FaultKind.TheVariants.{BadAddress, DivZero, NoReturn}
use Rattle.terra_words.specs.declared.words.BinaryOperator.TheVariants as operators
use Rattle.terra_words.specs.Words.{wrapped, applied, negated, complemented}
use Rattle.terra_types.specs.declared.layout.Laid.{Laid}
use Rattle.terra_types.specs.declared.types.TypeForm.{TypeForm}
use Rattle.terra_types.specs.declared.types.TypeForm.TheVariants as forms
use Rattle.terra_types.specs.Opening.{opening_types}
use Rattle.terra_term.specs.declared.operators.Constant.TheVariants as constants
use Rattle.terra_term.specs.declared.operators.Operation.TheVariants as operations
use Rattle.lua_value.specs.declared.primitive.Primitive.TheVariants.{PutByte}
use Rattle.terra_term.specs.declared.lists.TypedName.{TypedName}
use Rattle.terra_term.specs.declared.store.Function.{Function}
use Rattle.terra_term.specs.declared.store.FunctionState.TheVariants as states
use Rattle.terra_term.specs.TypedTerms as items
use Rattle.terra_term.specs.Stores.{Contents}
use Rattle.terra_term.specs.WellTyped.{body_typed}
use Rattle.terra_term.specs.TypedTerms.{Expression, typed, Form, Constant', Variable, Operate, Dereference, Select, Address, no_more}
use Rattle.terra_term.specs.TypedTerms.{then_one, statement, Var, Assign, If, While, For, Break, Return, Perform, done, and_then, Body}
use Rattle.terra_words.specs.Runs.{Value, word, put_bytes, Returned, Fault, Run, Over, More}
use Rattle.terra_meaning.specs.Meaning.{meaning}

abbrev pub t : ℕ → TypeId
t n = record { 0 = n }

abbrev pub f : ℕ → FnId
f n = record { 0 = n }

abbrev pub x : ℕ → SymId
x n = record { 0 = n }

abbrev pub at : (line word : ℕ) → Place
at l w = record { line = l; word = w }

abbrev pub e : (line word of : ℕ) → Form → Expression
e l w of form = typed (at l w) (t of) form

abbrev pub name : (symbol of : ℕ) → TypedName
name s of = record { symbol = x s; of = t of }

abbrev pub laid : (field offset of : ℕ) → Laid
laid n offset of = record { field = record { 0 = n }; offset = offset; of = t of }

abbrev pub struct_of : (size align : ℕ) → List Laid → TypeForm
struct_of size align entries = forms.Struct 1 (at 1 1) (Some (record { size = size; align = align; entries = entries }))

abbrev pub function : (line word body : ℕ) → Function
function l w b = record { place = at l w; declared = None; state = states.Typed (record { 0 = b }) (record { 0 = b }) }

abbrev pub body_0 : Body
body_0 = record {
  parameters = name 0 2 ∷ [];
  result = t 2;
  body = (and_then (statement (at 2 10) (If (e 2 12 8 (Operate (operations.Binary operators.Less) (then_one (e 2 11 2
      (Variable (x 0))) (then_one (e 2 13 2 (Constant' (constants.Number 2))) (no_more))))) (and_then (statement
      (at 2 15) (Return (e 2 16 2 (Variable (x 0))))) (done)))) (and_then (statement (at 2 18) (Return (e 2 25 2
      (Operate (operations.Binary operators.Add) (then_one (e 2 20 2 (Operate (operations.Call (f 0)) (then_one
      (e 2 22 2 (Operate (operations.Binary operators.Subtract) (then_one (e 2 21 2 (Variable (x 0))) (then_one
      (e 2 23 2 (Constant' (constants.Number 1))) (no_more))))) (no_more)))) (then_one (e 2 27 2 (Operate
      (operations.Call (f 0)) (then_one (e 2 29 2 (Operate (operations.Binary operators.Subtract) (then_one (e 2 28 2
      (Variable (x 0))) (then_one (e 2 30 2 (Constant' (constants.Number 2))) (no_more))))) (no_more))))
      (no_more))))))) (done)));
}

abbrev pub body_1 : Body
body_1 = record {
  parameters = name 1 2 ∷ [];
  result = t 2;
  body = (and_then (statement (at 3 10) (Var (name 2 2 ∷ []) (then_one (e 3 13 2 (Constant' (constants.Number 0)))
      (no_more)))) (and_then (statement (at 3 14) (For (name 3 2) (then_one (e 3 17 2 (Constant'
      (constants.Number 0))) (then_one (e 3 19 2 (Variable (x 1))) (no_more))) (and_then (statement (at 3 21) (Assign
      (then_one (e 3 21 2 (Variable (x 2))) (no_more)) (then_one (e 3 24 2 (Operate (operations.Binary operators.Add)
      (then_one (e 3 23 2 (Variable (x 2))) (then_one (e 3 25 2 (Variable (x 3))) (no_more))))) (no_more)))) (done))))
      (and_then (statement (at 3 27) (Return (e 3 28 2 (Variable (x 2))))) (done))));
}

abbrev pub body_2 : Body
body_2 = record {
  parameters = [];
  result = t 2;
  body = (and_then (statement (at 4 7) (Var (name 4 2 ∷ []) (then_one (e 4 10 2 (Constant' (constants.Number 5)))
      (no_more)))) (and_then (statement (at 4 11) (Var (name 5 11 ∷ []) (then_one (e 4 14 11 (Address (e 4 15 2
      (Variable (x 4))))) (no_more)))) (and_then (statement (at 4 16) (Assign (then_one (e 4 16 2 (Dereference
      (e 4 17 11 (Variable (x 5))))) (no_more)) (then_one (e 4 19 2 (Constant' (constants.Number 9))) (no_more))))
      (and_then (statement (at 4 20) (Return (e 4 21 2 (Variable (x 4))))) (done)))));
}

abbrev pub body_3 : Body
body_3 = record {
  parameters = name 6 2 ∷ name 7 2 ∷ [];
  result = t 2;
  body = (and_then (statement (at 5 14) (Return (e 5 16 2 (Operate (operations.Binary operators.Divide) (then_one
      (e 5 15 2 (Variable (x 6))) (then_one (e 5 17 2 (Variable (x 7))) (no_more))))))) (done));
}

abbrev pub body_4 : Body
body_4 = record {
  parameters = [];
  result = t 9;
  body = (and_then (statement (at 6 8) (Var (name 8 11 ∷ []) (then_one (e 6 14 11 (Constant' constants.Nil))
      (no_more)))) (and_then (statement (at 6 15) (Assign (then_one (e 6 15 2 (Dereference (e 6 16 11 (Variable
      (x 8))))) (no_more)) (then_one (e 6 18 2 (Constant' (constants.Number 1))) (no_more)))) (done)));
}

abbrev pub body_5 : Body
body_5 = record {
  parameters = name 9 3 ∷ [];
  result = t 3;
  body = (and_then (statement (at 7 10) (Var (name 10 12 ∷ []) (no_more))) (and_then (statement (at 7 14) (Assign
      (then_one (e 7 15 3 (Select 0 (e 7 14 12 (Variable (x 10))))) (no_more)) (then_one (e 7 18 3 (Variable (x 9)))
      (no_more)))) (and_then (statement (at 7 19) (Assign (then_one (e 7 20 3 (Select 8 (e 7 19 12 (Variable
      (x 10))))) (no_more)) (then_one (e 7 23 3 (Operate operations.Convert (then_one (e 7 23 2 (Constant'
      (constants.Number 3))) (no_more)))) (no_more)))) (and_then (statement (at 7 24) (Var (name 11 12 ∷ []) (then_one
      (e 7 27 12 (Variable (x 10))) (no_more)))) (and_then (statement (at 7 28) (Assign (then_one (e 7 29 3 (Select 0
      (e 7 28 12 (Variable (x 11))))) (no_more)) (then_one (e 7 32 3 (Operate operations.Convert (then_one (e 7 32 2
      (Constant' (constants.Number 0))) (no_more)))) (no_more)))) (and_then (statement (at 7 33) (Return (e 7 41 3
      (Operate (operations.Binary operators.Add) (then_one (e 7 37 3 (Operate (operations.Binary operators.Multiply)
      (then_one (e 7 35 3 (Select 0 (e 7 34 12 (Variable (x 10))))) (then_one (e 7 39 3 (Select 8 (e 7 38 12 (Variable
      (x 10))))) (no_more))))) (then_one (e 7 43 3 (Select 0 (e 7 42 12 (Variable (x 11))))) (no_more)))))))
      (done)))))));
}

abbrev pub body_6 : Body
body_6 = record {
  parameters = [];
  result = t 9;
  body = (and_then (statement (at 8 8) (Var (name 12 4 ∷ []) (then_one (e 8 13 4 (Operate operations.Convert (then_one
      (e 8 13 2 (Constant' (constants.Number 65))) (no_more)))) (no_more)))) (and_then (statement (at 8 14) (While
      (e 8 15 8 (Constant' (constants.Truth true))) (and_then (statement (at 8 17) (Perform (e 8 20 9 (Operate
      (operations.Primitive PutByte) (then_one (e 8 21 4 (Variable (x 12))) (no_more)))))) (and_then (statement
      (at 8 23) (Assign (then_one (e 8 23 4 (Variable (x 12))) (no_more)) (then_one (e 8 26 4
      (Operate operations.Convert (then_one (e 8 26 2 (Operate (operations.Binary operators.Add) (then_one (e 8 25 2
      (Operate operations.Convert (then_one (e 8 25 4 (Variable (x 12))) (no_more)))) (then_one (e 8 27 2 (Constant'
      (constants.Number 1))) (no_more))))) (no_more)))) (no_more)))) (and_then (statement (at 8 28) (If (e 8 30 8
      (Operate (operations.Binary operators.Equal) (then_one (e 8 29 2 (Operate operations.Convert (then_one (e 8 29 4
      (Variable (x 12))) (no_more)))) (then_one (e 8 31 2 (Constant' (constants.Number 68))) (no_more))))) (and_then
      (statement (at 8 33) (Break)) (done)))) (done)))))) (done)));
}

abbrev pub body_7 : Body
body_7 = record {
  parameters = [];
  result = t 3;
  body = (and_then (statement (at 9 7) (Var (name 13 3 ∷ []) (then_one (e 9 12 3 (Operate operations.Convert (then_one
      (e 9 12 2 (Constant' (constants.Number 1))) (no_more)))) (no_more)))) (and_then (statement (at 9 13) (Var
      (name 14 3 ∷ []) (then_one (e 9 18 3 (Operate operations.Convert (then_one (e 9 18 2 (Constant'
      (constants.Number 2))) (no_more)))) (no_more)))) (and_then (statement (at 9 19) (Return (e 9 27 3 (Operate
      (operations.Binary operators.Subtract) (then_one (e 9 24 3 (Operate operations.Convert (then_one (e 9 24 13
      (Address (e 9 25 3 (Variable (x 14))))) (no_more)))) (then_one (e 9 32 3 (Operate operations.Convert (then_one
      (e 9 32 13 (Address (e 9 33 3 (Variable (x 13))))) (no_more)))) (no_more))))))) (done))));
}

abbrev pub body_8 : Body
body_8 = record {
  parameters = name 15 8 ∷ [];
  result = t 2;
  body = (and_then (statement (at 10 10) (If (e 10 11 8 (Variable (x 15))) (and_then (statement (at 10 13) (Return
      (e 10 14 2 (Constant' (constants.Number 1))))) (done)))) (done));
}

abbrev pub sample : Contents
sample = record {
  types = opening_types ++ forms.Pointer (t 2) ∷ struct_of 16 8 (laid 0 0 3 ∷ laid 1 8 3 ∷ []) ∷ forms.Pointer (t 3) ∷
      [];
  functions = function 2 1 0 ∷ function 3 1 1 ∷ function 4 1 2 ∷ function 5 1 3 ∷ function 6 1 4 ∷ function 7 1 5 ∷
      function 8 1 6 ∷ function 9 1 7 ∷ function 10 1 8 ∷ [];
  statics = [];
  typed = items.body body_0 ∷ items.body body_1 ∷ items.body body_2 ∷ items.body body_3 ∷ items.body body_4 ∷
      items.body body_5 ∷ items.body body_6 ∷ items.body body_7 ∷ items.body body_8 ∷ [];
}

-- the run of a function in a region of 1,024 bytes, where no function stands as a value
abbrev ran : (count function : ℕ) → List Value → Run
ran n g arguments = meaning sample [] 1024 n (f g) arguments

abbrev gives : ℕ → List ℕ → Run
gives v out = Over (Returned (word v)) out

pub fib : ran 24 0 (word 6 ∷ []) ≡ gives 8 []
unfolding wrapped applied negated complemented number_of low_bytes range_of alloc_of put_bytes
fib = refl

pub fib_needs_more : ran 23 0 (word 6 ∷ []) ≡ More []
unfolding wrapped applied negated complemented number_of low_bytes range_of alloc_of put_bytes
fib_needs_more = refl

pub sum : ran 10 1 (word 10 ∷ []) ≡ gives 45 []
unfolding wrapped applied negated complemented number_of low_bytes range_of alloc_of put_bytes
sum = refl

pub sum_needs_more : ran 9 1 (word 10 ∷ []) ≡ More []
unfolding wrapped applied negated complemented number_of low_bytes range_of alloc_of put_bytes
sum_needs_more = refl

pub keep : ran 0 2 ([]) ≡ gives 9 []
unfolding wrapped applied negated complemented number_of low_bytes range_of alloc_of put_bytes
keep = refl

pub div : ran 0 3 (word 18446744073709551609 ∷ word 2 ∷ []) ≡ gives 18446744073709551613 []
unfolding wrapped applied negated complemented number_of low_bytes range_of alloc_of put_bytes
div = refl

pub div_by_zero : ran 0 3 (word 1 ∷ word 0 ∷ []) ≡ Over (Fault DivZero (at 5 16)) []
unfolding wrapped applied negated complemented number_of low_bytes range_of alloc_of put_bytes
div_by_zero = refl

pub wild : ran 0 4 ([]) ≡ Over (Fault BadAddress (at 6 15)) []
unfolding wrapped applied negated complemented number_of low_bytes range_of alloc_of put_bytes
wild = refl

pub pair : ran 0 5 (word 7 ∷ []) ≡ gives 21 []
unfolding wrapped applied negated complemented number_of low_bytes range_of alloc_of put_bytes
pair = refl

pub out : ran 2 6 ([]) ≡ gives 0 (65 ∷ 66 ∷ 67 ∷ [])
unfolding wrapped applied negated complemented number_of low_bytes range_of alloc_of put_bytes
out = refl

pub out_needs_more : ran 1 6 ([]) ≡ More (65 ∷ 66 ∷ [])
unfolding wrapped applied negated complemented number_of low_bytes range_of alloc_of put_bytes
out_needs_more = refl

pub apart : ran 0 7 ([]) ≡ gives 8 []
unfolding wrapped applied negated complemented number_of low_bytes range_of alloc_of put_bytes
apart = refl

pub returns : ran 0 8 (word 1 ∷ []) ≡ gives 1 []
unfolding wrapped applied negated complemented number_of low_bytes range_of alloc_of put_bytes
returns = refl

pub no_return : ran 0 8 (word 0 ∷ []) ≡ Over (Fault NoReturn (at 10 1)) []
unfolding wrapped applied negated complemented number_of low_bytes range_of alloc_of put_bytes
no_return = refl

abbrev pub all : List Body
all = body_0 ∷ body_1 ∷ body_2 ∷ body_3 ∷ body_4 ∷ body_5 ∷ body_6 ∷ body_7 ∷ body_8 ∷ []

-- all of them pass the test of typed terms
pub typed_terms : list_all (body_typed sample) all ≡ true
typed_terms = refl
