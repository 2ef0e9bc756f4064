-- Calls at the limits of depth and of the data stack, computed. In a region of 1,024 bytes the stack has 256.
--
--     terra deep(n : int) : int if n == 0 then return big() end return deep(n - 1) end
--     terra big() : int var v : int[100] return 7 end
--     terra slow(n : int) : int var a : int = n var p = &a terralib.putbyte(65) if n == 0 then return 7 end return
-- slow(n - 1) end
use Rattle.std.specs.Prelude.{◌≡◌, refl, ℕ, List, [], ◌∷◌, ◌++◌, replicate, None}
use Rattle.tl_base.specs.declared.place.Place.{Place}
use Rattle.tl_base.specs.declared.ids.TypeId.{TypeId}
use Rattle.tl_base.specs.declared.ids.FnId.{FnId}
use Rattle.terra_memory.specs.Numbers.{number_of, low_bytes}
use Rattle.terra_memory.specs.Region.{range_of}
use Rattle.terra_words.specs.declared.words.FaultKind.TheVariants.{StackFull, CallDepth}
use Rattle.terra_words.specs.declared.words.BinaryOperator.TheVariants as operators
use Rattle.terra_words.specs.Words.{wrapped, applied}
use Rattle.terra_types.specs.declared.types.TypeForm.TheVariants as forms
use Rattle.terra_types.specs.Opening.{opening_types}
use Rattle.terra_term.specs.declared.operators.Constant.TheVariants as constants
use Rattle.terra_term.specs.declared.operators.Operation.TheVariants as operations
use Rattle.lua_value.specs.declared.primitive.Primitive.TheVariants.{PutByte}
use Rattle.terra_term.specs.declared.lists.TypedName.{TypedName}
use Rattle.terra_term.specs.declared.store.Function.{Function}
use Rattle.terra_term.specs.declared.store.FunctionState.TheVariants as states
use Rattle.terra_term.specs.TypedTerms as items
use Rattle.terra_term.specs.TypedTerms.{Expression, typed, Form, Constant', Variable, Operate, Address, Expressions, no_more, then_one}
use Rattle.terra_term.specs.TypedTerms.{Statement, statement, Doing, Var, If, Return, Perform, Statements, done, and_then, Body}
use Rattle.terra_term.specs.Stores.{Contents}
use Rattle.terra_words.specs.Runs.{Value, word, put_bytes, Returned, Fault, Run, Over, More}
use Rattle.terra_meaning.specs.Meaning.{meaning}

abbrev t : ℕ → TypeId
t n = record { 0 = n }

abbrev f : ℕ → FnId
f n = record { 0 = n }

abbrev at : (word : ℕ) → Place
at w = record { line = 3; word = w }

abbrev name : (symbol of : ℕ) → TypedName
name s of = record { symbol = record { 0 = s }; of = t of }

abbrev int : (word : ℕ) → Form → Expression
int w form = typed (at w) (t 2) form

abbrev n : Expression
n = int 1 (Variable (record { 0 = 0 }))

abbrev number : ℕ → Expression
number x = int 2 (Constant' (constants.Number x))

abbrev one : Expression → Expressions
one e = then_one e no_more

abbrev two : Expression → Expression → Expressions
two a b = then_one a (one b)

abbrev is_zero : Expression
is_zero = typed (at 3) (t 8) (Operate (operations.Binary operators.Equal) (two n (number 0)))

abbrev less : Expression
less = int 4 (Operate (operations.Binary operators.Subtract) (two n (number 1)))

abbrev does : Doing → Statements → Statements
does doing rest = and_then (statement (at 5) doing) rest

abbrev deep : Body
deep = record {
  parameters = name 0 2 ∷ [];
  result = t 2;
  body = does (If is_zero (does (Return (int 20 (Operate (operations.Call (f 1)) no_more))) done))
      (does (Return (int 10 (Operate (operations.Call (f 0)) (one less)))) done);
}

abbrev big : Body
big = record {
  parameters = [];
  result = t 2;
  body = does (Var (name 1 11 ∷ []) no_more) (does (Return (number 7)) done);
}

abbrev slow : Body
slow = record {
  parameters = name 0 2 ∷ [];
  result = t 2;
  body = does (Var (name 1 2 ∷ []) (one n)) (does (Var (name 2 12 ∷ []) (one (typed (at 6) (t 12) (Address (int 7
      (Variable (record { 0 = 1 })))))))
      (does (Perform (typed (at 8) (t 9) (Operate (operations.Primitive PutByte) (one (typed (at 9) (t 4) (Constant'
      (constants.Number 65))))))) (does (If is_zero (does (Return (number 7)) done))
      (does (Return (int 30 (Operate (operations.Call (f 2)) (one less)))) done))));
}

abbrev function : (body : ℕ) → Function
function b = record {
  place = record { line = b; word = 1 };
  declared = None;
  state = states.Typed (record { 0 = b })
      (record { 0 = b });
}

abbrev sample : Contents
sample = record {
  types = opening_types ++ forms.Array (t 2) 100 ∷ forms.Pointer (t 2) ∷ [];
  functions = function 0 ∷ function 1 ∷ function 2 ∷ [];
  statics = [];
  typed = items.body deep ∷ items.body big ∷ items.body slow ∷ [];
}

abbrev ran : (memory count function : ℕ) → List Value → Run
ran memory count g arguments = meaning sample [] memory count (f g) arguments

-- the 512th call has no room for its frame of 400 bytes, and the 513th is too deep, whether or not it has room
pub no_room : ran 1024 600 0 (word 510 ∷ []) ≡ Over (Fault StackFull (at 20)) []
unfolding wrapped applied number_of low_bytes range_of put_bytes
no_room = refl

pub too_deep_without_room : ran 1024 600 0 (word 511 ∷ []) ≡ Over (Fault CallDepth (at 20)) []
unfolding wrapped applied number_of low_bytes range_of put_bytes
too_deep_without_room = refl

pub as_deep_as_may_be : ran 2048 600 0 (word 510 ∷ []) ≡ Over (Returned (word 7)) []
unfolding wrapped applied number_of low_bytes range_of put_bytes
as_deep_as_may_be = refl

pub too_deep : ran 2048 600 0 (word 512 ∷ []) ≡ Over (Fault CallDepth (at 10)) []
unfolding wrapped applied number_of low_bytes range_of put_bytes
too_deep = refl

-- a call counts before its depth is tested
pub counted_first : ran 2048 511 0 (word 512 ∷ []) ≡ More []
unfolding wrapped applied number_of low_bytes range_of put_bytes
counted_first = refl

-- the entry has no room: the place is the function's
pub entry_has_no_room : ran 1024 0 1 [] ≡ Over (Fault StackFull (record { line = 1; word = 1 })) []
unfolding wrapped applied number_of low_bytes range_of put_bytes
entry_has_no_room = refl

-- sixteen frames of 16 bytes fill the stack; what was printed before a fault stays
pub fills_the_stack : ran 1024 600 2 (word 15 ∷ []) ≡ Over (Returned (word 7)) (replicate 16 65)
unfolding wrapped applied number_of low_bytes range_of put_bytes
fills_the_stack = refl

pub passes_the_stack : ran 1024 600 2 (word 16 ∷ []) ≡ Over (Fault StackFull (at 30)) (replicate 16 65)
unfolding wrapped applied number_of low_bytes range_of put_bytes
passes_the_stack = refl
