-- A typed function, and what is said of it:
--
--     terra f(x : int) : int
--       var y = x + 1
--       if y < 3 then return f(y) end
--       return [quote var z = int8(y) in int(z) end]
--     end
use Rattle.std.specs.Prelude.{◌≡◌, refl, ℕ, true, false, [], ◌∷◌, None}
use Rattle.tl_base.specs.declared.place.Place.{Place}
use Rattle.tl_base.specs.declared.ids.FnId.{FnId}
use Rattle.tl_base.specs.declared.ids.SymId.{SymId}
use Rattle.tl_base.specs.declared.ids.TypeId.{TypeId}
use Rattle.terra_words.specs.declared.words.BinaryOperator.TheVariants.{Add, Less}
use Rattle.terra_types.specs.Opening.{opening_types, int32, boolean}
use Rattle.terra_term.specs.declared.operators.Constant.TheVariants as constants
use Rattle.terra_term.specs.declared.operators.Operation.TheVariants as operations
use Rattle.terra_term.specs.declared.lists.TypedName.{TypedName}
use Rattle.terra_term.specs.declared.store.FunctionState.TheVariants as states
use Rattle.terra_term.specs.TypedTerms.{Expression, typed, Constant', Variable, Operate, Let, Expressions, no_more, then_one, Statement}
use Rattle.terra_term.specs.TypedTerms.{statement, Var, If, Return, done, and_then, Body, body}
use Rattle.terra_term.specs.Events.{Declares, Uses, Mentions, Opens, Closes, body_events, mentions_in, declared_in}
use Rattle.terra_term.specs.Stores.{Contents}
use Rattle.terra_term.specs.WellTyped.{body_typed}

abbrev at : Place
at = record { line = 1; word = 1 }

abbrev f : FnId
f = record { 0 = 0 }

abbrev x : SymId
x = record { 0 = 0 }

abbrev y : SymId
y = record { 0 = 1 }

abbrev z : SymId
z = record { 0 = 2 }

abbrev int8 : TypeId
int8 = record { 0 = 0 }

abbrev named : SymId → TypeId → TypedName
named s t = record { symbol = s; of = t }

abbrev use_of : SymId → Expression
use_of s = typed at int32 (Variable s)

abbrev number : ℕ → Expression
number n = typed at int32 (Constant' (constants.Number n))

abbrev two : Expression → Expression → Expressions
two a b = then_one a (then_one b no_more)

abbrev one : Expression → Expressions
one a = then_one a no_more

abbrev var : SymId → TypeId → Expression → Statement
var s t e = statement at (Var (named s t ∷ []) (one e))

abbrev quoted : Expression
quoted =
    typed at int32 (Let
    (and_then (var z int8 (typed at int8 (Operate operations.Convert (one (use_of y))))) done)
    (typed at int32 (Operate operations.Convert (one (typed at int8 (Variable z))))))

-- with `1` as the number that is added
abbrev sample : Expression → Body
sample step = record {
  parameters = named x int32 ∷ [];
  result = int32;
  body =
      and_then (var y int32 (typed at int32 (Operate (operations.Binary Add) (two (use_of x) step))))
      (and_then (statement at (If (typed at boolean (Operate (operations.Binary Less) (two (use_of y) (number 3))))
      (and_then (statement at (Return (typed at int32 (Operate (operations.Call f) (one (use_of y)))))) done)))
      (and_then (statement at (Return quoted)) done));
}

abbrev store : Contents
store = record {
  types = opening_types;
  functions = record { place = at; declared = None; state = states.Typed (record { 0 = 0 }) (record { 0 = 0 }) } ∷ [];
  statics = [];
  typed = body (sample (number 1)) ∷ [];
}

pub is_typed : body_typed store (sample (number 1)) ≡ true
is_typed = refl

-- an operand of another type, or a word that is no int32
pub is_not_typed : body_typed store (sample (typed at boolean (Constant' (constants.Truth true)))) ≡ false
is_not_typed = refl

pub is_too_large : body_typed store (sample (number 0x8000_0000)) ≡ false
is_too_large = refl

pub mentions : mentions_in (body_events (sample (number 1))) ≡ (at, f) ∷ []
mentions = refl

pub declares : declared_in (body_events (sample (number 1))) ≡ int32 ∷ int32 ∷ int8 ∷ []
declares = refl

pub events : body_events (sample (number 1)) ≡
    Declares x int32 ∷ Uses at x int32 ∷ Declares y int32 ∷ Uses at y int32 ∷
    Opens ∷ Mentions at f ∷ Uses at y int32 ∷ Closes ∷
    Opens ∷ Uses at y int32 ∷ Declares z int8 ∷ Uses at z int8 ∷ Closes ∷ []
events = refl
