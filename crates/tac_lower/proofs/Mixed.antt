-- The code of a function with each kind of loop and choice, and `or`, runs as the function means, computed:
--
--     terra mixed(n : int) : int var t = 0
--       for i = n, 0, -1 do if i == 3 or i == 5 then t = t + 10 else t = t + i end
--       repeat t = t + 1 if t > 20 then break end until t % 2 == 0 end return t end
use Rattle.std.specs.Prelude.{◌≡◌, refl, ℕ, [], ◌∷◌, None, option_map}
use Rattle.tl_base.specs.declared.place.Place.{Place}
use Rattle.tl_base.specs.declared.ids.SymId.{SymId}
use Rattle.tl_base.specs.declared.ids.TypeId.{TypeId}
use Rattle.terra_memory.specs.Numbers.{number_of, low_bytes}
use Rattle.terra_memory.specs.Region.{range_of, alloc_of}
use Rattle.terra_words.specs.declared.words.BinaryOperator.{BinaryOperator}
use Rattle.terra_words.specs.declared.words.BinaryOperator.TheVariants as operators
use Rattle.terra_words.specs.Words.{wrapped, applied, negated, complemented}
use Rattle.terra_words.specs.Runs.{word, put_bytes, Returned, Run, Over, More}
use Rattle.terra_types.specs.Opening.{opening_types}
use Rattle.terra_term.specs.declared.operators.Constant.TheVariants as constants
use Rattle.terra_term.specs.declared.operators.Operation.TheVariants as operations
use Rattle.terra_term.specs.declared.store.FunctionState.TheVariants as states
use Rattle.terra_term.specs.TypedTerms as items
use Rattle.terra_term.specs.TypedTerms.{Expression, typed, Constant', Variable, Operate, Either, no_more, then_one, Statement, statement}
use Rattle.terra_term.specs.TypedTerms.{Var, Assign, If, IfElse, Repeat, For, Break, Return, Statements, done, and_then, Body}
use Rattle.terra_term.specs.Stores.{Contents, callable_of}
use Rattle.terra_meaning.specs.Meaning.{meaning}
use Rattle.tac_form.specs.Flow.{Program, Moved, Stops, steps, begun}
use Rattle.tac_lower.specs.Lowering.{lowered}
use Rattle.tac_lower.specs.Needs.{BodyNeeds}

abbrev at : Place
at = record { line = 1; word = 1 }

abbrev int : TypeId
int = record { 0 = 2 }

abbrev bool : TypeId
bool = record { 0 = 8 }

abbrev x : ℕ → SymId
x n = record { 0 = n }

abbrev var : ℕ → Expression
var n = typed at int (Variable (x n))

abbrev num : ℕ → Expression
num n = typed at int (Constant' (constants.Number n))

abbrev op : TypeId → BinaryOperator → Expression → Expression → Expression
op of o a b = typed at of (Operate (operations.Binary o) (then_one a (then_one b no_more)))

abbrev set : ℕ → Expression → Statement
set n e = statement at (Assign (then_one (var n) no_more) (then_one e no_more))

abbrev only : Statement → Statements
only s = and_then s done

abbrev body : Body
body = record {
  parameters = record { symbol = x 0; of = int } ∷ [];
  result = int;
  body = and_then (statement at (Var (record { symbol = x 1; of = int } ∷ []) (then_one (num 0) no_more)))
      (and_then (statement at
      (For (record { symbol = x 2; of = int }) (then_one (var 0) (then_one (num 0) (then_one (num 18446744073709551615) no_more)))
      (and_then (statement at
      (IfElse (typed at bool (Either (op bool operators.Equal (var 2) (num 3)) (op bool operators.Equal (var 2) (num 5))))
      (only (set 1 (op int operators.Add (var 1) (num 10)))) (only (set 1 (op int operators.Add (var 1) (var 2))))))
      (only (statement at (Repeat (and_then (set 1 (op int operators.Add (var 1) (num 1)))
      (only (statement at (If (op bool operators.Greater (var 1) (num 20)) (only (statement at Break))))))
      (op bool operators.Equal (op int operators.Modulo (var 1) (num 2)) (num 0))))))))
      (only (statement at (Return (var 1)))));
}

abbrev store : Contents
store = record {
  types = opening_types;
  functions = record { place = at; declared = None; state = states.Typed (record { 0 = 0 }) (record { 0 = 0 }) } ∷ [];
  statics = [];
  typed = items.body body ∷ [];
}

abbrev program : Program
program = record { code = λ g. option_map (lowered store []) (callable_of store g); entries = [] }

abbrev ran : ℕ → Moved
ran n = steps program 4000 (begun program [] 1024 n (record { 0 = 0 }) (word 6 ∷ []))

abbrev meant : ℕ → Run
meant n = meaning store [] 1024 n (record { 0 = 0 }) (word 6 ∷ [])

pub ends : ran 8 ≡ Stops (Over (Returned (word 41)) [])
unfolding wrapped applied negated complemented number_of low_bytes range_of alloc_of put_bytes
ends = refl

pub needs_more : ran 7 ≡ Stops (More [])
unfolding wrapped applied negated complemented number_of low_bytes range_of alloc_of put_bytes
needs_more = refl

pub same : Stops (meant 8) ≡ ran 8
unfolding wrapped applied negated complemented number_of low_bytes range_of alloc_of put_bytes
same = refl

pub same_less : Stops (meant 7) ≡ ran 7
unfolding wrapped applied negated complemented number_of low_bytes range_of alloc_of put_bytes
same_less = refl

-- its term has what lowering needs
pub ready : BodyNeeds store [] (record { at = at; body = body })
unfolding wrapped
ready = (
  (refl, refl, tt),
  (
    (((refl, refl), tt), (refl, refl, tt)),
    (
      (
        (refl, ((refl, refl), ((refl, refl), tt))),
        tt,
        refl,
        refl,
        (
          (
            (tt, (tt, (refl, ((refl, refl), tt)), (refl, λ e. refl)), (tt, (refl, ((refl, refl), tt)), (refl, λ e. refl)), refl, refl, refl),
            ((((tt, (refl, ((refl, refl), tt)), ((tt, refl), λ e. refl)), tt), (refl, tt), refl), tt),
            ((((tt, (refl, (refl, tt)), ((tt, refl), λ e. refl)), tt), (refl, tt), refl), tt),
          ),
          (
            (
              (
                (((tt, (refl, ((refl, refl), tt)), ((tt, refl), λ e. refl)), tt), (refl, tt), refl),
                (((tt, (refl, ((refl, refl), tt)), (refl, λ e. refl)), (refl, tt)), tt),
              ),
              (tt, ((tt, (refl, ((refl, refl), tt)), ((tt, refl), λ e. refl)), ((refl, refl), tt)), (refl, λ e. refl)),
            ),
            tt,
          ),
        ),
      ),
      ((refl, refl, refl), tt),
    ),
  ),
)
