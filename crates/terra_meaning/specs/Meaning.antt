-- What typed terms mean. The count bounds the calls, the entry's aside, together with the turns after which a loop
-- goes on.
use Rattle.std.specs.Prelude.{ℕ, zero, suc, ◌+◌, ◌-◌, ◌*◌, ◌%◌, ◌^◌, Bool, true, false, ◌&&◌, nat_eq, nat_le, nat_lt, if◌then◌else◌, List}
use Rattle.std.specs.Prelude.{[], ◌∷◌, ◌++◌, length, replicate, Option, Some, None, slice_get, unwrap_or}
use Rattle.tl_base.specs.declared.place.Place.{Place}
use Rattle.tl_base.specs.declared.ids.TypeId.{TypeId}
use Rattle.tl_base.specs.declared.ids.FnId.{FnId}
use Rattle.terra_memory.specs.Numbers.{part, overwritten}
use Rattle.terra_memory.specs.Region as regions
use Rattle.terra_memory.specs.Region.{range_of, alloc_of, fresh, end_address, heap_limit}
use Rattle.terra_words.specs.declared.words.BinaryOperator.{BinaryOperator}
use Rattle.terra_words.specs.declared.words.FaultKind.TheVariants.{BadAddress, DivZero, StackFull, CallDepth, NoReturn, BadCall}
use Rattle.terra_words.specs.declared.words.Width.{Width}
use Rattle.terra_words.specs.Words.{wrapped, applied, divides, negated, complemented, moved, signed, is_negative, is_less, flag, long_width}
use Rattle.terra_words.specs.Words.{most_calls}
use Rattle.terra_words.specs.declared.words.BinaryOperator.TheVariants as operators
use Rattle.terra_words.specs.Runs.{Value, word, bytes, number, bytes_in, is_true, value_at, put_bytes, Returned, Run, Over}
use Rattle.terra_types.specs.declared.types.TypeForm.{TypeForm}
use Rattle.terra_types.specs.declared.types.TypeForm.TheVariants as forms
use Rattle.terra_types.specs.Opening.{unit, boolean}
use Rattle.terra_term.specs.declared.operators.Constant.{Constant}
use Rattle.terra_term.specs.declared.operators.Constant.TheVariants as constants
use Rattle.terra_term.specs.declared.operators.Operation.{Operation}
use Rattle.terra_term.specs.declared.operators.Operation.TheVariants as operations
use Rattle.lua_value.specs.declared.primitive.Primitive.{Primitive}
use Rattle.lua_value.specs.declared.primitive.Primitive.TheVariants.{PutByte, Write, Alloc}
use Rattle.terra_term.specs.declared.lists.TypedName.{TypedName}
use Rattle.terra_term.specs.TypedTerms.{Expression, typed, Constant', Variable, Global, Operate, Both, Either, Dereference, Select, Follow}
use Rattle.terra_term.specs.TypedTerms.{Element, Index, Address, Decay, Let, Expressions, no_more, then_one, Statement, statement, Var}
use Rattle.terra_term.specs.TypedTerms.{Assign, If, IfElse, While, Repeat, For, Do, Break, Finish, Return, Perform, Statements, done}
use Rattle.terra_term.specs.TypedTerms.{and_then}
use Rattle.terra_term.specs.Stores.{Contents, Callable, callable_of, static_bytes}
use Rattle.terra_term.specs.Events.{events_of, list_events, doing_events, block_events, declared_in}
use Rattle.terra_meaning.specs.Values.{form_at, bytes_at, width_of, target_of, decoded, encoded}
use Rattle.terra_meaning.specs.Frames.{Home, by_value, in_frame, frame_of, home_at}
use Rattle.terra_meaning.specs.Running as running
use Rattle.terra_meaning.specs.Running.{Held, held, lies, State, Got, Gives, Ends, next, fault, stuck, need_more, counted, scoped}
use Rattle.terra_meaning.specs.Running.{with_variable, found, with_value}
pub use Rattle.terra_term.specs.WellTyped.{types_in as types_of}
pub use Rattle.terra_words.specs.Runs.{entry}

-- A call in progress: the store, the functions that stand as values, what a call of a function gives, the address of
-- the frame, the homes of the function's declarations, and a number above the count.
pub record Call : Type 0 where
  pub store : Contents
  pub entries : List FnId
  pub call : FnId → List Value → Place → State → Got Value
  pub base : ℕ
  pub homes : List Home
  pub turns : ℕ

-- how many variables an expression, expressions or statements declare
abbrev pub in_expression : Expression → ℕ
in_expression e = length (declared_in (events_of e))

abbrev pub in_list : Expressions → ℕ
in_list es = length (declared_in (list_events es))

abbrev pub in_statement : Statement → ℕ
in_statement st = length (declared_in (doing_events st))

abbrev pub in_block : Statements → ℕ
in_block ss = length (declared_in (block_events ss))

-- memory

abbrev pub read : List TypeForm → Place → TypeId → State → Option (List ℕ) → Got Value
read types at of s None = fault BadAddress at s
read types at of s (Some bs) = Gives (decoded types of bs) s

-- the value of a type at an address
abbrev pub loaded : List TypeForm → Place → TypeId → ℕ → State → Got Value
loaded types at of a s = read types at of s (range_of s.region a (bytes_at types of))

abbrev pub written : Place → State → Option regions.Contents → Got Value
written at s None = fault BadAddress at s
written at s (Some r) = Gives (word 0) (record s { region = r })

-- a value of a type is stored at an address
abbrev pub stored : List TypeForm → Place → TypeId → ℕ → Value → State → Got Value
stored types at of a v s = written at s (put_bytes s.region a (encoded types of v))

-- what is asked of an expression: its value, or the address of the place that it is
pub data Wanted : Type 0 where
  the_value the_address : Wanted

-- a place was reached by its address
abbrev pub reached : List TypeForm → Wanted → Place → TypeId → ℕ → State → Got Value
reached types the_value at of a s = loaded types at of a s
reached types the_address at of a s = Gives (word a) s

abbrev pub variable : List TypeForm → Wanted → Place → TypeId → Option Held → State → Got Value
variable types want at of None s = stuck s
variable types want at of (Some (held v)) s = Gives (word v) s
variable types want at of (Some (lies a)) s = reached types want at of a s

-- operations

abbrev pub position_of : FnId → List FnId → ℕ → ℕ
position_of f [] n = 0
position_of f (g ∷ gs) n = if nat_eq f.0 g.0 then n else position_of f gs (suc n)

-- a function as a value is its position among the entries, from 1
abbrev pub constant : (entries : List FnId) → Constant → ℕ
constant entries (constants.Number bits) = bits
constant entries (constants.Truth b) = flag b
constant entries constants.Nil = 0
constant entries (constants.Static address) = address
constant entries (constants.FnValue f) = position_of f entries 1

abbrev pub binary : Place → Width → BinaryOperator → ℕ → ℕ → State → Got Value
binary at w op x y s =
    if divides op && nat_eq y 0 then fault DivZero at s else Gives (word (applied w op x y)) s

-- the word of one type as one of another: a bool is true where the word isn't zero
abbrev pub converted : List TypeForm → TypeId → ℕ → ℕ
converted types to x = if nat_eq to.0 boolean.0 then flag (nat_lt 0 x) else wrapped (width_of types to) x

abbrev pub negation : List TypeForm → TypeId → ℕ → ℕ
negation types of x = if nat_eq of.0 boolean.0 then 1 - x else complemented (width_of types of) x

abbrev pub printed : State → List ℕ → Got Value
printed s bs = Gives (word 0) (record s { out = s.out ++ bs })

abbrev pub print_range : Place → State → Option (List ℕ) → Got Value
print_range at s None = fault BadAddress at s
print_range at s (Some bs) = printed s bs

abbrev pub allocated : State → ℕ × regions.Contents → Got Value
allocated s p = Gives (word p.0) (record s { region = p.1 })

abbrev pub primitive : Place → Primitive → List Value → State → Got Value
primitive at PutByte vs s = printed s (number (value_at vs 0) % 256 ∷ [])
primitive at Write vs s =
    let count = number (value_at vs 1) in
    if is_negative count then fault BadAddress at s
    else print_range at s (range_of s.region (number (value_at vs 0)) count)
primitive at Alloc vs s = allocated s (alloc_of s.region (signed (number (value_at vs 0))))

-- the bytes of a struct: its entries at their offsets, and zeros
abbrev pub constructed : List TypeForm → List ℕ → List ℕ → List TypeId → List Value → List ℕ
constructed types all (offset ∷ offsets) (t ∷ ts) (v ∷ vs) =
    constructed types (overwritten all offset (encoded types t v)) offsets ts vs
constructed types all _ _ _ = all

abbrev pub same_types : List TypeId → List TypedName → Bool
same_types [] [] = true
same_types (t ∷ ts) (x ∷ xs) = nat_eq t.0 x.of.0 && same_types ts xs
same_types _ _ = false

abbrev pub has_type : TypeForm → Option Callable → Bool
has_type (forms.Function params result) (Some k) =
    same_types params k.body.parameters && nat_eq result.0 k.body.result.0
has_type _ _ = false

abbrev pub called_value : Call → Place → TypeForm → Option FnId → List Value → State → Got Value
called_value c at of None vs s = fault BadCall at s
called_value c at of (Some f) vs s =
    if has_type of (callable_of c.store f) then c.call f vs at s else fault BadCall at s

abbrev pub behind : List Value → List Value
behind [] = []
behind (v ∷ vs) = vs

abbrev pub type_at : List TypeId → ℕ → TypeId
type_at ts i = unwrap_or (slice_get ts i) unit

-- a distance in bytes, in elements of a size
abbrev pub in_elements : (apart size : ℕ) → State → Got Value
in_elements apart zero s = stuck s
in_elements apart (suc size) s = Gives (word (applied long_width operators.Divide apart (suc size))) s

-- an operation on operands of these types and values
abbrev pub operated : Call → Place → TypeId → Operation → List TypeId → List Value → State → Got Value
operated c at of operations.Negate ts vs s =
    Gives (word (negated (width_of c.store.types of) (number (value_at vs 0)))) s
operated c at of operations.Not ts vs s = Gives (word (negation c.store.types of (number (value_at vs 0)))) s
operated c at of (operations.Binary op) ts vs s =
    binary at (width_of c.store.types (type_at ts 0)) op (number (value_at vs 0)) (number (value_at vs 1)) s
operated c at of operations.StepForward ts vs s =
    let size = bytes_at c.store.types (target_of c.store.types of) in
    Gives (word (moved (number (value_at vs 0)) (number (value_at vs 1) * size))) s
operated c at of operations.StepBack ts vs s =
    let size = bytes_at c.store.types (target_of c.store.types of) in
    Gives (word (moved (number (value_at vs 0)) (2 ^ 64 - (number (value_at vs 1) * size) % 2 ^ 64))) s
operated c at of operations.Difference ts vs s =
    let apart = applied long_width operators.Subtract (number (value_at vs 0)) (number (value_at vs 1)) in
    in_elements apart (bytes_at c.store.types (target_of c.store.types (type_at ts 0))) s
operated c at of operations.Convert ts vs s = Gives (word (converted c.store.types of (number (value_at vs 0)))) s
operated c at of (operations.Extract offset) ts vs s =
    Gives (decoded c.store.types of (part (bytes_in (value_at vs 0)) offset (bytes_at c.store.types of))) s
operated c at of (operations.Call f) ts vs s = c.call f vs at s
operated c at of (operations.Primitive p) ts vs s = primitive at p vs s
operated c at of operations.CallValue ts vs s =
    called_value c at (form_at c.store.types (type_at ts 0)) (entry c.entries (number (value_at vs 0))) (behind vs) s
operated c at of (operations.Construct offsets) ts vs s =
    Gives (bytes (constructed c.store.types (replicate (bytes_at c.store.types of) 0) offsets ts vs)) s

-- declarations

-- the variable of a declaration, with its value or without. An unplaced one without a value is zero, and a placed one
-- holds the bytes that are there.
abbrev pub declared_at : Call → Place → TypedName → Option Value → Home → State → Got Value
declared_at c at x None by_value s = Gives (word 0) (with_variable x.symbol (held 0) s)
declared_at c at x (Some v) by_value s = Gives (word 0) (with_variable x.symbol (held (number v)) s)
declared_at c at x None (in_frame offset) s = Gives (word 0) (with_variable x.symbol (lies (c.base + offset)) s)
declared_at c at x (Some v) (in_frame offset) s =
    next (stored c.store.types at x.of (c.base + offset) v s)
    (λ _ s'. Gives (word 0) (with_variable x.symbol (lies (c.base + offset)) s'))

-- the k-th declaration of the function
abbrev pub declared : Call → Place → TypedName → Option Value → ℕ → State → Got Value
declared c at x v k s = declared_at c at x v (home_at c.homes k) s

abbrev pub first_of : List Value → Option Value
first_of [] = None
first_of (v ∷ vs) = Some v

-- those from the k-th on
abbrev pub declared_all : Call → Place → List TypedName → List Value → ℕ → State → Got Value
declared_all c at [] vs k s = Gives (word 0) s
declared_all c at (x ∷ xs) vs k s =
    next (declared c at x (first_of vs) k s) (λ _ s'. declared_all c at xs (behind vs) (suc k) s')

-- assignments

abbrev pub held_symbol : Option Held → Bool
held_symbol (Some (held v)) = true
held_symbol _ = false

-- a value goes to a place that was reached by its address, or to a variable that has none
abbrev pub assigned : List TypeForm → Expression → Value → Value → State → Got Value
assigned types (typed at of (Variable x)) a v s =
    if held_symbol (found x s) then Gives (word 0) (with_value x (number v) s) else stored types at of (number a) v s
assigned types (typed at of form) a v s = stored types at of (number a) v s

abbrev pub assigned_all : List TypeForm → Expressions → List Value → List Value → State → Got Value
assigned_all types no_more places vs s = Gives (word 0) s
assigned_all types (then_one e es) places vs s =
    next (assigned types e (value_at places 0) (value_at vs 0) s)
    (λ _ s'. assigned_all types es (behind places) (behind vs) s')

-- statements

-- how a statement ends: it goes on, leaves the loop, or gives the function's value
pub data Way : Type 0 where
  goes_on : Way
  breaks : Way
  gives_back : Value → Way

abbrev pub going : Got Value → Got Way
going got = next got (λ _ s. Gives goes_on s)

abbrev pub along : Way → State → (State → Got Way) → Got Way
along goes_on s go = go s
along breaks s go = Gives breaks s
along (gives_back v) s go = Gives (gives_back v) s

abbrev pub turned : Way → State → (State → Got Way) → Got Way
turned goes_on s go = counted s go
turned breaks s go = Gives goes_on s
turned (gives_back v) s go = Gives (gives_back v) s

-- a loop: rounds until one breaks or gives back; one that goes on counts
abbrev pub rounds : ℕ → (State → Got Way) → State → Got Way
rounds zero round s = need_more s
rounds (suc n) round s = next (round s) (λ way s'. turned way s' (rounds n round))

-- whether a `for` goes on to a value: below its limit for a step above zero, above it for one below zero
abbrev pub runs : Width → (i limit step : ℕ) → Bool
runs w i limit zero = false
runs w i limit (suc step) = if w.signed && is_negative (suc step) then is_less w limit i else is_less w i limit

abbrev pub for_rounds : ℕ → Width → (limit step : ℕ) → (ℕ → State → Got Way) → ℕ → State → Got Way
for_rounds zero w limit step round i s = need_more s
for_rounds (suc n) w limit step round i s =
    if runs w i limit step
    then next (round i s) (λ way s'. turned way s' (for_rounds n w limit step round (wrapped w (i + step))))
    else Gives goes_on s

abbrev pub step_of : List Value → ℕ
step_of [] = 1
step_of (v ∷ vs) = number v

abbrev pub counted_for : Call → Width → (ℕ → State → Got Way) → List Value → State → Got Way
counted_for c w round vs s =
    for_rounds c.turns w (number (value_at vs 1)) (step_of (behind (behind vs))) round (number (value_at vs 0)) s

-- What expressions give and statements do, in a call. `from` is the number of the next declaration: how many of the
-- function's stand before this part, in the order of evaluation.
abbrev mutual
  pub meant : Call → Wanted → Expression → (from : ℕ) → State → Got Value
  meant c want (typed at of (Constant' k)) from s = Gives (word (constant c.entries k)) s
  meant c want (typed at of (Variable x)) from s = variable c.store.types want at of (found x s) s
  meant c want (typed at of (Global a)) from s = reached c.store.types want at of a s
  meant c want (typed at of (Operate op es)) from s =
      next (meant_all c the_value es from s) (λ vs s'. operated c at of op (types_of es) vs s')
  meant c want (typed at of (Both a b)) from s =
      next (meant c the_value a from s) (λ v s'. if is_true v then meant c the_value b
      (from + in_expression a) s' else Gives v s')
  meant c want (typed at of (Either a b)) from s =
      next (meant c the_value a from s) (λ v s'. if is_true v then Gives v s' else meant c the_value b
      (from + in_expression a) s')
  meant c want (typed at of (Dereference p)) from s =
      next (meant c the_value p from s) (λ v s'. reached c.store.types want at of (number v) s')
  meant c want (typed at of (Select offset e)) from s =
      next (meant c the_address e from s) (λ v s'. reached c.store.types want at of (moved (number v) offset) s')
  meant c want (typed at of (Follow offset p)) from s =
      next (meant c the_value p from s) (λ v s'. reached c.store.types want at of (moved (number v) offset) s')
  meant c want (typed at of (Element a i)) from s =
      next (meant c the_address a from s) (λ v s'. next (meant c the_value i (from + in_expression a) s')
      (λ n s''. reached c.store.types want at of (moved (number v) (number n * bytes_at c.store.types of)) s''))
  meant c want (typed at of (Index p i)) from s =
      next (meant c the_value p from s) (λ v s'. next (meant c the_value i (from + in_expression p) s')
      (λ n s''. reached c.store.types want at of (moved (number v) (number n * bytes_at c.store.types of)) s''))
  meant c want (typed at of (Address e)) from s = meant c the_address e from s
  meant c want (typed at of (Decay a)) from s = meant c the_address a from s
  meant c want (typed at of (Let block e)) from s =
      scoped s (next (done_all c block from s) (λ way s'. meant c the_value e (from + in_block block) s'))

  pub meant_all : Call → Wanted → Expressions → (from : ℕ) → State → Got (List Value)
  meant_all c want no_more from s = Gives [] s
  meant_all c want (then_one e es) from s =
      next (meant c want e from s) (λ v s'. next (meant_all c want es (from + in_expression e) s') (λ vs s''. Gives
      (v ∷ vs) s''))

  pub done_one : Call → Statement → (from : ℕ) → State → Got Way
  done_one c (statement at (Var names values)) from s =
      next (meant_all c the_value values from s) (λ vs s'. going (declared_all c at names vs
      (from + in_list values) s'))
  done_one c (statement at (Assign targets values)) from s =
      next (meant_all c the_value values from s) (λ vs s'. next (meant_all c the_address targets
      (from + in_list values) s')
      (λ places s''. going (assigned_all c.store.types targets places vs s'')))
  done_one c (statement at (If test then_block)) from s =
      next (meant c the_value test from s) (λ v s'. if is_true v
      then scoped s' (done_all c then_block (from + in_expression test) s') else Gives goes_on s')
  done_one c (statement at (IfElse test then_block else_block)) from s =
      next (meant c the_value test from s) (λ v s'. scoped s' (if is_true v
      then done_all c then_block (from + in_expression test) s'
      else done_all c else_block (from + in_expression test + in_block then_block) s'))
  done_one c (statement at (While test body)) from s =
      rounds c.turns (λ s1. next (meant c the_value test from s1) (λ v s2. if is_true v
      then scoped s2 (done_all c body (from + in_expression test) s2) else Gives breaks s2)) s
  done_one c (statement at (Repeat body test)) from s =
      rounds c.turns (λ s1. scoped s1 (next (done_all c body from s1) (λ way s2. along way s2 (λ s3.
      next (meant c the_value test (from + in_block body) s3) (λ v s4. Gives
      (if is_true v then breaks else goes_on) s4))))) s
  done_one c (statement at (For x bounds body)) from s =
      next (meant_all c the_value bounds from s) (λ vs s'. counted_for c (width_of c.store.types x.of)
      (λ i s1. scoped s1 (next (declared c at x (Some (word i)) (from + in_list bounds) s1)
      (λ _ s2. done_all c body (suc (from + in_list bounds)) s2))) vs s')
  done_one c (statement at (Do body)) from s = scoped s (done_all c body from s)
  done_one c (statement at Break) from s = Gives breaks s
  done_one c (statement at Finish) from s = Gives (gives_back (word 0)) s
  done_one c (statement at (Return e)) from s = next (meant c the_value e from s) (λ v s'. Gives (gives_back v) s')
  done_one c (statement at (Perform e)) from s = next (meant c the_value e from s) (λ v s'. Gives goes_on s')

  pub done_all : Call → Statements → (from : ℕ) → State → Got Way
  done_all c done from s = Gives goes_on s
  done_all c (and_then st ss) from s =
      next (done_one c st from s) (λ way s'. along way s' (done_all c ss (from + in_statement st)))

-- functions

-- a body that ends gives nothing, which is a fault where a result is due
abbrev pub given_back : Callable → Way → State → Got Value
given_back k (gives_back v) s = Gives v s
given_back k _ s = if nat_eq k.body.result.0 unit.0 then Gives (word 0) s else fault NoReturn k.at s

-- a body, with its parameters, whose frame lies at the call's base
abbrev pub body_run : Call → Callable → List Value → State → Got Value
body_run c k arguments s =
    next (declared_all c k.at k.body.parameters arguments 0 (record s { variables = [] }))
    (λ _ s'. next (done_all c k.body.body (length k.body.parameters) s') (given_back k))

abbrev pub kept : List running.Variable → Got Value → Got Value
kept variables (Gives v s) = Gives v (record s { variables = variables })
kept variables (Ends r) = Ends r

-- a call of a function gives this to its caller, whose variables are there again
abbrev pub Calls : Type 0
Calls = (top : ℕ) → FnId → List Value → Place → State → Got Value

-- A function begins with so many callers, whose frames end at `top`: depth is tested, then the data stack. Its frame
-- lies directly below.
abbrev pub entered : Contents → List FnId → Calls → (turns depth top : ℕ) → Place → Option Callable → List Value →
    State →
    Got Value
entered store entries calls turns depth top at None arguments s = stuck s
entered store entries calls turns depth top at (Some k) arguments s =
    let frame = frame_of store.types k.body in
    if nat_le most_calls depth then fault CallDepth at s
    else (if nat_lt top (heap_limit s.region + frame.size) then fault StackFull at s
    else body_run (record {
      store = store;
      entries = entries;
      call = calls (top - frame.size);
      base = top - frame.size;
      homes = frame.homes;
      turns = turns;
    }) k arguments s)

-- a function below so many callers. n is above the count, so it doesn't run out first.
abbrev pub apply : Contents → List FnId → (n depth top : ℕ) → FnId → List Value → Place → State → Got Value
apply store entries zero depth top f arguments at s = need_more s
apply store entries (suc n) depth top f arguments at s =
    entered store entries
    (λ base g vs place s'. counted s' (λ s''. kept s'.variables (apply store entries n
    (suc depth) base g vs place s'')))
    (suc n) depth top at (callable_of store f) arguments s

abbrev pub run_of : Got Value → Run
run_of (Gives v s) = Over (Returned v) s.out
run_of (Ends r) = r

abbrev pub place_in : Option Callable → Place
place_in None = record { line = 0; word = 0 }
place_in (Some k) = k.at

-- the run of a function as the entry, in a region of so many bytes, at the count n
abbrev pub meaning : Contents → (entries : List FnId) → (memory n : ℕ) → FnId → (arguments : List Value) → Run
meaning store entries memory n f arguments =
    let region = fresh memory (static_bytes store) in
    run_of (apply store entries (suc n) 0 (end_address region) f arguments (place_in (callable_of store f))
    (record { variables = []; region = region; left = n; out = [] }))
