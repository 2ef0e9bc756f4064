-- Terms mean the same in two stores that are alike for the functions that they mention.
use Rattle.std.proofs.Common.{◌≡◌, ℕ, zero, suc, ◌+◌, ◌*◌, List, [], ◌∷◌, ◌++◌, length, Option, Some, None, refl, ap, arith, ◌∙◌, slice_get}
use Rattle.std.specs.Prelude.{◌-◌, nat_lt, nat_le, if◌then◌else◌}
use Rattle.tl_base.specs.declared.place.Place.{Place}
use Rattle.tl_base.specs.declared.ids.TypeId.{TypeId}
use Rattle.tl_base.specs.declared.ids.FnId.{FnId}
use Rattle.terra_memory.specs.Region.{heap_limit, end_address, fresh}
use Rattle.terra_words.specs.declared.words.FaultKind.TheVariants.{StackFull, CallDepth, BadCall}
use Rattle.terra_words.specs.Words.{moved, most_calls}
use Rattle.terra_words.specs.Runs.{Value, word, number, is_true, value_at}
use Rattle.terra_types.specs.declared.types.TypeForm.{TypeForm}
use Rattle.terra_term.specs.declared.operators.Operation.{Operation}
use Rattle.terra_term.specs.declared.operators.Operation.TheVariants as operations
use Rattle.terra_term.specs.declared.store.Function.{Function}
use Rattle.terra_term.specs.declared.store.Static.{Static}
use Rattle.terra_term.specs.TypedTerms as items
use Rattle.terra_term.specs.TypedTerms.{Expression, typed, Constant', Variable, Global, Operate, Both, Either, Dereference, Select, Follow}
use Rattle.terra_term.specs.TypedTerms.{Element, Index, Address, Decay, Let, Expressions, no_more, then_one, Statement, statement, Var}
use Rattle.terra_term.specs.TypedTerms.{Assign, If, IfElse, While, Repeat, For, Do, Break, Finish, Return, Perform, Statements, done}
use Rattle.terra_term.specs.TypedTerms.{and_then}
use Rattle.terra_term.specs.Stores.{Contents, Callable, callable_of, static_bytes}
use Rattle.terra_term.specs.Events.{Event, Opens, Closes, Declares, Takes, Uses, Mentions, operation_events, takes, declares, declares_all}
use Rattle.terra_term.specs.Events.{scope, events_of, list_events, doing_events, block_events, body_events, mentions_in}
use Rattle.terra_meaning.specs.Laws.{Reaches, itself, value, mentioned, AreAlike}
use Rattle.terra_meaning.specs.Frames.{frame_of}
use Rattle.terra_meaning.specs.Values.{bytes_at, width_of, form_at}
use Rattle.terra_meaning.specs.Running.{State, Got, Gives, next, fault, stuck, counted, scoped}
use Rattle.terra_meaning.specs.Meaning.{Call, Calls, body_run, given_back, kept, entered, apply, run_of, place_in, meaning, in_expression}
use Rattle.terra_meaning.specs.Meaning.{in_list, in_statement, in_block, Wanted, the_value, the_address, reached, has_type, called_value}
use Rattle.terra_meaning.specs.Meaning.{entry, behind, type_at, operated, types_of, declared, declared_all, assigned_all, goes_on, breaks}
use Rattle.terra_meaning.specs.Meaning.{gives_back, going, along, rounds, counted_for, meant, meant_all, done_one, done_all}

-- something holds of each function that is mentioned
abbrev pub AllMentions : (FnId → Type 0) → List Event → Type 0
AllMentions P [] = Unit {0}
AllMentions P (Mentions at f ∷ es) = P f × AllMentions P es
AllMentions P (_ ∷ es) = AllMentions P es

pub all-first : (P : FnId → Type 0) (xs ys : List Event) → AllMentions P (xs ++ ys) → AllMentions P xs
all-first P [] ys h = tt
all-first P (Mentions at f ∷ xs) ys h = (h.0, all-first P xs ys h.1)
all-first P (Opens ∷ xs) ys h = all-first P xs ys h
all-first P (Closes ∷ xs) ys h = all-first P xs ys h
all-first P (Declares x t ∷ xs) ys h = all-first P xs ys h
all-first P (Takes x ∷ xs) ys h = all-first P xs ys h
all-first P (Uses at x t ∷ xs) ys h = all-first P xs ys h

pub all-second : (P : FnId → Type 0) (xs ys : List Event) → AllMentions P (xs ++ ys) → AllMentions P ys
all-second P [] ys h = h
all-second P (Mentions at f ∷ xs) ys h = all-second P xs ys h.1
all-second P (Opens ∷ xs) ys h = all-second P xs ys h
all-second P (Closes ∷ xs) ys h = all-second P xs ys h
all-second P (Declares x t ∷ xs) ys h = all-second P xs ys h
all-second P (Takes x ∷ xs) ys h = all-second P xs ys h
all-second P (Uses at x t ∷ xs) ys h = all-second P xs ys h

all-three : (P : FnId → Type 0) (xs ys zs : List Event) → AllMentions P (xs ++ ys ++ zs) →
    AllMentions P xs × AllMentions P ys × AllMentions P zs
all-three P xs ys zs h = (
  all-first P xs ys (all-first P (xs ++ ys) zs h),
  all-second P xs ys (all-first P (xs ++ ys) zs h),
  all-second P
      (xs ++ ys) zs h,
)

-- in a scope
in-scope : (P : FnId → Type 0) (xs : List Event) → AllMentions P (scope xs) → AllMentions P xs
in-scope P xs h = all-first P xs (Closes ∷ []) h

-- what another store has in place of functions, statics and terms, and what a call gives there
pub record Other : Type 0 where
  pub functions : List Function
  pub statics : List Static
  pub typed : List items.Item
  pub call : FnId → List Value → Place → State → Got Value

abbrev pub contents_in : Contents → Other → Contents
contents_in store o = record store { functions = o.functions; statics = o.statics; typed = o.typed }

abbrev pub call_in : Call → Other → Call
call_in c o = record c { store = contents_in c.store o; call = o.call }

-- a function is the same in both, and so is what a call of it gives
abbrev pub Fine : Call → Other → FnId → Type 0
Fine c o f = (callable_of c.store f ≡ callable_of (contents_in c.store o) f) × (c.call f ≡ o.call f)

abbrev pub Values : Call → Other → Type 0
Values c o = (i : ℕ) (f : FnId) → slice_get c.entries i ≡ Some f → Fine c o f

same-called : (c : Call) (o : Other) (at : Place) (of : TypeForm) (g : Option FnId) → ((f : FnId) → g ≡ Some f →
    Fine c o f) →
    called_value c at of g ≡ called_value (call_in c o) at of g
same-called c o at of None h = refl
same-called c o at of (Some f) h =
    let fine : Fine c o f = h f refl in
    λ i vs s. if has_type of (fine.0 i) then (fine.1 i) vs at s else fault BadCall at s

entry-fine : (c : Call) (o : Other) → Values c o → (x : ℕ) (f : FnId) → entry c.entries x ≡ Some f → Fine c o f
entry-fine c o h zero f e = absurd (grind (arith, e))
entry-fine c o h (suc i) f e = h i f e

same-operated : (c : Call) (o : Other) → Values c o → (at : Place) (of : TypeId) (op : Operation) → AllMentions
    (Fine c o) (operation_events at op) →
    operated c at of op ≡ operated (call_in c o) at of op
same-operated c o h at of operations.Negate m = refl
same-operated c o h at of operations.Not m = refl
same-operated c o h at of (operations.Binary op) m = refl
same-operated c o h at of operations.StepForward m = refl
same-operated c o h at of operations.StepBack m = refl
same-operated c o h at of operations.Difference m = refl
same-operated c o h at of operations.Convert m = refl
same-operated c o h at of (operations.Extract offset) m = refl
same-operated c o h at of (operations.Call f) m = λ i ts vs s. (m.0.1 i) vs at s
same-operated c o h at of (operations.Primitive p) m = refl
same-operated c o h at of operations.CallValue m = λ i ts vs s.
    same-called c o at (form_at c.store.types (type_at ts 0)) (entry c.entries (number (value_at vs 0)))
    (entry-fine c o h (number (value_at vs 0))) i (behind vs) s
same-operated c o h at of (operations.Construct offsets) m = refl

mutual
  pub same-meant : (c : Call) (o : Other) → Values c o → (want : Wanted) (e : Expression) (from : ℕ) → AllMentions
      (Fine c o) (events_of e) →
      meant c want e from ≡ meant (call_in c o) want e from
  same-meant c o h want (typed at of (Constant' k)) from m = refl
  same-meant c o h want (typed at of (Variable x)) from m = refl
  same-meant c o h want (typed at of (Global a)) from m = refl
  same-meant c o h want (typed at of (Operate op es)) from m = λ i s.
      next (same-all c o h the_value es from (all-second (Fine c o) (operation_events at op) (list_events es) m) i s)
      (λ vs s'. same-operated c o h at of op (all-first (Fine c o) (operation_events at op) (list_events es) m) i
      (types_of es) vs s')
  same-meant c o h want (typed at of (Both a b)) from m = λ i s.
      next (same-meant c o h the_value a from (all-first (Fine c o) (events_of a) (events_of b) m) i s)
      (λ v s'. if is_true v then same-meant c o h the_value b (from + in_expression a) (all-second (Fine c o)
      (events_of a) (events_of b) m) i s' else Gives v s')
  same-meant c o h want (typed at of (Either a b)) from m = λ i s.
      next (same-meant c o h the_value a from (all-first (Fine c o) (events_of a) (events_of b) m) i s)
      (λ v s'. if is_true v then Gives v s' else same-meant c o h the_value b (from + in_expression a) (all-second
      (Fine c o) (events_of a) (events_of b) m) i s')
  same-meant c o h want (typed at of (Dereference p)) from m = λ i s.
      next (same-meant c o h the_value p from m i s)
      (λ v s'. reached c.store.types want at of (number v) s')
  same-meant c o h want (typed at of (Select offset e)) from m = λ i s.
      next (same-meant c o h the_address e from m i s)
      (λ v s'. reached c.store.types want at of (moved (number v) offset) s')
  same-meant c o h want (typed at of (Follow offset p)) from m = λ i s.
      next (same-meant c o h the_value p from m i s)
      (λ v s'. reached c.store.types want at of (moved (number v) offset) s')
  same-meant c o h want (typed at of (Element a n)) from m = λ i s.
      next (same-meant c o h the_address a from (all-first (Fine c o) (events_of a) (events_of n) m) i s)
      (λ v s'. next (same-meant c o h the_value n (from + in_expression a) (all-second (Fine c o) (events_of a)
      (events_of n) m) i s')
      (λ x s''. reached c.store.types want at of (moved (number v) (number x * bytes_at c.store.types of)) s''))
  same-meant c o h want (typed at of (Index a n)) from m = λ i s.
      next (same-meant c o h the_value a from (all-first (Fine c o) (events_of a) (events_of n) m) i s)
      (λ v s'. next (same-meant c o h the_value n (from + in_expression a) (all-second (Fine c o) (events_of a)
      (events_of n) m) i s')
      (λ x s''. reached c.store.types want at of (moved (number v) (number x * bytes_at c.store.types of)) s''))
  same-meant c o h want (typed at of (Address e)) from m = same-meant c o h the_address e from (all-second (Fine c o)
      (takes e) (events_of e) m)
  same-meant c o h want (typed at of (Decay a)) from m = same-meant c o h the_address a from m
  same-meant c o h want (typed at of (Let block e)) from m = λ i s.
      scoped s (next (same-block c o h block from (all-first (Fine c o) (block_events block) (events_of e) (in-scope
      (Fine c o) (block_events block ++ events_of e) m)) i s)
      (λ way s'. same-meant c o h the_value e (from + in_block block) (all-second (Fine c o) (block_events block)
      (events_of e) (in-scope (Fine c o) (block_events block ++ events_of e) m)) i s'))

  pub same-all : (c : Call) (o : Other) → Values c o → (want : Wanted) (es : Expressions) (from : ℕ) → AllMentions
      (Fine c o) (list_events es) →
      meant_all c want es from ≡ meant_all (call_in c o) want es from
  same-all c o h want no_more from m = refl
  same-all c o h want (then_one e es) from m = λ i s.
      next (same-meant c o h want e from (all-first (Fine c o) (events_of e) (list_events es) m) i s)
      (λ v s'. next (same-all c o h want es (from + in_expression e) (all-second (Fine c o) (events_of e)
      (list_events es) m) i s') (λ vs s''. Gives (v ∷ vs) s''))

  pub same-one : (c : Call) (o : Other) → Values c o → (st : Statement) (from : ℕ) → AllMentions (Fine c o)
      (doing_events st) →
      done_one c st from ≡ done_one (call_in c o) st from
  same-one c o h (statement at (Var names values)) from m = λ i s.
      next (same-all c o h the_value values from (all-first (Fine c o) (list_events values) (declares_all names) m) i s)
      (λ vs s'. going (declared_all c at names vs (from + in_list values) s'))
  same-one c o h (statement at (Assign targets values)) from m = λ i s.
      next (same-all c o h the_value values from (all-first (Fine c o) (list_events values)
      (list_events targets) m) i s)
      (λ vs s'. next (same-all c o h the_address targets (from + in_list values) (all-second (Fine c o)
      (list_events values) (list_events targets) m) i s')
      (λ places s''. going (assigned_all c.store.types targets places vs s'')))
  same-one c o h (statement at (If test then_block)) from m = λ i s.
      next (same-meant c o h the_value test from (all-first (Fine c o) (events_of test) (scope
      (block_events then_block)) m) i s) (λ v s'. if is_true v
      then scoped s' (same-block c o h then_block (from + in_expression test) (in-scope (Fine c o)
      (block_events then_block) (all-second (Fine c o) (events_of test) (scope
      (block_events then_block)) m)) i s') else Gives goes_on s')
  same-one c o h (statement at (IfElse test then_block else_block)) from m = λ i s.
      next (same-meant c o h the_value test from (all-three (Fine c o) (events_of test) (scope
      (block_events then_block)) (scope (block_events else_block)) m).0 i s) (λ v s'. scoped s' (if is_true v
      then same-block c o h then_block (from + in_expression test) (in-scope (Fine c o) (block_events then_block)
      (all-three (Fine c o) (events_of test) (scope (block_events then_block)) (scope
      (block_events else_block)) m).1) i s'
      else same-block c o h else_block (from + in_expression test + in_block then_block) (in-scope (Fine c o)
      (block_events else_block) (all-three (Fine c o) (events_of test) (scope (block_events then_block)) (scope
      (block_events else_block)) m).2) i s'))
  same-one c o h (statement at (While test body)) from m = λ i s.
      rounds c.turns (λ s1. next (same-meant c o h the_value test from (all-first (Fine c o) (events_of test) (scope
      (block_events body)) m) i s1) (λ v s2. if is_true v
      then scoped s2 (same-block c o h body (from + in_expression test) (in-scope (Fine c o) (block_events body)
      (all-second (Fine c o) (events_of test) (scope (block_events body)) m)) i s2) else Gives breaks s2)) s
  same-one c o h (statement at (Repeat body test)) from m = λ i s.
      rounds c.turns (λ s1. scoped s1 (next (same-block c o h body from (all-first (Fine c o) (block_events body)
      (events_of test) (in-scope (Fine c o) (block_events body ++ events_of test) m)) i s1)
      (λ way s2. along way s2 (λ s3.
      next (same-meant c o h the_value test (from + in_block body) (all-second (Fine c o) (block_events body)
      (events_of test) (in-scope (Fine c o) (block_events body ++ events_of test) m)) i s3)
      (λ v s4. Gives (if is_true v then breaks else goes_on) s4))))) s
  same-one c o h (statement at (For x bounds body)) from m = λ i s.
      next (same-all c o h the_value bounds from (all-first (Fine c o) (list_events bounds) (scope
      (declares x ++ block_events body)) m) i s) (λ vs s'. counted_for c (width_of c.store.types x.of)
      (λ n s1. scoped s1 (next (declared c at x (Some (word n)) (from + in_list bounds) s1)
      (λ _ s2. same-block c o h body (suc (from + in_list bounds)) (all-second (Fine c o) (declares x)
      (block_events body) (in-scope (Fine c o) (declares x ++ block_events body) (all-second (Fine c o)
      (list_events bounds) (scope (declares x ++ block_events body)) m))) i s2))) vs s')
  same-one c o h (statement at (Do body)) from m = λ i s. scoped s (same-block c o h body from (in-scope (Fine c o)
      (block_events body) m) i s)
  same-one c o h (statement at Break) from m = refl
  same-one c o h (statement at Finish) from m = refl
  same-one c o h (statement at (Return e)) from m = λ i s.
      next (same-meant c o h the_value e from m i s) (λ v s'. Gives (gives_back v) s')
  same-one c o h (statement at (Perform e)) from m = λ i s.
      next (same-meant c o h the_value e from m i s) (λ v s'. Gives goes_on s')

  pub same-block : (c : Call) (o : Other) → Values c o → (ss : Statements) (from : ℕ) → AllMentions (Fine c o)
      (block_events ss) →
      done_all c ss from ≡ done_all (call_in c o) ss from
  same-block c o h done from m = refl
  same-block c o h (and_then st ss) from m = λ i s.
      next (same-one c o h st from (all-first (Fine c o) (doing_events st) (block_events ss) m) i s)
      (λ way s'. along way s' (same-block c o h ss (from + in_statement st) (all-second (Fine c o) (doing_events st)
      (block_events ss) m) i))

-- functions

all-map : (P Q : FnId → Type 0) → ((f : FnId) → P f → Q f) → (es : List Event) → AllMentions P es → AllMentions Q es
all-map P Q h [] m = tt
all-map P Q h (Mentions at f ∷ es) m = (h f m.0, all-map P Q h es m.1)
all-map P Q h (Opens ∷ es) m = all-map P Q h es m
all-map P Q h (Closes ∷ es) m = all-map P Q h es m
all-map P Q h (Declares x t ∷ es) m = all-map P Q h es m
all-map P Q h (Takes x ∷ es) m = all-map P Q h es m
all-map P Q h (Uses at x t ∷ es) m = all-map P Q h es m

all-given : (P : FnId → Type 0) (es : List Event) →
    ((i : ℕ) (at : Place) (f : FnId) → slice_get (mentions_in es) i ≡ Some (at, f) → P f) → AllMentions P es
all-given P [] h = tt
all-given P (Mentions at f ∷ es) h = (h 0 at f refl, all-given P es (λ i place g e. h (suc i) place g e))
all-given P (Opens ∷ es) h = all-given P es h
all-given P (Closes ∷ es) h = all-given P es h
all-given P (Declares x t ∷ es) h = all-given P es h
all-given P (Takes x ∷ es) h = all-given P es h
all-given P (Uses at x t ∷ es) h = all-given P es h

-- a set of functions that are the same in another store, with all that they mention and all that stand as values
pub record Closed (a b : Contents) (entries : List FnId) (R : FnId → Type 0) : Type 0 where
  pub same : (g : FnId) → R g → callable_of a g ≡ callable_of b g
  pub values : (i : ℕ) (g : FnId) → slice_get entries i ≡ Some g → R g
  pub mentions : (g : FnId) (k : Callable) → R g → callable_of a g ≡ Some k → AllMentions R (body_events k.body)

same-body : (c : Call) (o : Other) → Values c o → (k : Callable) → AllMentions (Fine c o) (body_events k.body) →
    body_run c k ≡ body_run (call_in c o) k
same-body c o h k m = λ i vs s.
    next (declared_all c k.at k.body.parameters vs 0 (record s { variables = [] }))
    (λ _ s'. next (same-block c o h k.body.body (length k.body.parameters)
    (all-second (Fine c o) (declares_all k.body.parameters) (block_events k.body.body) m) i s') (given_back k))

same-entered : (a : Contents) (entries : List FnId) (o : Other) (R : FnId → Type 0) → Closed a
    (contents_in a o) entries R →
    (calls other_calls : Calls) → ((base : ℕ) (g : FnId) → R g → calls base g ≡ other_calls base g) →
    (n depth top : ℕ) (at : Place)
    (k : Option Callable) → ((x : Callable) → k ≡ Some x → AllMentions R (body_events x.body)) →
    entered a entries calls n depth top at k ≡ entered (contents_in a o) entries other_calls n depth top at k
same-entered a entries o R closed calls other_calls same n depth top at None m = refl
same-entered a entries o R closed calls other_calls same n depth top at (Some k) m =
    let size : ℕ = (frame_of a.types k.body).size in
    let c : Call = record {
      store = a;
      entries = entries;
      call = calls (top - size);
      base = top - size;
      homes = (frame_of a.types k.body).homes;
      turns = n;
    } in
    let there : Other = record o { call = other_calls (top - size) } in
    let fine : (g : FnId) → R g → Fine c there g = λ g r. (closed.same g r, same (top - size) g r) in
    let body : body_run c k ≡ body_run (call_in c there) k =
    same-body c there (λ j g e. fine g (closed.values j g e)) k (all-map R (Fine c there) fine (body_events k.body)
    (m k refl)) in
    λ i vs s. if nat_le most_calls depth then fault CallDepth at s
    else (if nat_lt top (heap_limit s.region + size) then fault StackFull at s else body i vs s)

same-apply : (a : Contents) (entries : List FnId) (o : Other) (R : FnId → Type 0) → Closed a
    (contents_in a o) entries R →
    (n depth top : ℕ) (f : FnId) → R f → apply a entries n depth top f ≡ apply (contents_in a o) entries n depth top f
same-apply a entries o R closed zero depth top f r = refl
same-apply a entries o R closed (suc n) depth top f r =
    let calls : Calls = λ base g us place s'. counted s' (λ s''. kept s'.variables (apply a entries n
    (suc depth) base g us place s'')) in
    let other_calls : Calls = λ base g us place s'.
    counted s' (λ s''. kept s'.variables (apply (contents_in a o) entries n (suc depth) base g us place s'')) in
    let same : (base : ℕ) (g : FnId) → R g → calls base g ≡ other_calls base g = λ base g q. λ i us place s'.
    counted s' (λ s''. kept s'.variables (same-apply a entries o R closed n (suc depth) base g q i us place s'')) in
    let at-place : (at : Place) → entered a entries calls (suc n) depth top at (callable_of a f) ≡
    entered (contents_in a o) entries other_calls (suc n) depth top at (callable_of (contents_in a o) f) = λ at.
    same-entered a entries o R closed calls other_calls same (suc n) depth top at (callable_of a f)
    (λ k e. closed.mentions f k r e) ∙
    ap (entered (contents_in a o) entries other_calls (suc n) depth top at) (closed.same f r) in
    λ i vs at s. at-place at i vs s

reached-closed : (a b : Contents) (entries : List FnId) (f : FnId) → AreAlike entries f a b → Closed a b entries
    (Reaches a entries f)
reached-closed a b entries f alike = record {
  same = alike.reached;
  values = λ i g e. value i g e;
  mentions = λ g k r e. all-given (Reaches a entries f) (body_events k.body) (λ i at h m. mentioned g h i at k r e m);
}

same-in : (a : Contents) (o : Other) (entries : List FnId) (memory n : ℕ) (f : FnId) (arguments : List Value) →
    AreAlike entries f a (contents_in a o) →
    meaning a entries memory n f arguments ≡ meaning (contents_in a o) entries memory n f arguments
same-in a o entries memory n f arguments alike =
    let begun : (statics : List ℕ) → State = λ statics. record {
      variables = [];
      region = fresh memory statics;
      left = n;
      out = [];
    } in
    let here : (statics : List ℕ) → (k : Option Callable) → Got Value = λ statics k.
    apply a entries (suc n) 0 (end_address (fresh memory statics)) f arguments (place_in k) (begun statics) in
    let first : here (static_bytes a) (callable_of a f) ≡ here (static_bytes (contents_in a o)) (callable_of
    (contents_in a o) f) =
    λ i. here (alike.statics i) (alike.reached f itself i) in
    let second : apply a entries (suc n) 0 (end_address (fresh memory (static_bytes (contents_in a o)))) f ≡
    apply (contents_in a o) entries (suc n) 0 (end_address (fresh memory (static_bytes (contents_in a o)))) f =
    same-apply a entries o (Reaches a entries f) (reached-closed a (contents_in a o) entries f alike) (suc n) 0
    (end_address (fresh memory (static_bytes (contents_in a o)))) f itself in
    ap run_of first ∙
    (λ i. run_of (second i arguments (place_in (callable_of (contents_in a o) f)) (begun (static_bytes
    (contents_in a o)))))

pub reached-alone : (a b : Contents) (entries : List FnId) (memory n : ℕ) (f : FnId) (arguments : List Value) →
    AreAlike entries f a b → meaning a entries memory n f arguments ≡ meaning b entries memory n f arguments
reached-alone a b entries memory n f arguments alike =
    let o : Other = record {
      functions = b.functions;
      statics = b.statics;
      typed = b.typed;
      call =
          λ g vs at s. stuck s;
    } in
    same-in a o entries memory n f arguments (record {
      types = refl;
      statics = alike.statics;
      reached = alike.reached;
    }) ∙
    (λ i. meaning (record b { types = alike.types i }) entries memory n f arguments)
