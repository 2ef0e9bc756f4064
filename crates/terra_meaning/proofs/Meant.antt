-- What terms mean at a larger count: the same, but where more was needed.
use Rattle.std.proofs.Common.{◌≡◌, ℕ, zero, suc, ◌+◌, ◌*◌, ◌≤◌, List, [], ◌∷◌, length, Option, Some, None, refl, arith}
use Rattle.std.specs.Prelude.{◌-◌, nat_le, nat_lt, nat_eq, if◌then◌else◌}
use Rattle.tl_base.specs.declared.place.Place.{Place}
use Rattle.tl_base.specs.declared.ids.FnId.{FnId}
use Rattle.terra_memory.specs.Region as regions
use Rattle.terra_memory.specs.Region.{fresh, end_address, heap_limit}
use Rattle.terra_words.specs.declared.words.FaultKind.TheVariants.{StackFull, CallDepth, NoReturn}
use Rattle.terra_words.specs.Words.{moved, most_calls}
use Rattle.terra_words.specs.Runs.{Value, word, number, is_true, value_at, Over, More, Extends}
use Rattle.terra_types.specs.Opening.{unit}
use Rattle.terra_term.specs.TypedTerms.{Expression, typed, Constant', Variable, Global, Operate, Both, Either, Dereference, Select, Follow}
use Rattle.terra_term.specs.TypedTerms.{Element, Index, Address, Decay, Let, Expressions, no_more, then_one, Statement, statement, Var}
use Rattle.terra_term.specs.TypedTerms.{Assign, If, IfElse, While, Repeat, For, Do, Break, Finish, Return, Perform, Statements, done}
use Rattle.terra_term.specs.TypedTerms.{and_then}
use Rattle.terra_term.specs.Stores.{Contents, Callable, callable_of, static_bytes}
use Rattle.terra_meaning.specs.Values.{bytes_at, width_of}
use Rattle.terra_meaning.specs.Frames.{frame_of}
use Rattle.terra_meaning.specs.Running.{State, Got, Gives, Ends, next, fault, need_more, counted, scoped}
use Rattle.terra_meaning.specs.Meaning.{Call, in_expression, in_list, in_statement, in_block, Wanted, the_value, the_address, reached}
use Rattle.terra_meaning.specs.Meaning.{operated, constant, types_of, declared, declared_all, assigned_all, Way, goes_on, breaks}
use Rattle.terra_meaning.specs.Meaning.{gives_back, going, along, counted_for, step_of, behind, meant, meant_all, done_one, done_all}
use Rattle.terra_meaning.specs.Meaning.{given_back, body_run, kept, Calls, entered, apply, run_of, place_in, meaning}
use Rattle.terra_meaning.proofs.Larger.{front-self, more, Carries, Longer, longer-next, longer-gives, longer-if, longer-scoped, longer-more}
use Rattle.terra_meaning.proofs.Larger.{longer-call, longer-along, longer-rounds, longer-for}
use Rattle.terra_meaning.proofs.Leaves.{beyond, longer-fault, longer-stuck, longer-by, longer-reached, longer-variable, longer-operated}
use Rattle.terra_meaning.proofs.Leaves.{longer-declared, longer-declared-all, longer-assigned-all}

-- two calls in progress, of which one has the larger count
pub record Ahead (d : ℕ) (c : Call) : Type 0 where
  pub call : FnId → List Value → Place → State → Got Value
  pub turns : ℕ
  pub calls : (f : FnId) (vs : List Value) (at : Place) → Longer d (c.call f vs at) (call f vs at)
  pub fuel : c.turns ≤ turns

abbrev after : (d : ℕ) (c : Call) → Ahead d c → Call
after d c h = beyond c h.call h.turns

longer-going : (d : ℕ) (x y : State → Got Value) → Longer d x y → Longer d (λ s. going (x s)) (λ s. going (y s))
longer-going d x y h = longer-next d x y (λ _ s. Gives goes_on s) (λ _ s. Gives goes_on s) h
    (λ _. longer-gives d goes_on)

mutual
  pub longer-meant : (d : ℕ) (c : Call) (h : Ahead d c) (want : Wanted) (e : Expression) (from : ℕ) →
      Longer d (meant c want e from) (meant (after d c h) want e from)
  longer-meant d c h want (typed at of (Constant' k)) from = longer-gives d (word (constant c.entries k))
  longer-meant d c h want (typed at of (Variable x)) from = longer-variable d c.store.types want at of x
  longer-meant d c h want (typed at of (Global a)) from = longer-reached d c.store.types want at of a
  longer-meant d c h want (typed at of (Operate op es)) from =
      longer-next d (meant_all c the_value es from) (meant_all (after d c h) the_value es from)
      (λ vs s'. operated c at of op (types_of es) vs s') (λ vs s'. operated (after d c h) at of op
      (types_of es) vs s')
      (longer-all d c h the_value es from)
      (λ vs. longer-operated d c h.call h.turns h.calls at of op (types_of es) vs)
  longer-meant d c h want (typed at of (Both a b)) from =
      longer-next d (meant c the_value a from) (meant (after d c h) the_value a from)
      (λ v s'. if is_true v then meant c the_value b (from + in_expression a) s' else Gives v s')
      (λ v s'. if is_true v then meant (after d c h) the_value b (from + in_expression a) s' else Gives v s')
      (longer-meant d c h the_value a from)
      (λ v. longer-if d (is_true v) (meant c the_value b (from + in_expression a)) (meant (after d c h) the_value b
      (from + in_expression a)) (λ s'. Gives v s') (λ s'. Gives v s')
      (longer-meant d c h the_value b (from + in_expression a)) (longer-gives d v))
  longer-meant d c h want (typed at of (Either a b)) from =
      longer-next d (meant c the_value a from) (meant (after d c h) the_value a from)
      (λ v s'. if is_true v then Gives v s' else meant c the_value b (from + in_expression a) s')
      (λ v s'. if is_true v then Gives v s' else meant (after d c h) the_value b (from + in_expression a) s')
      (longer-meant d c h the_value a from)
      (λ v. longer-if d (is_true v) (λ s'. Gives v s') (λ s'. Gives v s') (meant c the_value b
      (from + in_expression a)) (meant (after d c h) the_value b (from + in_expression a))
      (longer-gives d v) (longer-meant d c h the_value b (from + in_expression a)))
  longer-meant d c h want (typed at of (Dereference p)) from =
      longer-next d (meant c the_value p from) (meant (after d c h) the_value p from)
      (λ v s'. reached c.store.types want at of (number v) s') (λ v s'. reached
      (after d c h).store.types want at of (number v) s')
      (longer-meant d c h the_value p from)
      (λ v. longer-reached d c.store.types want at of (number v))
  longer-meant d c h want (typed at of (Select offset e)) from =
      longer-next d (meant c the_address e from) (meant (after d c h) the_address e from)
      (λ v s'. reached c.store.types want at of (moved (number v) offset) s') (λ v s'. reached
      (after d c h).store.types want at of (moved (number v) offset) s')
      (longer-meant d c h the_address e from)
      (λ v. longer-reached d c.store.types want at of (moved (number v) offset))
  longer-meant d c h want (typed at of (Follow offset p)) from =
      longer-next d (meant c the_value p from) (meant (after d c h) the_value p from)
      (λ v s'. reached c.store.types want at of (moved (number v) offset) s') (λ v s'. reached
      (after d c h).store.types want at of (moved (number v) offset) s')
      (longer-meant d c h the_value p from)
      (λ v. longer-reached d c.store.types want at of (moved (number v) offset))
  longer-meant d c h want (typed at of (Element a i)) from =
      longer-next d (meant c the_address a from) (meant (after d c h) the_address a from) (λ v s'. next
      (meant c the_value i (from + in_expression a) s') (λ n s''. reached c.store.types want at of (moved
      (number v) (number n * bytes_at c.store.types of)) s'')) (λ v s'. next (meant (after d c h) the_value i
      (from + in_expression a) s') (λ n s''. reached (after d c h).store.types want at of (moved (number v)
      (number n * bytes_at (after d c h).store.types of)) s''))
      (longer-meant d c h the_address a from)
      (λ v. longer-next d (meant c the_value i (from + in_expression a)) (meant (after d c h) the_value i
      (from + in_expression a)) (λ n s''. reached c.store.types want at of (moved (number v)
      (number n * bytes_at c.store.types of)) s'') (λ n s''. reached (after d c h).store.types want at of (moved
      (number v) (number n * bytes_at (after d c h).store.types of)) s'')
      (longer-meant d c h the_value i (from + in_expression a))
      (λ n. longer-reached d c.store.types want at of (moved (number v) (number n * bytes_at c.store.types of))))
  longer-meant d c h want (typed at of (Index a i)) from =
      longer-next d (meant c the_value a from) (meant (after d c h) the_value a from) (λ v s'. next
      (meant c the_value i (from + in_expression a) s') (λ n s''. reached c.store.types want at of (moved
      (number v) (number n * bytes_at c.store.types of)) s'')) (λ v s'. next (meant (after d c h) the_value i
      (from + in_expression a) s') (λ n s''. reached (after d c h).store.types want at of (moved (number v)
      (number n * bytes_at (after d c h).store.types of)) s''))
      (longer-meant d c h the_value a from)
      (λ v. longer-next d (meant c the_value i (from + in_expression a)) (meant (after d c h) the_value i
      (from + in_expression a)) (λ n s''. reached c.store.types want at of (moved (number v)
      (number n * bytes_at c.store.types of)) s'') (λ n s''. reached (after d c h).store.types want at of (moved
      (number v) (number n * bytes_at (after d c h).store.types of)) s'')
      (longer-meant d c h the_value i (from + in_expression a))
      (λ n. longer-reached d c.store.types want at of (moved (number v) (number n * bytes_at c.store.types of))))
  longer-meant d c h want (typed at of (Address e)) from = longer-meant d c h the_address e from
  longer-meant d c h want (typed at of (Decay a)) from = longer-meant d c h the_address a from
  longer-meant d c h want (typed at of (Let block e)) from =
      longer-scoped d (λ s'. next (done_all c block from s') (λ way s''. meant c the_value e
      (from + in_block block) s''))
      (λ s'. next (done_all (after d c h) block from s') (λ way s''. meant (after d c h) the_value e
      (from + in_block block) s''))
      (longer-next d (done_all c block from) (done_all (after d c h) block from) (λ way s''. meant c the_value e
      (from + in_block block) s'') (λ way s''. meant (after d c h) the_value e (from + in_block block) s'')
      (longer-block d c h block from)
      (λ way. longer-meant d c h the_value e (from + in_block block)))

  pub longer-all : (d : ℕ) (c : Call) (h : Ahead d c) (want : Wanted) (es : Expressions) (from : ℕ) →
      Longer d (meant_all c want es from) (meant_all (after d c h) want es from)
  longer-all d c h want no_more from = longer-gives d []
  longer-all d c h want (then_one e es) from =
      longer-next d (meant c want e from) (meant (after d c h) want e from) (λ v s'. next (meant_all c want es
      (from + in_expression e) s') (λ vs s''. Gives (v ∷ vs) s'')) (λ v s'. next (meant_all (after d c h) want es
      (from + in_expression e) s') (λ vs s''. Gives (v ∷ vs) s''))
      (longer-meant d c h want e from)
      (λ v. longer-next d (meant_all c want es (from + in_expression e)) (meant_all (after d c h) want es
      (from + in_expression e)) (λ vs s''. Gives (v ∷ vs) s'') (λ vs s''. Gives (v ∷ vs) s'')
      (longer-all d c h want es (from + in_expression e))
      (λ vs. longer-gives d (v ∷ vs)))

  pub longer-one : (d : ℕ) (c : Call) (h : Ahead d c) (st : Statement) (from : ℕ) →
      Longer d (done_one c st from) (done_one (after d c h) st from)
  longer-one d c h (statement at (Var names values)) from =
      longer-next d (meant_all c the_value values from) (meant_all (after d c h) the_value values from)
      (λ vs s'. going (declared_all c at names vs (from + in_list values) s')) (λ vs s'. going (declared_all
      (after d c h) at names vs (from + in_list values) s'))
      (longer-all d c h the_value values from)
      (λ vs. longer-going d (declared_all c at names vs (from + in_list values)) (declared_all
      (after d c h) at names vs (from + in_list values))
      (longer-declared-all d c h.call h.turns at names vs (from + in_list values)))
  longer-one d c h (statement at (Assign targets values)) from =
      longer-next d (meant_all c the_value values from) (meant_all (after d c h) the_value values from) (λ vs s'. next
      (meant_all c the_address targets (from + in_list values) s') (λ places s''. going
      (assigned_all c.store.types targets places vs s''))) (λ vs s'. next (meant_all
      (after d c h) the_address targets (from + in_list values) s') (λ places s''. going (assigned_all
      (after d c h).store.types targets places vs s'')))
      (longer-all d c h the_value values from)
      (λ vs. longer-next d (meant_all c the_address targets (from + in_list values)) (meant_all
      (after d c h) the_address targets (from + in_list values)) (λ places s''. going
      (assigned_all c.store.types targets places vs s'')) (λ places s''. going (assigned_all
      (after d c h).store.types targets places vs s''))
      (longer-all d c h the_address targets (from + in_list values))
      (λ places. longer-going d (assigned_all c.store.types targets places vs)
      (assigned_all c.store.types targets places vs)
      (longer-assigned-all d c.store.types targets places vs)))
  longer-one d c h (statement at (If test then_block)) from =
      longer-next d (meant c the_value test from) (meant (after d c h) the_value test from)
      (λ v s'. if is_true v then scoped s' (done_all c then_block
      (from + in_expression test) s') else Gives goes_on s') (λ v s'. if is_true v then scoped s' (done_all
      (after d c h) then_block (from + in_expression test) s') else Gives goes_on s')
      (longer-meant d c h the_value test from)
      (λ v. longer-if d (is_true v) (λ s'. scoped s' (done_all c then_block (from + in_expression test) s'))
      (λ s'. scoped s' (done_all (after d c h) then_block (from + in_expression test) s'))
      (λ s'. Gives goes_on s') (λ s'. Gives goes_on s')
      (longer-scoped d (done_all c then_block (from + in_expression test)) (done_all (after d c h) then_block
      (from + in_expression test))
      (longer-block d c h then_block (from + in_expression test)))
      (longer-gives d goes_on))
  longer-one d c h (statement at (IfElse test then_block else_block)) from =
      longer-next d (meant c the_value test from) (meant (after d c h) the_value test from) (λ v s'. scoped s'
      (if is_true v then done_all c then_block (from + in_expression test) s' else done_all c else_block
      (from + in_expression test + in_block then_block) s')) (λ v s'. scoped s' (if is_true v then done_all
      (after d c h) then_block (from + in_expression test) s' else done_all (after d c h) else_block
      (from + in_expression test + in_block then_block) s'))
      (longer-meant d c h the_value test from)
      (λ v. longer-scoped d (λ s'. if is_true v then done_all c then_block
      (from + in_expression test) s' else done_all c else_block
      (from + in_expression test + in_block then_block) s') (λ s'. if is_true v then done_all
      (after d c h) then_block (from + in_expression test) s' else done_all (after d c h) else_block
      (from + in_expression test + in_block then_block) s')
      (longer-if d (is_true v) (done_all c then_block (from + in_expression test)) (done_all (after d c h) then_block
      (from + in_expression test))
      (done_all c else_block (from + in_expression test + in_block then_block)) (done_all (after d c h) else_block
      (from + in_expression test + in_block then_block))
      (longer-block d c h then_block (from + in_expression test))
      (longer-block d c h else_block (from + in_expression test + in_block then_block))))
  longer-one d c h (statement at (While test body)) from =
      longer-rounds d c.turns h.turns h.fuel (λ s1. next (meant c the_value test from s1)
      (λ v s2. if is_true v then scoped s2 (done_all c body (from + in_expression test) s2) else Gives breaks s2))
      (λ s1. next (meant (after d c h) the_value test from s1) (λ v s2. if is_true v then scoped s2 (done_all
      (after d c h) body (from + in_expression test) s2) else Gives breaks s2))
      (longer-next d (meant c the_value test from) (meant (after d c h) the_value test from)
      (λ v s2. if is_true v then scoped s2 (done_all c body (from + in_expression test) s2) else Gives breaks s2)
      (λ v s2. if is_true v then scoped s2 (done_all (after d c h) body
      (from + in_expression test) s2) else Gives breaks s2)
      (longer-meant d c h the_value test from)
      (λ v. longer-if d (is_true v) (λ s2. scoped s2 (done_all c body (from + in_expression test) s2))
      (λ s2. scoped s2 (done_all (after d c h) body (from + in_expression test) s2))
      (λ s2. Gives breaks s2) (λ s2. Gives breaks s2)
      (longer-scoped d (done_all c body (from + in_expression test)) (done_all (after d c h) body
      (from + in_expression test))
      (longer-block d c h body (from + in_expression test)))
      (longer-gives d breaks)))
  longer-one d c h (statement at (Repeat body test)) from =
      longer-rounds d c.turns h.turns h.fuel (λ s1. scoped s1 (next (done_all c body from s1) (λ way s2. along way s2
      (λ s3. next (meant c the_value test (from + in_block body) s3) (λ v s4. Gives
      (if is_true v then breaks else goes_on) s4)))))
      (λ s1. scoped s1 (next (done_all (after d c h) body from s1) (λ way s2. along way s2 (λ s3. next (meant
      (after d c h) the_value test (from + in_block body) s3) (λ v s4. Gives
      (if is_true v then breaks else goes_on) s4)))))
      (longer-scoped d (λ s2. next (done_all c body from s2) (λ way s3. along way s3 (λ s3. next
      (meant c the_value test (from + in_block body) s3) (λ v s4. Gives
      (if is_true v then breaks else goes_on) s4)))) (λ s2. next (done_all (after d c h) body from s2)
      (λ way s3. along way s3 (λ s3. next (meant (after d c h) the_value test (from + in_block body) s3)
      (λ v s4. Gives (if is_true v then breaks else goes_on) s4))))
      (longer-next d (done_all c body from) (done_all (after d c h) body from) (λ way s2. along way s2 (λ s3. next
      (meant c the_value test (from + in_block body) s3) (λ v s4. Gives
      (if is_true v then breaks else goes_on) s4))) (λ way s2. along way s2 (λ s3. next (meant
      (after d c h) the_value test (from + in_block body) s3) (λ v s4. Gives
      (if is_true v then breaks else goes_on) s4)))
      (longer-block d c h body from)
      (λ way. longer-along d way (λ s3. next (meant c the_value test (from + in_block body) s3) (λ v s4. Gives
      (if is_true v then breaks else goes_on) s4)) (λ s3. next (meant (after d c h) the_value test
      (from + in_block body) s3) (λ v s4. Gives (if is_true v then breaks else goes_on) s4))
      (longer-next d (meant c the_value test (from + in_block body)) (meant (after d c h) the_value test
      (from + in_block body)) (λ v s4. Gives (if is_true v then breaks else goes_on) s4) (λ v s4. Gives
      (if is_true v then breaks else goes_on) s4)
      (longer-meant d c h the_value test (from + in_block body))
      (λ v. longer-gives d (if is_true v then breaks else goes_on))))))
  longer-one d c h (statement at (For x bounds body)) from =
      longer-next d (meant_all c the_value bounds from) (meant_all (after d c h) the_value bounds from)
      (λ vs s'. counted_for c (width_of c.store.types x.of) (λ i s1. scoped s1 (next (declared c at x (Some
      (word i)) (from + in_list bounds) s1) (λ _ s2. done_all c body (suc (from + in_list bounds)) s2))) vs s')
      (λ vs s'. counted_for (after d c h) (width_of (after d c h).store.types x.of) (λ i s1. scoped s1 (next
      (declared (after d c h) at x (Some (word i)) (from + in_list bounds) s1) (λ _ s2. done_all
      (after d c h) body (suc (from + in_list bounds)) s2))) vs s')
      (longer-all d c h the_value bounds from)
      (λ vs. longer-for d c.turns h.turns h.fuel (width_of c.store.types x.of) (number (value_at vs 1)) (step_of
      (behind (behind vs)))
      (λ i s1. scoped s1 (next (declared c at x (Some (word i)) (from + in_list bounds) s1) (λ _ s2. done_all c body
      (suc (from + in_list bounds)) s2)))
      (λ i s1. scoped s1 (next (declared (after d c h) at x (Some (word i)) (from + in_list bounds) s1)
      (λ _ s2. done_all (after d c h) body (suc (from + in_list bounds)) s2)))
      (λ i. longer-scoped d (λ s2. next (declared c at x (Some (word i)) (from + in_list bounds) s2)
      (λ _ s3. done_all c body (suc (from + in_list bounds)) s3)) (λ s2. next (declared (after d c h) at x (Some
      (word i)) (from + in_list bounds) s2) (λ _ s3. done_all (after d c h) body (suc (from + in_list bounds)) s3))
      (longer-next d (declared c at x (Some (word i)) (from + in_list bounds)) (declared (after d c h) at x (Some
      (word i)) (from + in_list bounds)) (λ _ s3. done_all c body (suc (from + in_list bounds)) s3)
      (λ _ s3. done_all (after d c h) body (suc (from + in_list bounds)) s3)
      (longer-declared d c h.call h.turns at x (Some (word i)) (from + in_list bounds))
      (λ _. longer-block d c h body (suc (from + in_list bounds))))) (number (value_at vs 0)))
  longer-one d c h (statement at (Do body)) from =
      longer-scoped d (done_all c body from) (done_all (after d c h) body from)
      (longer-block d c h body from)
  longer-one d c h (statement at Break) from = longer-gives d breaks
  longer-one d c h (statement at Finish) from = longer-gives d (gives_back (word 0))
  longer-one d c h (statement at (Return e)) from =
      longer-next d (meant c the_value e from) (meant (after d c h) the_value e from) (λ v s'. Gives
      (gives_back v) s') (λ v s'. Gives (gives_back v) s')
      (longer-meant d c h the_value e from)
      (λ v. longer-gives d (gives_back v))
  longer-one d c h (statement at (Perform e)) from =
      longer-next d (meant c the_value e from) (meant (after d c h) the_value e from) (λ v s'. Gives goes_on s')
      (λ v s'. Gives goes_on s')
      (longer-meant d c h the_value e from)
      (λ v. longer-gives d goes_on)

  pub longer-block : (d : ℕ) (c : Call) (h : Ahead d c) (ss : Statements) (from : ℕ) →
      Longer d (done_all c ss from) (done_all (after d c h) ss from)
  longer-block d c h done from = longer-gives d goes_on
  longer-block d c h (and_then st ss) from =
      longer-next d (done_one c st from) (done_one (after d c h) st from) (λ way s'. along way s' (done_all c ss
      (from + in_statement st))) (λ way s'. along way s' (done_all (after d c h) ss (from + in_statement st)))
      (longer-one d c h st from)
      (λ way. longer-along d way (done_all c ss (from + in_statement st)) (done_all (after d c h) ss
      (from + in_statement st)) (longer-block d c h ss (from + in_statement st)))

-- functions

longer-given-back : (d : ℕ) (k : Callable) (way : Way) → Longer d (given_back k way) (given_back k way)
longer-given-back d k (gives_back v) = longer-gives d v
longer-given-back d k goes_on = longer-if d (nat_eq k.body.result.0 unit.0) (λ s. Gives (word 0) s) (λ s. Gives
    (word 0) s)
    (λ s. fault NoReturn k.at s) (λ s. fault NoReturn k.at s) (longer-gives d (word 0)) (longer-fault d NoReturn k.at)
longer-given-back d k breaks = longer-if d (nat_eq k.body.result.0 unit.0) (λ s. Gives (word 0) s) (λ s. Gives
    (word 0) s)
    (λ s. fault NoReturn k.at s) (λ s. fault NoReturn k.at s) (longer-gives d (word 0)) (longer-fault d NoReturn k.at)

-- a part that begins without variables
longer-cleared : {A : Type 0} (d : ℕ) (x y : State → Got A) → Longer d x y →
    Longer d (λ s. x (record s { variables = [] })) (λ s. y (record s { variables = [] }))
longer-cleared d x y h = record {
  carries = λ s. h.carries (record s { variables = [] });
  grows = λ s. h.grows (record s { variables = [] });
}

longer-body : (d : ℕ) (c : Call) (h : Ahead d c) (k : Callable) (vs : List Value) →
    Longer d (body_run c k vs) (body_run (after d c h) k vs)
longer-body d c h k vs =
    longer-next d (λ s. declared_all c k.at k.body.parameters vs 0 (record s { variables = [] }))
    (λ s. declared_all (after d c h) k.at k.body.parameters vs 0 (record s { variables = [] }))
    (λ _ s'. next (done_all c k.body.body (length k.body.parameters) s') (given_back k))
    (λ _ s'. next (done_all (after d c h) k.body.body (length k.body.parameters) s') (given_back k))
    (longer-cleared d (declared_all c k.at k.body.parameters vs 0) (declared_all
    (after d c h) k.at k.body.parameters vs 0)
    (longer-declared-all d c h.call h.turns k.at k.body.parameters vs 0))
    (λ _. longer-next d (done_all c k.body.body (length k.body.parameters))
    (done_all (after d c h) k.body.body (length k.body.parameters)) (given_back k) (given_back k)
    (longer-block d c h k.body.body (length k.body.parameters)) (longer-given-back d k))

longer-entered : (d : ℕ) (store : Contents) (entries : List FnId) (calls more_calls : Calls) (n m depth top : ℕ) →
    n ≤ m →
    ((base : ℕ) (f : FnId) (vs : List Value) (at : Place) → Longer d (calls base f vs at) (more_calls base f vs at)) →
    (at : Place) (o : Option Callable) (vs : List Value) →
    Longer d (entered store entries calls n depth top at o vs) (entered store entries more_calls m depth top at o vs)
longer-entered d store entries calls more_calls n m depth top le h at None vs = longer-stuck d
longer-entered d store entries calls more_calls n m depth top le h at (Some k) vs =
    let size : ℕ = (frame_of store.types k.body).size in
    let c : Call = record {
      store = store;
      entries = entries;
      call = calls (top - size);
      base = top - size;
      homes = (frame_of store.types k.body).homes;
      turns = n;
    } in
    let a : Ahead d c = record { call = more_calls (top - size); turns = m; calls = h (top - size); fuel = le } in
    longer-if d (nat_le most_calls depth) (λ s. fault CallDepth at s) (λ s. fault CallDepth at s)
    (λ s. if nat_lt top (heap_limit s.region + size) then fault StackFull at s else body_run c k vs s)
    (λ s. if nat_lt top (heap_limit s.region + size) then fault StackFull at s else body_run (after d c a) k vs s)
    (longer-fault d CallDepth at)
    (longer-by d (λ s. nat_lt top (heap_limit s.region + size))
    (λ b s. if b then fault StackFull at s else body_run c k vs s)
    (λ b s. if b then fault StackFull at s else body_run (after d c a) k vs s) (λ s. refl)
    (λ b. longer-if d b (λ s. fault StackFull at s) (λ s. fault StackFull at s) (body_run c k vs) (body_run
    (after d c a) k vs)
    (longer-fault d StackFull at) (longer-body d c a k vs)))

-- a call below so many callers, with a meaning of the functions that it calls
longer-applied : (d : ℕ) (store : Contents) (entries : List FnId) (n m depth : ℕ) → n ≤ m →
    ((base : ℕ) (f : FnId) (vs : List Value) (at : Place) →
    Longer d (apply store entries n (suc depth) base f vs at) (apply store entries m (suc depth) base f vs at)) →
    (top : ℕ) (f : FnId) (vs : List Value) (at : Place) →
    Longer d (apply store entries (suc n) depth top f vs at) (apply store entries (suc m) depth top f vs at)
longer-applied d store entries n m depth le h top f vs at =
    longer-entered d store entries
    (λ base g us place s'. counted s' (λ s''. kept s'.variables (apply store entries n
    (suc depth) base g us place s'')))
    (λ base g us place s'. counted s' (λ s''. kept s'.variables (apply store entries m
    (suc depth) base g us place s'')))
    (suc n) (suc m) depth top (omega (arith, le))
    (λ base g us place. longer-call d (apply store entries n (suc depth) base g us place)
    (apply store entries m (suc depth) base g us place) (h base g us place))
    at (callable_of store f) vs

same-apply : (store : Contents) (entries : List FnId) (n depth top : ℕ) (f : FnId) (vs : List Value) (at : Place) →
    Longer 0 (apply store entries n depth top f vs at) (apply store entries n depth top f vs at)
same-apply store entries zero depth top f vs at = longer-more 0 (λ s. need_more s) (λ s. front-self s.out)
same-apply store entries (suc n) depth top f vs at =
    longer-applied 0 store entries n n depth (omega arith) (λ base g us place. same-apply store entries n
    (suc depth) base g us place)
    top f vs at

pub longer-apply : (d : ℕ) (store : Contents) (entries : List FnId) (n m depth top : ℕ) → n ≤ m →
    (f : FnId) (vs : List Value) (at : Place) →
    Longer d (apply store entries n depth top f vs at) (apply store entries m depth top f vs at)
longer-apply d store entries zero m depth top le f vs at =
    longer-more d (apply store entries m depth top f vs at) (same-apply store entries m depth top f vs at).grows
longer-apply d store entries (suc n) zero depth top le f vs at = absurd (omega (arith, le))
longer-apply d store entries (suc n) (suc m) depth top le f vs at =
    longer-applied d store entries n m depth (omega (arith, le))
    (λ base g us place. longer-apply d store entries n m (suc depth) base (omega (arith, le)) g us place) top f vs at

-- runs

run-extends : (d : ℕ) (x y : Got Value) → Carries d x y → Extends (run_of x) (run_of y)
run-extends d (Gives v s) y h = rw h refl
run-extends d (Ends (Over e out)) y h = rw h refl
run-extends d (Ends (More out)) (Gives v s) h = h
run-extends d (Ends (More out)) (Ends r) h = h

pub larger-count : (store : Contents) (entries : List FnId) (memory : ℕ) (f : FnId) (arguments : List Value) (n d : ℕ) →
    Extends (meaning store entries memory n f arguments) (meaning store entries memory (n + d) f arguments)
larger-count store entries memory f arguments n d =
    let region : regions.Contents = fresh memory (static_bytes store) in
    let s : State = record { variables = []; region = region; left = n; out = [] } in
    run-extends d (apply store entries (suc n) 0 (end_address region) f arguments (place_in (callable_of store f)) s)
    (apply store entries (suc (n + d)) 0 (end_address region) f arguments (place_in (callable_of store f)) (more d s))
    ((longer-apply d store entries (suc n) (suc (n + d)) 0 (end_address region) (omega arith) f arguments
    (place_in (callable_of store f))).carries s)

pub larger-counts : (store : Contents) (entries : List FnId) (memory : ℕ) (f : FnId) (arguments : List Value)
    (n m : ℕ) →
    n ≤ m → Extends (meaning store entries memory n f arguments) (meaning store entries memory m f arguments)
larger-counts store entries memory f arguments n m le =
    let e : m ≡ n + (m - n) = omega (arith, le) in
    rw e (larger-count store entries memory f arguments n (m - n))
