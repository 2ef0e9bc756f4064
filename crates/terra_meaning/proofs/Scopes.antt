-- Expressions leave the variables in scope, but for their values, and statements leave them under those that they
-- declare.
use Rattle.std.proofs.Common.{ℕ, suc, ◌+◌, ◌*◌, [], ◌∷◌, Some, refl}
use Rattle.std.specs.Prelude.{if◌then◌else◌}
use Rattle.terra_words.specs.Words.{moved}
use Rattle.terra_words.specs.Runs.{word, number, is_true, value_at}
use Rattle.terra_term.specs.TypedTerms.{Expression, typed, Constant', Variable, Global, Operate, Both, Either, Dereference, Select, Follow}
use Rattle.terra_term.specs.TypedTerms.{Element, Index, Address, Decay, Let, Expressions, no_more, then_one, Statement, statement, Var}
use Rattle.terra_term.specs.TypedTerms.{Assign, If, IfElse, While, Repeat, For, Do, Break, Finish, Return, Perform, Statements, done}
use Rattle.terra_term.specs.TypedTerms.{and_then}
use Rattle.terra_meaning.specs.Values.{bytes_at, width_of}
use Rattle.terra_meaning.specs.Running.{Gives, next, found, scoped}
use Rattle.terra_meaning.specs.Laws.{shape, Keeps, Adds, CallsKeep}
use Rattle.terra_meaning.specs.Meaning.{Call, in_expression, in_list, in_statement, in_block, Wanted, the_value, the_address, reached}
use Rattle.terra_meaning.specs.Meaning.{operated, types_of, declared, declared_all, assigned_all, goes_on, breaks, gives_back, going, along}
use Rattle.terra_meaning.specs.Meaning.{rounds, for_rounds, step_of, behind, meant, meant_all, done_one, done_all}
use Rattle.terra_meaning.proofs.Scoping.{adds, keeps-next, adds-next, keeps-leaving, keeps-if, adds-if, adds-along, keeps-rounds, keeps-for}
use Rattle.terra_meaning.proofs.Scoping.{keeps-reached, keeps-variable, keeps-operated, adds-declared, adds-declared-all}
use Rattle.terra_meaning.proofs.Scoping.{keeps-assigned-all}

mutual
  pub keeps-meant : (c : Call) → CallsKeep c → (want : Wanted) (e : Expression) (from : ℕ) → Keeps (meant c want e from)
  keeps-meant c h want (typed at of (Constant' k)) from s = refl
  keeps-meant c h want (typed at of (Variable x)) from s = keeps-variable c.store.types want at of (found x s) s
  keeps-meant c h want (typed at of (Global a)) from s = keeps-reached c.store.types want at of a s
  keeps-meant c h want (typed at of (Operate op es)) from s =
      keeps-next (shape s.variables) (meant_all c the_value es from s) (λ vs s'. operated c at of op
      (types_of es) vs s')
      (keeps-all c h the_value es from s)
      (λ vs. keeps-operated c h at of op (types_of es) vs)
  keeps-meant c h want (typed at of (Both a b)) from s =
      keeps-next (shape s.variables) (meant c the_value a from s) (λ v s'. if is_true v then meant c the_value b
      (from + in_expression a) s' else Gives v s')
      (keeps-meant c h the_value a from s)
      (λ v t. keeps-if (shape t.variables) (is_true v) (meant c the_value b (from + in_expression a) t) (Gives v t)
      (keeps-meant c h the_value b (from + in_expression a) t) refl)
  keeps-meant c h want (typed at of (Either a b)) from s =
      keeps-next (shape s.variables) (meant c the_value a from s)
      (λ v s'. if is_true v then Gives v s' else meant c the_value b (from + in_expression a) s')
      (keeps-meant c h the_value a from s)
      (λ v t. keeps-if (shape t.variables) (is_true v) (Gives v t) (meant c the_value b
      (from + in_expression a) t) refl (keeps-meant c h the_value b (from + in_expression a) t))
  keeps-meant c h want (typed at of (Dereference p)) from s =
      keeps-next (shape s.variables) (meant c the_value p from s) (λ v s'. reached c.store.types want at of
      (number v) s')
      (keeps-meant c h the_value p from s)
      (λ v. keeps-reached c.store.types want at of (number v))
  keeps-meant c h want (typed at of (Select offset e)) from s =
      keeps-next (shape s.variables) (meant c the_address e from s) (λ v s'. reached c.store.types want at of (moved
      (number v) offset) s')
      (keeps-meant c h the_address e from s)
      (λ v. keeps-reached c.store.types want at of (moved (number v) offset))
  keeps-meant c h want (typed at of (Follow offset p)) from s =
      keeps-next (shape s.variables) (meant c the_value p from s) (λ v s'. reached c.store.types want at of (moved
      (number v) offset) s')
      (keeps-meant c h the_value p from s)
      (λ v. keeps-reached c.store.types want at of (moved (number v) offset))
  keeps-meant c h want (typed at of (Element a i)) from s =
      keeps-next (shape s.variables) (meant c the_address a from s) (λ v s'. next (meant c the_value i
      (from + in_expression a) s') (λ n s''. reached c.store.types want at of (moved (number v)
      (number n * bytes_at c.store.types of)) s''))
      (keeps-meant c h the_address a from s)
      (λ v t. keeps-next (shape t.variables) (meant c the_value i (from + in_expression a) t)
      (λ n s''. reached c.store.types want at of (moved (number v) (number n * bytes_at c.store.types of)) s'')
      (keeps-meant c h the_value i (from + in_expression a) t)
      (λ n. keeps-reached c.store.types want at of (moved (number v) (number n * bytes_at c.store.types of))))
  keeps-meant c h want (typed at of (Index a i)) from s =
      keeps-next (shape s.variables) (meant c the_value a from s) (λ v s'. next (meant c the_value i
      (from + in_expression a) s') (λ n s''. reached c.store.types want at of (moved (number v)
      (number n * bytes_at c.store.types of)) s''))
      (keeps-meant c h the_value a from s)
      (λ v t. keeps-next (shape t.variables) (meant c the_value i (from + in_expression a) t)
      (λ n s''. reached c.store.types want at of (moved (number v) (number n * bytes_at c.store.types of)) s'')
      (keeps-meant c h the_value i (from + in_expression a) t)
      (λ n. keeps-reached c.store.types want at of (moved (number v) (number n * bytes_at c.store.types of))))
  keeps-meant c h want (typed at of (Address e)) from s = keeps-meant c h the_address e from s
  keeps-meant c h want (typed at of (Decay a)) from s = keeps-meant c h the_address a from s
  keeps-meant c h want (typed at of (Let block e)) from s =
      keeps-leaving s.variables (next (done_all c block from s) (λ way s'. meant c the_value e
      (from + in_block block) s'))
      (adds-next (shape s.variables) (done_all c block from s) (λ way s'. meant c the_value e
      (from + in_block block) s')
      (adds-block c h block from s)
      (λ way t. adds (shape t.variables) (meant c the_value e (from + in_block block) t) (keeps-meant c h the_value e
      (from + in_block block) t)))

  pub keeps-all : (c : Call) → CallsKeep c → (want : Wanted) (es : Expressions) (from : ℕ) → Keeps
      (meant_all c want es from)
  keeps-all c h want no_more from s = refl
  keeps-all c h want (then_one e es) from s =
      keeps-next (shape s.variables) (meant c want e from s) (λ v s'. next (meant_all c want es
      (from + in_expression e) s') (λ vs s''. Gives (v ∷ vs) s''))
      (keeps-meant c h want e from s)
      (λ v t. keeps-next (shape t.variables) (meant_all c want es (from + in_expression e) t) (λ vs s''. Gives (v ∷
      vs) s'')
      (keeps-all c h want es (from + in_expression e) t)
      (λ vs u. refl))

  pub adds-one : (c : Call) → CallsKeep c → (st : Statement) (from : ℕ) → Adds (done_one c st from)
  adds-one c h (statement at (Var names values)) from s =
      adds-next (shape s.variables) (meant_all c the_value values from s) (λ vs s'. going (declared_all c at names vs
      (from + in_list values) s'))
      (adds (shape s.variables) (meant_all c the_value values from s) (keeps-all c h the_value values from s))
      (λ vs t. adds-next (shape t.variables) (declared_all c at names vs (from + in_list values) t)
      (λ _ u. Gives goes_on u)
      (adds-declared-all c at names vs (from + in_list values) t)
      (λ _ u. ([], refl)))
  adds-one c h (statement at (Assign targets values)) from s =
      adds (shape s.variables) (next (meant_all c the_value values from s) (λ vs s'. next
      (meant_all c the_address targets (from + in_list values) s') (λ places s''. going
      (assigned_all c.store.types targets places vs s''))))
      (keeps-next (shape s.variables) (meant_all c the_value values from s) (λ vs s'. next
      (meant_all c the_address targets (from + in_list values) s') (λ places s''. going
      (assigned_all c.store.types targets places vs s'')))
      (keeps-all c h the_value values from s)
      (λ vs t. keeps-next (shape t.variables) (meant_all c the_address targets (from + in_list values) t)
      (λ places s''. going (assigned_all c.store.types targets places vs s''))
      (keeps-all c h the_address targets (from + in_list values) t)
      (λ places u. keeps-next (shape u.variables) (assigned_all c.store.types targets places vs u)
      (λ _ r. Gives goes_on r)
      (keeps-assigned-all c.store.types targets places vs u)
      (λ _ r. refl))))
  adds-one c h (statement at (If test then_block)) from s =
      adds (shape s.variables) (next (meant c the_value test from s) (λ v s'. if is_true v then scoped s'
      (done_all c then_block (from + in_expression test) s') else Gives goes_on s'))
      (keeps-next (shape s.variables) (meant c the_value test from s) (λ v s'. if is_true v then scoped s'
      (done_all c then_block (from + in_expression test) s') else Gives goes_on s')
      (keeps-meant c h the_value test from s)
      (λ v t. keeps-if (shape t.variables) (is_true v) (scoped t (done_all c then_block
      (from + in_expression test) t)) (Gives goes_on t)
      (keeps-leaving t.variables (done_all c then_block (from + in_expression test) t) (adds-block c h then_block
      (from + in_expression test) t)) refl))
  adds-one c h (statement at (IfElse test then_block else_block)) from s =
      adds (shape s.variables) (next (meant c the_value test from s) (λ v s'. scoped s'
      (if is_true v then done_all c then_block (from + in_expression test) s' else done_all c else_block
      (from + in_expression test + in_block then_block) s')))
      (keeps-next (shape s.variables) (meant c the_value test from s) (λ v s'. scoped s'
      (if is_true v then done_all c then_block (from + in_expression test) s' else done_all c else_block
      (from + in_expression test + in_block then_block) s'))
      (keeps-meant c h the_value test from s)
      (λ v t. keeps-leaving t.variables (if is_true v then done_all c then_block
      (from + in_expression test) t else done_all c else_block (from + in_expression test + in_block then_block) t)
      (adds-if (shape t.variables) (is_true v) (done_all c then_block (from + in_expression test) t)
      (done_all c else_block (from + in_expression test + in_block then_block) t) (adds-block c h then_block
      (from + in_expression test) t) (adds-block c h else_block
      (from + in_expression test + in_block then_block) t))))
  adds-one c h (statement at (While test body)) from s =
      adds (shape s.variables) (rounds c.turns (λ s1. next (meant c the_value test from s1)
      (λ v s2. if is_true v then scoped s2 (done_all c body
      (from + in_expression test) s2) else Gives breaks s2)) s)
      (keeps-rounds c.turns (λ s1. next (meant c the_value test from s1) (λ v s2. if is_true v then scoped s2
      (done_all c body (from + in_expression test) s2) else Gives breaks s2))
      (λ r. keeps-next (shape r.variables) (meant c the_value test from r) (λ v s2. if is_true v then scoped s2
      (done_all c body (from + in_expression test) s2) else Gives breaks s2)
      (keeps-meant c h the_value test from r)
      (λ v t. keeps-if (shape t.variables) (is_true v) (scoped t (done_all c body (from + in_expression test) t))
      (Gives breaks t)
      (keeps-leaving t.variables (done_all c body (from + in_expression test) t) (adds-block c h body
      (from + in_expression test) t)) refl)) s)
  adds-one c h (statement at (Repeat body test)) from s =
      adds (shape s.variables) (rounds c.turns (λ s1. scoped s1 (next (done_all c body from s1)
      (λ way s2. along way s2 (λ s3. next (meant c the_value test (from + in_block body) s3) (λ v s4. Gives
      (if is_true v then breaks else goes_on) s4))))) s)
      (keeps-rounds c.turns (λ s1. scoped s1 (next (done_all c body from s1) (λ way s2. along way s2 (λ s3. next
      (meant c the_value test (from + in_block body) s3) (λ v s4. Gives
      (if is_true v then breaks else goes_on) s4)))))
      (λ r. keeps-leaving r.variables (next (done_all c body from r) (λ way s2. along way s2 (λ s3. next
      (meant c the_value test (from + in_block body) s3) (λ v s4. Gives
      (if is_true v then breaks else goes_on) s4))))
      (adds-next (shape r.variables) (done_all c body from r) (λ way s2. along way s2 (λ s3. next
      (meant c the_value test (from + in_block body) s3) (λ v s4. Gives
      (if is_true v then breaks else goes_on) s4)))
      (adds-block c h body from r)
      (λ way t. adds-along way t (λ s3. next (meant c the_value test (from + in_block body) s3) (λ v s4. Gives
      (if is_true v then breaks else goes_on) s4))
      (λ u. adds (shape u.variables) (next (meant c the_value test (from + in_block body) u) (λ v s4. Gives
      (if is_true v then breaks else goes_on) s4)) (keeps-next (shape u.variables) (meant c the_value test
      (from + in_block body) u) (λ v s4. Gives (if is_true v then breaks else goes_on) s4)
      (keeps-meant c h the_value test (from + in_block body) u)
      (λ v q. refl)))))) s)
  adds-one c h (statement at (For x bounds body)) from s =
      adds (shape s.variables) (next (meant_all c the_value bounds from s) (λ vs s'. for_rounds c.turns
      (width_of c.store.types x.of) (number (value_at vs 1)) (step_of (behind (behind vs))) (λ i s1. scoped s1
      (next (declared c at x (Some (word i)) (from + in_list bounds) s1) (λ _ s2. done_all c body (suc
      (from + in_list bounds)) s2))) (number (value_at vs 0)) s'))
      (keeps-next (shape s.variables) (meant_all c the_value bounds from s) (λ vs s'. for_rounds c.turns
      (width_of c.store.types x.of) (number (value_at vs 1)) (step_of (behind (behind vs))) (λ i s1. scoped s1
      (next (declared c at x (Some (word i)) (from + in_list bounds) s1) (λ _ s2. done_all c body (suc
      (from + in_list bounds)) s2))) (number (value_at vs 0)) s')
      (keeps-all c h the_value bounds from s)
      (λ vs t. keeps-for c.turns (width_of c.store.types x.of) (number (value_at vs 1)) (step_of (behind (behind vs)))
      (λ i s1. scoped s1 (next (declared c at x (Some (word i)) (from + in_list bounds) s1)
      (λ _ s2. done_all c body (suc (from + in_list bounds)) s2)))
      (λ i r. keeps-leaving r.variables (next (declared c at x (Some (word i)) (from + in_list bounds) r)
      (λ _ s2. done_all c body (suc (from + in_list bounds)) s2)) (adds-next (shape r.variables) (declared c at x
      (Some (word i)) (from + in_list bounds) r) (λ _ s2. done_all c body (suc (from + in_list bounds)) s2)
      (adds-declared c at x (Some (word i)) (from + in_list bounds) r)
      (λ _. adds-block c h body (suc (from + in_list bounds))))) (number (value_at vs 0)) t))
  adds-one c h (statement at (Do body)) from s =
      adds (shape s.variables) (scoped s (done_all c body from s))
      (keeps-leaving s.variables (done_all c body from s) (adds-block c h body from s))
  adds-one c h (statement at Break) from s = ([], refl)
  adds-one c h (statement at Finish) from s = ([], refl)
  adds-one c h (statement at (Return e)) from s =
      adds (shape s.variables) (next (meant c the_value e from s) (λ v s'. Gives (gives_back v) s'))
      (keeps-next (shape s.variables) (meant c the_value e from s) (λ v s'. Gives (gives_back v) s')
      (keeps-meant c h the_value e from s)
      (λ v t. refl))
  adds-one c h (statement at (Perform e)) from s =
      adds (shape s.variables) (next (meant c the_value e from s) (λ v s'. Gives (goes_on) s'))
      (keeps-next (shape s.variables) (meant c the_value e from s) (λ v s'. Gives (goes_on) s')
      (keeps-meant c h the_value e from s)
      (λ v t. refl))

  pub adds-block : (c : Call) → CallsKeep c → (ss : Statements) (from : ℕ) → Adds (done_all c ss from)
  adds-block c h done from s = ([], refl)
  adds-block c h (and_then st ss) from s =
      adds-next (shape s.variables) (done_one c st from s) (λ way s'. along way s' (done_all c ss
      (from + in_statement st)))
      (adds-one c h st from s)
      (λ way t. adds-along way t (done_all c ss (from + in_statement st)) (adds-block c h ss (from + in_statement st)))
