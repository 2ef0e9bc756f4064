-- The code of each term does what the term means, by recursion on the term. Operations are a premise here.
use Rattle.std.proofs.Common.{◌≡◌, ℕ, suc, ◌+◌, ◌≤◌, Some, List, [], ◌∷◌, refl, ap, ◌∙◌, subst}
use Rattle.std.specs.Prelude.{◌*◌, not, if◌then◌else◌}
use Rattle.tl_base.specs.declared.place.Place.{Place}
use Rattle.tl_base.specs.declared.ids.TypeId.{TypeId}
use Rattle.tl_base.specs.declared.ids.FnId.{FnId}
use Rattle.terra_words.specs.Words.{moved}
use Rattle.terra_words.specs.Runs.{Value, word, number, is_true}
use Rattle.terra_term.specs.declared.operators.Operation.{Operation}
use Rattle.terra_term.specs.declared.lists.TypedName.{TypedName}
use Rattle.terra_term.specs.TypedTerms.{Expression, typed, Constant', Variable, Global, Operate, Both, Either, Dereference, Select, Follow}
use Rattle.terra_term.specs.TypedTerms.{Element, Index, Address, Decay, Let, Expressions, no_more, then_one, Statement, statement, Var}
use Rattle.terra_term.specs.TypedTerms.{Assign, If, IfElse, While, Repeat, For, Do, Break, Finish, Return, Perform, Statements, done}
use Rattle.terra_term.specs.TypedTerms.{and_then, type_of}
use Rattle.terra_term.specs.Stores.{Contents}
use Rattle.terra_term.specs.WellTyped.{Within}
use Rattle.terra_meaning.specs.Values.{bytes_at}
use Rattle.terra_meaning.specs.Frames.{Home, home_at}
use Rattle.terra_meaning.specs.Running.{State, Got, Gives, Ends, next}
use Rattle.terra_meaning.specs.Meaning as meaning
use Rattle.terra_meaning.specs.Meaning.{Call, Wanted, the_value, the_address, Way, goes_on, breaks, gives_back, along, rounds, constant}
use Rattle.terra_meaning.specs.Meaning.{types_of, in_expression, in_list, in_statement, in_block, meant, meant_all, done_one, done_all}
use Rattle.terra_meaning.specs.Meaning.{operated}
use Rattle.tac_form.specs.declared.tac.Operand.{Operand}
use Rattle.tac_form.specs.declared.tac.Operand.TheVariants.{Temp, Constant}
use Rattle.tac_lower.specs.Pieces.{Used, known, with_temp, Piece, then_piece, taken, Result, a_word, word_of, located, Holders, Around}
use Rattle.tac_lower.specs.Pieces.{declare, declare_all, number_of}
use Rattle.tac_lower.specs.Lowering.{piece, pieces, targets, aimed, assigned_all, one, all, operation, reached, entry, element, opposite}
use Rattle.tac_lower.specs.Lowering.{counting, runs}
use Rattle.tac_lower.proofs.Places.{after}
use Rattle.tac_lower.proofs.Standing.{Setting, Good, Leaves}
use Rattle.tac_lower.proofs.Simulates.{Fact, nothing, one_of, all_of, aims, Sim, then_sim, grown-none}
use Rattle.tac_lower.proofs.Writes.{grown-temp, known_sim, taken_with_sim}
use Rattle.tac_lower.proofs.Words.{value-small}
use Rattle.tac_lower.proofs.Loads.{sim_as, next-same, reached_sim, word-is, is-value}
use Rattle.tac_lower.proofs.Reaches.{address-word, located-number, variable_sim, entry_sim, follow_sim, located_sim, element_sim, own-word}
use Rattle.tac_lower.proofs.Acts.{Acts, WayOk, under-self, acts_none, acts_then, acts_scoped}
use Rattle.tac_lower.proofs.Declares.{declare_some_sim, declare_all_sim, under-one, declares-under}
use Rattle.tac_lower.proofs.Branches.{acts_sim, acts_break, acts_return, acts_finish, acts_if}
use Rattle.tac_lower.proofs.Choices.{acts_choice, in_let, let_sim}
use Rattle.tac_lower.proofs.Shorts.{short_sim, both_tests, either_tests, plain-bool, next-not}
use Rattle.tac_lower.proofs.Rounds.{in_loop}
use Rattle.tac_lower.proofs.Loops.{acts_while}
use Rattle.tac_lower.proofs.Repeats.{acts_repeat}
use Rattle.tac_lower.specs.Needs as needed
use Rattle.tac_lower.specs.Needs.{names_after_one, names_after, IsWanted}
use Rattle.tac_lower.proofs.Fors.{acts_for}
use Rattle.tac_lower.proofs.Targets.{VariableIn, VariablesIn, ReadsVariable, AreAimed, is-aimed, aimed_sim, assigned_all_sim}

-- a word that is wanted
good-wanted : (z : Setting) (want : Wanted) (of : TypeId) (o : Operand) (x : ℕ) → IsWanted z.types want of x →
    Good z want of (a_word o) (word x)
good-wanted z the_value of o x h = h
good-wanted z the_address of o x h = h

-- statements, told otherwise
acts_as : {z : Setting} {n : ℕ} {w : Within} {names names' : List TypedName} {scope : Holders} {u : Used} {r : Piece Holders}
    (go go' : State → Got Way) → ((s : State) → go s ≡ go' s) →
    Acts z n w names scope u r go names' → Acts z n w names scope u r go' names'
acts_as {z} {n} {w} {names} {names'} {scope} {u} {r} go go' e x = record {
  grown = x.grown;
  over = x.over;
  under = x.under;
  run = λ out at k s has whole_ fine less.
      subst (λ g. Leaves z at k s (λ way s'. WayOk z w names scope at u k s (after r.code at) names' r.result r.used out way s') g) (e s)
      (x.run out at k s has whole_ fine less);
}

next-next : {A B D : Type 0} (g : Got A) (f : A → State → Got B) (h : B → State → Got D) →
    next (next g f) h ≡ next g (λ x s. next (f x s) h)
next-next (Gives x s) f h = refl
next-next (Ends r) f h = refl

-- what follows two parts, told at once or one part after the other
next-under : {A B D : Type 0} (g : Got A) (f : State → Got B) (h : A → B → State → Got D) →
    next g (λ x s. next (next (f s) (λ y s'. h x y s')) (λ d s'. Gives goes_on s'))
    ≡ next g (λ x s. next (f s) (λ y s'. next (h x y s') (λ d s''. Gives goes_on s'')))
next-under (Ends r) f h = refl
next-under (Gives x s) f h = next-next (f s) (λ y s'. h x y s') (λ d s'. Gives goes_on s')

-- the scope stays
scope_taken : {A B : Type 0} {z : Setting} {n : ℕ} {names : List TypedName} {scope : Holders} {facts : List Fact} {u : Used}
    {go : State → Got B} {post : B → Fact} (p : Piece A) → Sim z n names scope facts u p go names scope post →
    Sim z n names scope facts u (taken (λ b. scope) p) go names scope post
scope_taken p x = record { grown = x.grown; over = x.over; run = x.run }

-- an expression whose value isn't kept
perform : {B : Type 0} {z : Setting} {n : ℕ} {names : List TypedName} {scope : Holders} {u : Used} {p : Piece Result} {go : State → Got B}
    {post : B → Fact} →
    Sim z n names scope [] u p go names scope post → Sim z n names scope [] u (taken (λ v. scope) p) go names scope post
perform x = record { grown = x.grown; over = x.over; run = x.run }

module _ (z : Setting) (n : ℕ) (st : Contents) (entries : List FnId) (homes : List Home) (call : FnId → List Value → Place → State →
    Got Value) (turns : ℕ) (outside : Within) (OperationNeeds : Operation → List TypeId → TypeId → Type 0) where
  abbrev store : Contents
  store = record st { types = z.types }

  abbrev c : Call
  c = record { store = store; entries = entries; call = call; base = z.base; homes = homes; turns = turns }

  abbrev a : Around
  a = record { types = store.types; entries = entries; homes = homes }

  -- what lowering needs of a term's types, here

  abbrev pub Needs : Wanted → List TypedName → ℕ → Expression → Type 0
  Needs = needed.Needs z.types z.tac.frame entries homes outside OperationNeeds

  abbrev pub NeedsAll : List TypedName → ℕ → Expressions → Type 0
  NeedsAll = needed.NeedsAll z.types z.tac.frame entries homes outside OperationNeeds

  abbrev pub NeedsTargets : List TypedName → ℕ → Expressions → Type 0
  NeedsTargets = needed.NeedsTargets z.types z.tac.frame entries homes outside OperationNeeds

  abbrev pub NeedsOne : Within → List TypedName → ℕ → Statement → Type 0
  NeedsOne = needed.NeedsOne z.types z.tac.frame entries homes outside OperationNeeds

  abbrev pub NeedsBlock : Within → List TypedName → ℕ → Statements → Type 0
  NeedsBlock = needed.NeedsBlock z.types z.tac.frame entries homes outside OperationNeeds

  -- a target that is a variable is in scope, and the meaning reads it
  variable-in : (names : List TypedName) (from : ℕ) (e : Expression) → Needs the_address names from e →
      VariableIn names e × ReadsVariable z e (meant c the_address e from)
  variable-in names from (typed at of (Variable x)) needs = (needs, λ s. refl)
  variable-in names from (typed at of (Constant' c)) needs = (tt, tt)
  variable-in names from (typed at of (Global a)) needs = (tt, tt)
  variable-in names from (typed at of (Operate op es)) needs = (tt, tt)
  variable-in names from (typed at of (Both b1 b2)) needs = (tt, tt)
  variable-in names from (typed at of (Either b1 b2)) needs = (tt, tt)
  variable-in names from (typed at of (Dereference q)) needs = (tt, tt)
  variable-in names from (typed at of (Select o e1)) needs = (tt, tt)
  variable-in names from (typed at of (Follow o q)) needs = (tt, tt)
  variable-in names from (typed at of (Element b1 i)) needs = (tt, tt)
  variable-in names from (typed at of (Index q i)) needs = (tt, tt)
  variable-in names from (typed at of (Address e1)) needs = (tt, tt)
  variable-in names from (typed at of (Decay e1)) needs = (tt, tt)
  variable-in names from (typed at of (Let ss e1)) needs = (tt, tt)

  variables-in : (names : List TypedName) (from : ℕ) (es : Expressions) → NeedsTargets names from es → VariablesIn names es
  variables-in names from no_more needs = tt
  variables-in names from (then_one e es) needs =
      ((variable-in names from e needs.0).0, variables-in names (from + in_expression e) es needs.1)

  are-aimed : (scope : Holders) (es : Expressions) (from : ℕ) (u : Used) → AreAimed scope es (targets a es from scope u).result
  are-aimed scope no_more from u = tt
  are-aimed scope (then_one e es) from u =
      let p = aimed scope e (piece a the_address e from scope u) u in
      (is-aimed scope e (piece a the_address e from scope u) u, are-aimed scope es (from + in_expression e) p.used)

  module _
      (enough : n ≤ turns)
      (operations : (names : List TypedName) (scope : Holders) (facts : List Fact) (u : Used) (at : Place) (of : TypeId) (op : Operation)
      (ts : List TypeId) (rs : List Result) (vs : List Value) → OperationNeeds op ts of →
      Sim z n names scope (all_of ts rs vs ∷ facts) u (operation a at of op ts rs u) (operated c at of op ts vs) names scope
      (λ v. one_of the_value of (operation a at of op ts rs u).result v)) where
    mutual
      pub expression_sim : (want : Wanted) (e : Expression) (from : ℕ) (names : List TypedName) (scope : Holders) (facts : List Fact)
          (u : Used) → Needs want names from e →
          Sim z n names scope facts u (piece a want e from scope u) (meant c want e from) names scope
          (λ v. one_of want (type_of e) (piece a want e from scope u).result v)
      expression_sim want (typed at of (Constant' k)) from names scope facts u needs =
          known_sim u (a_word (Constant (constant entries k))) (word (constant entries k))
          (λ k1 s fine knows. record {
            is = refl;
            own = tt;
            good = good-wanted z want of (Constant (constant entries k))
                (constant entries k) needs;
          })
      expression_sim want (typed at of (Variable x)) from names scope facts u needs = variable_sim u want at of x needs
      expression_sim want (typed at of (Global address)) from names scope facts u needs =
          reached_sim u want at of (a_word (Constant address)) address (λ k s fine knows. record { is = refl; own = tt; good = needs })
      expression_sim the_value (typed at of (Operate op es)) from names scope facts u needs =
          then_sim (λ vs u'. operation a at of op (types_of es) vs u') (λ vs s'. operated c at of op (types_of es) vs s') []
          (expressions_sim es from names scope facts u needs.1)
          (λ vs. operations names scope facts (pieces a es from scope u).used at of op (types_of es) (pieces a es from scope u).result vs
          needs.2)
      expression_sim the_address (typed at of (Operate op es)) from names scope facts u needs = absurd needs.0
      expression_sim the_address (typed at of (Both x y)) from names scope facts u needs = absurd needs.0
      expression_sim the_value (typed at of (Both x y)) from names scope facts u needs =
          let p = piece a the_value x from scope (with_temp u) in
          let q = piece a the_value y (from + in_expression x) scope p.used in
          short_sim u of p (meant c the_value x from) (meant c the_value y (from + in_expression x)) (λ u'. known (Temp u.temps) u')
          (λ u'. piece a the_value y (from + in_expression x) scope u') is_true needs.5
          (subst (λ t. Sim z n names scope facts (with_temp u) p (meant c the_value x from) names scope
          (λ v. one_of the_value t p.result v)) needs.3 (expression_sim the_value x from names scope facts (with_temp u) needs.1))
          (grown-none p.used)
          (λ out at1 k s v has fine e h. both_tests z names scope p.used u.temps at1 k s v fine e)
          (subst (λ t. Sim z n names scope [] p.used q (meant c the_value y (from + in_expression x)) names scope
          (λ v. one_of the_value t q.result v)) needs.4
          (expression_sim the_value y (from + in_expression x) names scope [] p.used needs.2))
      expression_sim the_address (typed at of (Either x y)) from names scope facts u needs = absurd needs.0
      expression_sim the_value (typed at of (Either x y)) from names scope facts u needs =
          let p = piece a the_value x from scope (with_temp u) in
          let p2 = with_temp p.used in
          let q = piece a the_value y (from + in_expression x) scope p2 in
          let gob = meant c the_value y (from + in_expression x) in
          sim_as (λ s. next (meant c the_value x from s) (λ v s'. if not (is_true v) then gob s' else Gives v s'))
          (meant c the_value (typed at of (Either x y)) from) (λ s. next-not (meant c the_value x from s) gob)
          (short_sim u of p (meant c the_value x from) gob (opposite (Temp u.temps))
          (λ u'. piece a the_value y (from + in_expression x) scope u') (λ v. not (is_true v)) (plain-bool z.types of needs.5)
          (subst (λ t. Sim z n names scope facts (with_temp u) p (meant c the_value x from) names scope
          (λ v. one_of the_value t p.result v)) needs.3
          (expression_sim the_value x from names scope facts (with_temp u) needs.1))
          (grown-temp p.used)
          (λ out at1 k s v has fine e h. either_tests z names scope of p.used u.temps out at1 k s v needs.5 has fine e h)
          (subst (λ t. Sim z n names scope [] p2 q gob names scope (λ v. one_of the_value t q.result v)) needs.4
          (expression_sim the_value y (from + in_expression x) names scope [] p2 needs.2)))
      expression_sim want (typed at of (Dereference p)) from names scope facts u needs =
          let q = piece a the_value p from scope u in
          then_sim (λ v u'. reached z.types want at of (a_word (word_of v)) u') (λ v s'. meaning.reached z.types want at of (number v) s')
          (word 0)
          (expression_sim the_value p from names scope facts u needs)
          (λ v. reached_sim q.used want at of (a_word (word_of q.result)) (number v) (λ k s fine knows. record {
            is = ap word (word-is z (type_of p) scope q.used q.result k v knows.0);
            own = own-word scope q.used q.result knows.0.own;
            good = value-small z.types (type_of p) v (is-value z (type_of p) q.result v knows.0.good);
          }))
      expression_sim want (typed at of (Select offset e)) from names scope facts u needs =
          let q = piece a the_address e from scope u in
          then_sim (λ v u'. then_piece (entry offset v u') (λ r u''. reached z.types want at of r u''))
          (λ v s'. meaning.reached z.types want at of (moved (number v) offset) s') (word 0)
          (expression_sim the_address e from names scope facts u needs.0)
          (λ v. then_sim {mid = λ w. one_of the_address of (entry offset q.result q.used).result w}
          (λ r u''. reached z.types want at of r u'') (λ w s'. meaning.reached z.types want at of (number w) s') (word 0)
          (entry_sim q.used (type_of e) of offset q.result v needs.1)
          (λ w. reached_sim (entry offset q.result q.used).used want at of (entry offset q.result q.used).result (number w)
          (λ k s fine knows. address-word z of scope (entry offset q.result q.used).used (entry offset q.result q.used).result k w
          knows.0)))
      expression_sim want (typed at of (Follow offset p)) from names scope facts u needs =
          let q = piece a the_value p from scope u in
          let r = entry offset (a_word (word_of q.result)) q.used in
          then_sim (λ v u'. then_piece (entry offset (a_word (word_of v)) u') (λ r u''. reached z.types want at of r u''))
          (λ v s'. meaning.reached z.types want at of (moved (number v) offset) s') (word 0)
          (expression_sim the_value p from names scope facts u needs)
          (λ v. then_sim {mid = λ w. one_of the_address of r.result w} (λ r u''. reached z.types want at of r u'')
          (λ w s'. meaning.reached z.types want at of (number w) s') (word 0)
          (follow_sim q.used (type_of p) of offset q.result v)
          (λ w. reached_sim r.used want at of r.result (number w) (λ k s fine knows. address-word z of scope r.used r.result k w knows.0)))
      expression_sim want (typed at of (Element e i)) from names scope facts u needs =
          let size = bytes_at z.types of in
          let q = piece a the_address e from scope u in
          let l = located q.result q.used in
          let j = piece a the_value i (from + in_expression e) scope l.used in
          let r = element size (word_of l.result) (word_of j.result) j.used in
          then_sim
          (λ v u1. then_piece (located v u1) (λ array u2. then_piece (piece a the_value i (from + in_expression e) scope u2)
          (λ m u3. then_piece (element size (word_of array) (word_of m) u3) (λ r u4. reached z.types want at of r u4))))
          (λ v s'. next (meant c the_value i (from + in_expression e) s')
          (λ m s''. meaning.reached z.types want at of (moved (number v) (number m * size)) s'')) (word 0)
          (expression_sim the_address e from names scope facts u needs.0)
          (λ v. then_sim {mid = λ x. one_of the_address (type_of e) l.result x}
          (λ array u2. then_piece (piece a the_value i (from + in_expression e) scope u2)
          (λ m u3. then_piece (element size (word_of array) (word_of m) u3) (λ r u4. reached z.types want at of r u4)))
          (λ x s'. next (meant c the_value i (from + in_expression e) s')
          (λ m s''. meaning.reached z.types want at of (moved (number x) (number m * size)) s'')) (word 0)
          (located_sim q.used the_address (type_of e) (type_of e) q.result v (λ o x lt. lt))
          (λ x. then_sim (λ m u3. then_piece (element size (word_of l.result) (word_of m) u3) (λ r u4. reached z.types want at of r u4))
          (λ m s''. meaning.reached z.types want at of (moved (number x) (number m * size)) s'') (word 0)
          (expression_sim the_value i (from + in_expression e) names scope (one_of the_address (type_of e) l.result x ∷ one_of the_address
          (type_of e) q.result v ∷ facts) l.used needs.1)
          (λ m. then_sim {mid = λ w. one_of the_address of r.result w} (λ r u4. reached z.types want at of r u4)
          (λ w s''. meaning.reached z.types want at of (number w) s'') (word 0)
          (element_sim j.used of size (word_of l.result) (word_of j.result) (number x) (number m)
          (λ u1 k knows. (
            located-number z k q.result q.used ∙ ap number knows.1.0.is,
            word-is z (type_of i) scope u1 j.result k m
                knows.0,
          )))
          (λ w. reached_sim r.used want at of r.result (number w)
          (λ k s fine knows. address-word z of scope r.used r.result k w knows.0)))))
      expression_sim want (typed at of (Index p i)) from names scope facts u needs =
          let size = bytes_at z.types of in
          let q = piece a the_value p from scope u in
          let j = piece a the_value i (from + in_expression p) scope q.used in
          let r = element size (word_of q.result) (word_of j.result) j.used in
          then_sim
          (λ v u1. then_piece (piece a the_value i (from + in_expression p) scope u1)
          (λ m u2. then_piece (element size (word_of v) (word_of m) u2) (λ r u3. reached z.types want at of r u3)))
          (λ v s'. next (meant c the_value i (from + in_expression p) s')
          (λ m s''. meaning.reached z.types want at of (moved (number v) (number m * size)) s'')) (word 0)
          (expression_sim the_value p from names scope facts u needs.0)
          (λ v. then_sim (λ m u2. then_piece (element size (word_of q.result) (word_of m) u2) (λ r u3. reached z.types want at of r u3))
          (λ m s''. meaning.reached z.types want at of (moved (number v) (number m * size)) s'') (word 0)
          (expression_sim the_value i (from + in_expression p) names scope (one_of the_value (type_of p) q.result v ∷ facts) q.used needs.1)
          (λ m. then_sim {mid = λ w. one_of the_address of r.result w} (λ r u3. reached z.types want at of r u3)
          (λ w s''. meaning.reached z.types want at of (number w) s'') (word 0)
          (element_sim j.used of size (word_of q.result) (word_of j.result) (number v) (number m)
          (λ u1 k knows. (word-is z (type_of p) scope u1 q.result k v knows.1.0, word-is z (type_of i) scope u1 j.result k m knows.0)))
          (λ w. reached_sim r.used want at of r.result (number w) (λ k s fine knows. address-word z of scope r.used r.result k w knows.0))))
      expression_sim want (typed at of (Address e)) from names scope facts u needs =
          let q = piece a the_address e from scope u in
          sim_as (λ s. next (meant c the_address e from s) (λ v s'. Gives v s')) (meant c the_address e from)
          (λ s. next-same (meant c the_address e from s))
          (then_sim (λ v u'. located v u') (λ v s'. Gives v s') (word 0) (expression_sim the_address e from names scope facts u needs.0)
          (λ v. located_sim q.used want (type_of e) of q.result v (λ o x lt. good-wanted z want of o x (needs.1 x lt))))
      expression_sim want (typed at of (Decay e)) from names scope facts u needs =
          let q = piece a the_address e from scope u in
          sim_as (λ s. next (meant c the_address e from s) (λ v s'. Gives v s')) (meant c the_address e from)
          (λ s. next-same (meant c the_address e from s))
          (then_sim (λ v u'. located v u') (λ v s'. Gives v s') (word 0) (expression_sim the_address e from names scope facts u needs.0)
          (λ v. located_sim q.used want (type_of e) of q.result v (λ o x lt. good-wanted z want of o x (needs.1 x lt))))
      expression_sim the_address (typed at of (Let block e)) from names scope facts u needs = absurd needs.0
      expression_sim the_value (typed at of (Let block e)) from names scope facts u needs =
          let r = all a block from scope u in
          subst (λ t. Sim z n names scope facts u (piece a the_value (typed at of (Let block e)) from scope u)
          (meant c the_value (typed at of (Let block e)) from) names scope
          (λ v. one_of the_value t (piece a the_value (typed at of (Let block e)) from scope u).result v)) needs.3
          (let_sim outside the_value (type_of e) (λ inner u'. piece a the_value e (from + in_block block) inner u')
          (λ s'. meant c the_value e (from + in_block block) s')
          (block_acts block from (in_let outside) names scope u needs.1)
          (expression_sim the_value e (from + in_block block) (names_after block names) r.result [] r.used needs.2))

      pub expressions_sim : (es : Expressions) (from : ℕ) (names : List TypedName) (scope : Holders) (facts : List Fact) (u : Used) →
          NeedsAll names from es →
          Sim z n names scope facts u (pieces a es from scope u) (meant_all c the_value es from) names scope
          (λ vs. all_of (types_of es) (pieces a es from scope u).result vs)
      expressions_sim no_more from names scope facts u needs = known_sim u [] [] (λ k s fine knows. tt)
      expressions_sim (then_one e es) from names scope facts u needs =
          let q = piece a the_value e from scope u in
          then_sim (λ v u'. taken (λ vs. v ∷ vs) (pieces a es (from + in_expression e) scope u'))
          (λ v s'. next (meant_all c the_value es (from + in_expression e) s') (λ vs s''. Gives (v ∷ vs) s'')) (word 0)
          (expression_sim the_value e from names scope facts u needs.0)
          (λ v. taken_with_sim (λ vs. q.result ∷ vs) (λ vs. v ∷ vs)
          (expressions_sim es (from + in_expression e) names scope (one_of the_value (type_of e) q.result v ∷ facts) q.used needs.1)
          (λ vs k knows h. (knows.0, h)))

      pub targets_sim : (es : Expressions) (from : ℕ) (names : List TypedName) (scope : Holders) (facts : List Fact) (u : Used) →
          NeedsTargets names from es →
          Sim z n names scope facts u (targets a es from scope u) (meant_all c the_address es from) names scope
          (λ vs. aims (types_of es) (targets a es from scope u).result vs)
      targets_sim no_more from names scope facts u needs = known_sim u [] [] (λ k s fine knows. tt)
      targets_sim (then_one e es) from names scope facts u needs =
          let v = variable-in names from e needs.0 in
          let q = aimed scope e (piece a the_address e from scope u) u in
          then_sim (λ p u'. taken (λ ps. p ∷ ps) (targets a es (from + in_expression e) scope u'))
          (λ v s'. next (meant_all c the_address es (from + in_expression e) s') (λ vs s''. Gives (v ∷ vs) s'')) (word 0)
          (aimed_sim u e (piece a the_address e from scope u) (meant c the_address e from) v.0 v.1
          (expression_sim the_address e from names scope facts u needs.0))
          (λ v. taken_with_sim (λ ps. q.result ∷ ps) (λ vs. v ∷ vs)
          (targets_sim es (from + in_expression e) names scope (aims (type_of e ∷ []) (q.result ∷ []) (v ∷ []) ∷ facts) q.used needs.1)
          (λ vs k knows h. (knows.0.0, h)))

      pub statement_acts : (s : Statement) (from : ℕ) (w : Within) (names : List TypedName) (scope : Holders) (u : Used) →
          NeedsOne w names from s →
          Acts z n w names scope u (one a s from scope u) (done_one c s from) (names_after_one s names)
      statement_acts (statement at (Var xs values)) from w names scope u needs =
          let q = pieces a values from scope u in
          acts_as (λ s. next (next (meant_all c the_value values from s)
          (λ vs s'. meaning.declared_all c at xs vs (from + in_list values) s')) (λ v s'. Gives goes_on s'))
          (done_one c (statement at (Var xs values)) from)
          (λ s. next-next (meant_all c the_value values from s) (λ vs s'. meaning.declared_all c at xs vs (from + in_list values) s')
          (λ v s'. Gives goes_on s'))
          (acts_sim
          (then_sim (λ vs u'. declare_all a at xs vs (from + in_list values) scope u')
          (λ vs s'. meaning.declared_all c at xs vs (from + in_list values) s') []
          (expressions_sim values from names scope [] u needs.0)
          (λ vs. declare_all_sim z n c a names scope [] q.used at xs (from + in_list values) (types_of values) q.result vs needs.1))
          (declares-under a at xs (from + in_list values) q.result names scope q.used))
      statement_acts (statement at (Assign places values)) from w names scope u needs =
          let q = pieces a values from scope u in
          let p = targets a places (from + in_list values) scope q.used in
          let then_targets : List Value → State → Got (List Value) = λ vs s'. meant_all c the_address places (from + in_list values) s' in
          let go2 : List Value → State → Got Value = λ vs s'. next (meant_all c the_address places (from + in_list values) s')
          (λ ws s''. meaning.assigned_all z.types places ws vs s'') in
          acts_as (λ s. next (next (meant_all c the_value values from s) go2) (λ v s'. Gives goes_on s'))
          (done_one c (statement at (Assign places values)) from)
          (λ s. next-next (meant_all c the_value values from s) go2 (λ v s'. Gives goes_on s')
          ∙ next-under (meant_all c the_value values from s) (meant_all c the_address places (from + in_list values))
          (λ vs ws s''. meaning.assigned_all z.types places ws vs s''))
          (acts_sim
          (then_sim (λ vs u1. then_piece (targets a places (from + in_list values) scope u1)
          (λ ps u2. taken (λ b. scope) (assigned_all z.types places ps vs u2))) go2 []
          (expressions_sim values from names scope [] u needs.0)
          (λ vs. then_sim {post = λ w. nothing} (λ ps u2. taken (λ b. scope) (assigned_all z.types places ps q.result u2))
          (λ ws s''. meaning.assigned_all z.types places ws vs s'') []
          (targets_sim places (from + in_list values) names scope (all_of (types_of values) q.result vs ∷ []) q.used needs.1)
          (λ ws. scope_taken (assigned_all z.types places p.result q.result p.used)
          (subst (λ ts. Sim z n names scope (aims (types_of places) p.result ws ∷ all_of ts q.result vs ∷ []) p.used
          (assigned_all z.types places p.result q.result p.used) (meaning.assigned_all z.types places ws vs) names scope (λ w. nothing))
          needs.2
          (assigned_all_sim p.used places p.result q.result ws vs (are-aimed scope places (from + in_list values) q.used)
          (variables-in names (from + in_list values) places needs.1))))))
          (under-self names scope))
      statement_acts (statement at (If test block)) from w names scope u needs =
          acts_if (type_of test) (expression_sim the_value test from names scope [] u needs.0)
          (block_acts block (from + in_expression test) w names scope (piece a the_value test from scope u).used needs.1)
      statement_acts (statement at (IfElse test block other)) from w names scope u needs =
          let v = piece a the_value test from scope u in
          acts_choice (type_of test) (expression_sim the_value test from names scope [] u needs.0)
          (block_acts block (from + in_expression test) w names scope v.used needs.1)
          (block_acts other (from + in_expression test + in_block block) w names scope
          (all a block (from + in_expression test) scope v.used).used needs.2)
      statement_acts (statement at (While test body)) from w names scope u needs =
          acts_while (type_of test) turns enough (expression_sim the_value test from names scope [] u needs.0)
          (block_acts body (from + in_expression test) (in_loop w) names scope (piece a the_value test from scope u).used needs.1)
      statement_acts (statement at (Repeat body test)) from w names scope u needs =
          let r = all a body from scope u in
          acts_repeat (type_of test) turns enough (block_acts body from (in_loop w) names scope u needs.0)
          (expression_sim the_value test (from + in_block body) (names_after body names) r.result [] r.used needs.1)
      statement_acts (statement at (For x bounds body)) from w names scope u needs =
          let q = pieces a bounds from scope u in
          let number = from + in_list bounds in
          let k = counting (number_of z.types x.of) q.result q.used.temps in
          let t = runs k (with_temp q.used) in
          let d = declare a at x (Some (a_word (Temp q.used.temps))) number scope t.used in
          acts_for x (types_of bounds) d (all a body (suc number) d.result d.used) (λ i s. meaning.declared c at x (Some (word i)) number s)
          (λ s. done_all c body (suc number) s) turns enough needs.1 needs.2 (expressions_sim bounds from names scope [] u needs.0)
          (λ vs i. declare_some_sim t.used c at x (home_at homes number) (a_word (Temp q.used.temps)) (word i) needs.3)
          (under-one z.types at x (Some (a_word (Temp q.used.temps))) (home_at homes number) names scope t.used)
          (block_acts body (suc number) (in_loop w) (x ∷ names) d.result d.used needs.4)
      statement_acts (statement at (Do body)) from w names scope u needs = acts_scoped (block_acts body from w names scope u needs)
      statement_acts (statement at Break) from w names scope u needs = acts_break u needs
      statement_acts (statement at Finish) from w names scope u needs = acts_finish u needs.0 needs.1
      statement_acts (statement at (Return e)) from w names scope u needs =
          acts_return
          (subst (λ t. Sim z n names scope [] u (piece a the_value e from scope u) (meant c the_value e from) names scope
          (λ v. one_of the_value t (piece a the_value e from scope u).result v)) needs.1
          (expression_sim the_value e from names scope [] u needs.0)) needs.2
      statement_acts (statement at (Perform e)) from w names scope u needs =
          acts_sim (perform (expression_sim the_value e from names scope [] u needs)) (under-self names scope)

      pub block_acts : (ss : Statements) (from : ℕ) (w : Within) (names : List TypedName) (scope : Holders) (u : Used) →
          NeedsBlock w names from ss →
          Acts z n w names scope u (all a ss from scope u) (done_all c ss from) (names_after ss names)
      block_acts done from w names scope u needs = acts_none u
      block_acts (and_then s ss) from w names scope u needs =
          acts_then (λ scope' u'. all a ss (from + in_statement s) scope' u') (λ s'. done_all c ss (from + in_statement s) s')
          (statement_acts s from w names scope u needs.0)
          (block_acts ss (from + in_statement s) w (names_after_one s names) (one a s from scope u).result
          (one a s from scope u).used needs.1)
