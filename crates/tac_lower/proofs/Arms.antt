-- What each kind of expression and of statement adds to code in progress.
use Rattle.std.proofs.Common.{◌≡◌, refl, sym, ap, ◌∙◌, subst, ℕ, suc, ◌+◌, ◌-◌, List, [], ◌++◌, length, drop, arith, add_assoc}
use Rattle.std.proofs.Common.{append_assoc}
use Rattle.std.specs.Prelude.{Result, Ok, Err}
use Rattle.tl_base.specs.declared.memory.NoMemory.{NoMemory}
use Rattle.tl_base.specs.declared.place.Place.{Place}
use Rattle.tl_base.specs.declared.ids.TermId.{TermId}
use Rattle.tl_base.specs.declared.ids.TypeId.{TypeId}
use Rattle.terra_types.specs.declared.types.TypeForm.{TypeForm}
use Rattle.terra_term.specs.declared.lists.TypedName.{TypedName}
use Rattle.terra_term.specs.declared.typed.TypedExpression.{TypedExpression}
use Rattle.terra_term.specs.declared.typed.TypedExpression.TheVariants as expressions
use Rattle.terra_term.specs.declared.typed.TypedStatement.{TypedStatement}
use Rattle.terra_term.specs.declared.typed.TypedStatement.TheVariants as statements
use Rattle.terra_term.specs.Events.{block_events, declares, events_of, list_events}
use Rattle.terra_term.specs.TypedTerms.{Expression, Statement}
use Rattle.terra_meaning.specs.Values.{bytes_at}
use Rattle.terra_meaning.specs.Meaning.{Wanted, in_block, in_expression, in_list, in_statement, the_address, the_value}
use Rattle.terra_eval.specs.Trees.{block_before, expression_before, expression_tree, list_before, statement_before, statement_tree}
use Rattle.tac_form.specs.declared.tac.Operand.{Operand}
use Rattle.tac_lower.specs.Pieces as pieces
use Rattle.tac_lower.specs.Pieces.{Holders, Piece, Used, declare_all, located, taken, then_piece, word_of}
use Rattle.tac_lower.specs.Lowering.{Target, assigned_all, element, one, piece, reached, targets}
use Rattle.tac_lower.specs.Works.{Declared, Gave, Made, Passed, Put, behind, past, scoped}
use Rattle.tac_lower.specs.Data.{result_of}
use Rattle.tac_lower.specs.Views.{all_of, around_of, for_of, piece_of, pieces_of, targets_of}
use Rattle.tac_lower.specs.declared.around.Around.{Around}
use Rattle.tac_lower.specs.declared.value.Value.{Value}
use Rattle.tac_lower.proofs.Adding.{gave-after, gave-behind, passed-after, passed-behind, same-made}
use Rattle.tac_lower.proofs.Building.{built-all, built-left, built-nothing, built-past, built-plain, built-scoped, built-term}
use Rattle.tac_lower.proofs.Leaving.{block-before, scope-left}
use Rattle.tac_lower.proofs.Passing.{declared_append, declared_names, declared_scope, declared_takes}

-- as many declarations
recounted : {A B : Type 0} (view : A → B) (r : Result A NoMemory) (old new : Made) (p : Piece B) (n k : ℕ) → k ≡ n → Passed view r old new p n
    → Passed view r old new p k
recounted view r old new p n k same passed = subst (λ (j : ℕ). Passed view r old new p j) (sym same) passed

-- A piece of a term, and what changes the scope from it on.
module _ (r : Result (Unit {0}) NoMemory) {B : Type 0} (w0 w1 w2 : Made) (p : Piece B) (G : B → Made → Piece Holders) (x : B) (n m k : ℕ)
    (same : x ≡ p.result) (first : w1 ≡ past w0 p n) (sum : k ≡ n + m) where
  abbrev go : B → Used → Piece Holders
  go v u = G v (record (past w0 p n) { used = u })

  both : scoped w0 (then_piece p go) k ≡ scoped (past w0 p n) (go p.result p.used) m
  both =
      let q = go p.result p.used in
      same-made (scoped w0 (then_piece p go) k) (scoped (past w0 p n) q m) (sym (append_assoc w0.code p.code q.code)) refl refl
      (ap (λ (j : ℕ). w0.next + j) sum ∙ sym (add_assoc w0.next n m))

  pub declared-after : Declared r w1 w2 (G x w1) m → Declared r w0 w2 (then_piece p (λ v u. G v (record (past w0 p n) { used = u }))) k
  declared-after = by r
    where
      here : G x w1 ≡ G p.result (past w0 p n)
      here = ap (λ (v : B). G v w1) same ∙ ap (λ (w : Made). G p.result w) first

      by : (r : Result (Unit {0}) NoMemory) → Declared r w1 w2 (G x w1) m → Declared r w0 w2 (then_piece p go) k
      by (Err e) second = tt
      by (Ok v) second =
          second ∙ ap (λ (q : Piece Holders). scoped w1 q m) here ∙ ap (λ (w : Made). scoped w (G p.result (past w0 p n)) m) first ∙ sym both

-- expressions

module _ (c : Around) (want : Wanted) (below : ℕ) (node : TermId) (at : Place) (of : TypeId) (form : TypedExpression)
    (tree : expression_before c.store.now below node ≡ expression_tree c.store.now node.0 at of form)
    (r : Result Value NoMemory) (w0 w : Made) where
  abbrev Done : Type 0
  Done = Passed result_of r w0 w (piece_of c want below node w0) (in_expression (expression_before c.store.now below node))

  abbrev Tree : TypedExpression → Expression
  Tree f = expression_tree c.store.now node.0 at of f

  abbrev At : Expression → Type 0
  At e = Passed result_of r w0 w (piece (around_of c) want e w0.next w0.scope w0.used) (in_expression e)

  abbrev E : TermId → Expression
  E a = expression_before c.store.now node.0 a

  abbrev P : Wanted → TermId → Made → Piece pieces.Result
  P wanted a old = piece_of c wanted node.0 a old

  abbrev R : pieces.Result → Used → Piece pieces.Result
  R v u = reached c.store.now.types want at of v u

  by-tree : (f : TypedExpression) → form ≡ f → At (Tree f) → Done
  by-tree f is done = subst At (sym (tree ∙ ap (λ (g : TypedExpression). Tree g) is)) done

  abbrev Els : pieces.Result → pieces.Result → Used → Piece pieces.Result
  Els array n u = element (bytes_at c.store.now.types of) (word_of array) (word_of n) u

  module _ (ts : List TypeForm) (size : ℕ) (x y : Operand) (types : ts ≡ c.store.now.types) (sized : size ≡ bytes_at ts of) where
    same-element : (array n : pieces.Result) (u : Used) → x ≡ word_of array → y ≡ word_of n → element size x y u ≡ Els array n u
    same-element array n u from index =
        ap (λ (k : ℕ). element k x y u) (sized ∙ ap (λ (l : List TypeForm). bytes_at l of) types)
        ∙ ap (λ (o : Operand). element (bytes_at c.store.now.types of) o y u) from
        ∙ ap (λ (o : Operand). element (bytes_at c.store.now.types of) (word_of array) o u) index

    pub index-arm : (a i : TermId) (v n v1 : Value) (w1 w2 w3 : Made) → form ≡ expressions.Index a i
        → result_of v ≡ (P the_value a w0).result → w1 ≡ past w0 (P the_value a w0) (in_expression (E a))
        → result_of n ≡ (P the_value i w1).result → w2 ≡ past w1 (P the_value i w1) (in_expression (E i))
        → x ≡ word_of (result_of v) → y ≡ word_of (result_of n)
        → result_of v1 ≡ (element size x y w2.used).result → w3 ≡ behind w2 (element size x y w2.used)
        → Gave result_of r w3 w (reached ts want at of (result_of v1) w3.used) → Done
    index-arm a i v n v1 w1 w2 w3 is same first same1 second from index same2 third fourth =
        let moved = same-element (result_of v) (result_of n) w2.used from index in
        by-tree (expressions.Index a i) is
        (passed-after result_of r w0 w1 w (P the_value a w0)
        (λ p z. then_piece (P the_value i z) (λ q u. then_piece (Els p q u) (λ l u'. R l u'))) (result_of v)
        (in_expression (E a)) (in_expression (E i)) _ same first (declared_append (events_of (E a)) (events_of (E i)))
        (gave-after result_of r w1 w2 w (P the_value i w1) (λ q z. then_piece (Els (result_of v) q z.used) (λ l u'. R l u')) (result_of n)
        (in_expression (E i)) same1 second
        (gave-behind result_of r w2 w3 w (Els (result_of v) (result_of n) w2.used) (λ l u'. R l u') (result_of v1)
        (same2 ∙ ap (λ (p : Piece pieces.Result). p.result) moved) (third ∙ ap (λ (p : Piece pieces.Result). behind w2 p) moved)
        (subst (λ (l : List TypeForm). Gave result_of r w3 w (reached l want at of (result_of v1) w3.used)) types fourth))))

    pub element-arm : (a i : TermId) (v array n v1 : Value) (w1 w2 w3 w4 : Made) → form ≡ expressions.Element a i
        → result_of v ≡ (P the_address a w0).result → w1 ≡ past w0 (P the_address a w0) (in_expression (E a))
        → result_of array ≡ (located (result_of v) w1.used).result → w2 ≡ behind w1 (located (result_of v) w1.used)
        → result_of n ≡ (P the_value i w2).result → w3 ≡ past w2 (P the_value i w2) (in_expression (E i))
        → x ≡ word_of (result_of array) → y ≡ word_of (result_of n)
        → result_of v1 ≡ (element size x y w3.used).result → w4 ≡ behind w3 (element size x y w3.used)
        → Gave result_of r w4 w (reached ts want at of (result_of v1) w4.used) → Done
    element-arm a i v array n v1 w1 w2 w3 w4 is same first same1 second same2 third from index same3 fourth fifth =
        let moved = same-element (result_of array) (result_of n) w3.used from index in
        by-tree (expressions.Element a i) is
        (passed-after result_of r w0 w1 w (P the_address a w0)
        (λ p z. then_piece (located p z.used) (λ l u. then_piece (P the_value i (record z { used = u })) (λ q u'. then_piece (Els l q u') (λ m u''. R m u''))))
        (result_of v) (in_expression (E a)) (in_expression (E i)) _ same first (declared_append (events_of (E a)) (events_of (E i)))
        (passed-behind result_of r w1 w2 w (located (result_of v) w1.used)
        (λ l z. then_piece (P the_value i z) (λ q u'. then_piece (Els l q u') (λ m u''. R m u''))) (result_of array) (in_expression (E i)) same1 second
        (gave-after result_of r w2 w3 w (P the_value i w2) (λ q z. then_piece (Els (result_of array) q z.used) (λ m u''. R m u'')) (result_of n)
        (in_expression (E i)) same2 third
        (gave-behind result_of r w3 w4 w (Els (result_of array) (result_of n) w3.used) (λ m u''. R m u'') (result_of v1)
        (same3 ∙ ap (λ (p : Piece pieces.Result). p.result) moved) (fourth ∙ ap (λ (p : Piece pieces.Result). behind w3 p) moved)
        (subst (λ (l : List TypeForm). Gave result_of r w4 w (reached l want at of (result_of v1) w4.used)) types fifth)))))

  pub address-arm : (a : TermId) (v : Value) (w1 : Made) → form ≡ expressions.Address a → result_of v ≡ (P the_address a w0).result
      → w1 ≡ past w0 (P the_address a w0) (in_expression (E a)) → Gave result_of r w1 w (located (result_of v) w1.used) → Done
  address-arm a v w1 is same first second =
      by-tree (expressions.Address a) is
      (recounted result_of r w0 w _ (in_expression (E a)) _ (declared_takes (E a) (events_of (E a)))
      (gave-after result_of r w0 w1 w (P the_address a w0) (λ x z. located x z.used) (result_of v) (in_expression (E a)) same first second))

-- a `let`
module _ (c : Around) (want : Wanted) (below : ℕ) (node : TermId) (at : Place) (of : TypeId) (form : TypedExpression)
    (tree : expression_before c.store.now below node ≡ expression_tree c.store.now node.0 at of form) (w0 : Made) where
  pub let-arm : (block : List TermId) (a : TermId) (v : Value) (w1 w2 w3 : Made) (depth : ℕ) → form ≡ expressions.Let block a
      → w1 ≡ scoped w0 (all_of c node.0 block w0) (in_block (block_before c.store.now node.0 block))
      → result_of v ≡ (piece_of c the_value node.0 a w1).result
      → w2 ≡ past w1 (piece_of c the_value node.0 a w1) (in_expression (expression_before c.store.now node.0 a)) → depth ≡ length w0.scope
      → w3 ≡ record w2 { scope = drop (length w2.scope - depth) w2.scope }
      → Passed result_of (Ok v) w0 w3 (piece_of c want below node w0) (in_expression (expression_before c.store.now below node))
  let-arm block a v w1 w2 w3 depth is first same second count left =
      let C = around_of c in
      let ss = block_before c.store.now node.0 block in
      let e = expression_before c.store.now node.0 a in
      let m = in_block ss in
      let n = in_expression e in
      let A = all_of c node.0 block w0 in
      let p = piece_of c the_value node.0 a w1 in
      let b1 = built-scoped w0 w0 w1 [] w0.used w0.scope 0 (built-nothing w0) A m first in
      let b2 = built-term w0 w1 w2 A.code A.used A.result (0 + m) b1 p n second in
      let b3 = built-left w0 w2 w3 (A.code ++ p.code) p.used A.result (0 + m + n) b2 depth w0.scope
      (scope-left w0.scope A.result depth (block-before C ss w0.next w0.scope w0.used) count) left in
      let p0 = piece C the_value e (w0.next + m) A.result A.used in
      let there : p ≡ p0 = ap (λ (z : Made). piece C the_value e z.next z.scope z.used) first in
      let whole = expression_tree c.store.now node.0 at of (expressions.Let block a) in
      let sum : 0 + m + n ≡ in_expression whole =
      omega (arith, declared_append (block_events ss) (events_of e), declared_scope (block_events ss ++ events_of e)) in
      subst (λ (x : Expression). Passed result_of (Ok v) w0 w3 (piece C want x w0.next w0.scope w0.used) (in_expression x))
      (sym (tree ∙ ap (λ (g : TypedExpression). expression_tree c.store.now node.0 at of g) is)) (
        same ∙ ap (λ (q : Piece pieces.Result). q.result) there,
        built-past w0 w3 (piece C want whole w0.next w0.scope w0.used) _ _ _ _ b3 (ap (λ (q : Piece pieces.Result). A.code ++ q.code) there)
            (ap (λ (q : Piece pieces.Result). q.used) there) sum,
      )

-- statements

module _ (c : Around) (below : ℕ) (node : TermId) (at : Place) (form : TypedStatement)
    (tree : statement_before c.store.now below node ≡ statement_tree c.store.now node.0 at form)
    (r : Result (Unit {0}) NoMemory) (w0 w : Made) where
  abbrev DoneAt : Statement → Type 0
  DoneAt s = Declared r w0 w (one (around_of c) s w0.next w0.scope w0.used) (in_statement s)

  abbrev STree : TypedStatement → Statement
  STree f = statement_tree c.store.now node.0 at f

  pub done-arm : (f : TypedStatement) → form ≡ f → DoneAt (STree f) → DoneAt (statement_before c.store.now below node)
  done-arm f is done = subst DoneAt (sym (tree ∙ ap (λ (g : TypedStatement). STree g) is)) done

  pub do-arm : (body : List TermId) → form ≡ statements.Do body
      → Declared r w0 w (taken (λ (h : Holders). w0.scope) (all_of c node.0 body w0)) (in_block (block_before c.store.now node.0 body))
      → DoneAt (statement_before c.store.now below node)
  do-arm body is done =
      done-arm (statements.Do body) is
      (subst (λ (k : ℕ). Declared r w0 w (taken (λ (h : Holders). w0.scope) (all_of c node.0 body w0)) k)
      (sym (declared_scope (block_events (block_before c.store.now node.0 body)))) done)

  pub var-arm : (names : List TypedName) (es : List TermId) (vs : List pieces.Result) (w1 : Made) → form ≡ statements.Var names es
      → vs ≡ (pieces_of c node.0 es w0).result → w1 ≡ past w0 (pieces_of c node.0 es w0) (in_list (list_before c.store.now node.0 es))
      → Declared r w1 w (declare_all (around_of c) at names vs w1.next w1.scope w1.used) (length names)
      → DoneAt (statement_before c.store.now below node)
  var-arm names es vs w1 is same first second =
      let l = list_before c.store.now node.0 es in
      let sum : in_statement (STree (statements.Var names es)) ≡ in_list l + length names =
      declared_append (list_events l) _ ∙ ap (λ (k : ℕ). in_list l + k) (declared_names names) in
      done-arm (statements.Var names es) is
      (declared-after r w0 w1 w (pieces_of c node.0 es w0) (λ x z. declare_all (around_of c) at names x z.next z.scope z.used) vs
      (in_list l) (length names) _ same first sum second)

  pub for-arm : (x : TypedName) (es body : List TermId) (vs : List pieces.Result) (w1 : Made) → form ≡ statements.For x es body
      → vs ≡ (pieces_of c node.0 es w0).result → w1 ≡ past w0 (pieces_of c node.0 es w0) (in_list (list_before c.store.now node.0 es))
      → Declared r w1 w (for_of c node.0 at x vs body w1) (suc (in_block (block_before c.store.now node.0 body)))
      → DoneAt (statement_before c.store.now below node)
  for-arm x es body vs w1 is same first second =
      let l = list_before c.store.now node.0 es in
      let ss = block_before c.store.now node.0 body in
      let sum : in_statement (STree (statements.For x es body)) ≡ in_list l + suc (in_block ss) =
      declared_append (list_events l) _ ∙ ap (λ (k : ℕ). in_list l + k) (declared_scope (declares x ++ block_events ss)) in
      done-arm (statements.For x es body) is
      (declared-after r w0 w1 w (pieces_of c node.0 es w0) (λ v z. for_of c node.0 at x v body z) vs (in_list l) (suc (in_block ss)) _ same first sum second)

  pub assign-arm : (goals es : List TermId) (ps : List Target) (vs : List pieces.Result) (w1 w2 : Made) → form ≡ statements.Assign goals es
      → vs ≡ (pieces_of c node.0 es w0).result → w1 ≡ past w0 (pieces_of c node.0 es w0) (in_list (list_before c.store.now node.0 es))
      → ps ≡ (targets_of c node.0 goals w1).result → w2 ≡ past w1 (targets_of c node.0 goals w1) (in_list (list_before c.store.now node.0 goals))
      → Put r w2 w (assigned_all c.store.now.types (list_before c.store.now node.0 goals) ps vs w2.used)
      → DoneAt (statement_before c.store.now below node)
  assign-arm goals es ps vs w1 w2 is same first same1 second third = done-arm (statements.Assign goals es) is (by r third)
    where
      by : (r : Result (Unit {0}) NoMemory)
          → Put r w2 w (assigned_all c.store.now.types (list_before c.store.now node.0 goals) ps vs w2.used)
          → Declared r w0 w (one (around_of c) (STree (statements.Assign goals es)) w0.next w0.scope w0.used)
          (in_statement (STree (statements.Assign goals es)))
      by (Err e) third = tt
      by (Ok b) third =
          let C = around_of c in
          let l = list_before c.store.now node.0 es in
          let g = list_before c.store.now node.0 goals in
          let types = c.store.now.types in
          let p = pieces_of c node.0 es w0 in
          let q = targets_of c node.0 goals w1 in
          let a = assigned_all types g ps vs w2.used in
          let b1 = built-term w0 w0 w1 [] w0.used w0.scope 0 (built-nothing w0) p (in_list l) first in
          let b2 = built-term w0 w1 w2 p.code p.used w0.scope (0 + in_list l) b1 q (in_list g) second in
          let b3 = built-plain w0 w2 w (p.code ++ q.code) q.used w0.scope (0 + in_list l + in_list g) b2 a third in
          let q0 = targets C g (w0.next + in_list l) w0.scope p.used in
          let there : q ≡ q0 = ap (λ (z : Made). targets C g z.next z.scope z.used) first in
          let a0 = assigned_all types g q0.result p.result q0.used in
          let here : a ≡ a0 =
          ap (λ (x : List Target). assigned_all types g x vs w2.used) (same1 ∙ ap (λ (z : Piece (List Target)). z.result) there)
          ∙ ap (λ (x : List pieces.Result). assigned_all types g q0.result x w2.used) same
          ∙ ap (λ (u : Used). assigned_all types g q0.result p.result u) (b2.used ∙ ap (λ (z : Piece (List Target)). z.used) there) in
          let code : p.code ++ q.code ++ a.code ≡ p.code ++ (q0.code ++ a0.code) =
          append_assoc p.code q.code a.code ∙ ap (λ (z : Piece (List Target)). p.code ++ (z.code ++ a.code)) there
          ∙ ap (λ (z : Piece (Unit {0})). p.code ++ (q0.code ++ z.code)) here in
          let sum : 0 + in_list l + in_list g ≡ in_statement (STree (statements.Assign goals es)) =
          omega (arith, declared_append (list_events l) (list_events g)) in
          built-all w0 w (one C (STree (statements.Assign goals es)) w0.next w0.scope w0.used) _ _ _ _ _ b3 code
          (ap (λ (z : Piece (Unit {0})). z.used) here) refl sum
