-- Where a temporary isn't live in the code of terms, and in that of a function.
use Rattle.std.proofs.Common.{◌≡◌, ℕ, zero, suc, ◌+◌, Bool, true, false, List, [], ◌∷◌, ◌++◌, length, map, Some, refl, ap, ◌∙◌, subst}
use Rattle.std.proofs.Common.{arith}
use Rattle.std.specs.Prelude.{◌-◌, nat_eq, if◌then◌else◌}
use Rattle.std.specs.List.{list_any}
use Rattle.std.proofs.lemmas.Bool.{or_parts}
use Rattle.tl_base.specs.declared.ids.FnId.{FnId}
use Rattle.terra_words.specs.declared.words.BinaryOperator.TheVariants as operators
use Rattle.terra_words.specs.declared.words.FaultKind.TheVariants.{NoReturn}
use Rattle.terra_types.specs.Opening.{unit}
use Rattle.terra_term.specs.TypedTerms.{Expression, typed, Constant', Variable, Global, Operate, Both, Either, Dereference, Select, Follow}
use Rattle.terra_term.specs.TypedTerms.{Element, Index, Address, Decay, Let, Expressions, no_more, then_one, Statement, statement, Var}
use Rattle.terra_term.specs.TypedTerms.{Assign, If, IfElse, While, Repeat, For, Do, Break, Finish, Return, Perform, Statements, done}
use Rattle.terra_term.specs.TypedTerms.{and_then}
use Rattle.terra_term.specs.Stores.{Contents, Callable}
use Rattle.terra_meaning.specs.Values.{bytes_at}
use Rattle.terra_meaning.specs.Meaning.{Wanted, the_value, the_address, constant, types_of, in_expression, in_list, in_statement, in_block}
use Rattle.tac_form.specs.declared.tac.Operand.{Operand}
use Rattle.tac_form.specs.declared.tac.Operand.TheVariants.{Temp, Constant}
use Rattle.tac_form.specs.declared.tac.Destination.{Destination}
use Rattle.tac_form.specs.declared.tac.Destination.TheVariants as destinations
use Rattle.tac_form.specs.declared.tac.Instruction.TheVariants.{Compute, Copy}
use Rattle.tac_form.specs.declared.tac.Exit.TheVariants as exits
use Rattle.tac_form.specs.declared.tac.Block.{Block}
use Rattle.tac_form.specs.Fits.{goes_to}
use Rattle.tac_lower.specs.Items.{Item, does, ends, skips, tests, repeats, repeats_unless, gives, fails, count_ends, onward, backward}
use Rattle.tac_lower.specs.Items.{empty_draft}
use Rattle.tac_lower.specs.Pieces.{Used, with_temp, Piece, known, doing, following, taken, Result, a_word, no_word, word_of, part_of}
use Rattle.tac_lower.specs.Pieces.{word_at, rest, whole_word, number_of, given, compute, located, Holders, Around, declare, declare_all}
use Rattle.tac_lower.specs.Pieces.{nothing_used}
use Rattle.tac_lower.specs.Lowering.{reached, entry, element, operation, opposite, passed_over, aimed, Target, assigned_all, counting}
use Rattle.tac_lower.specs.Lowering.{step_in, runs, while_loop, repeat_loop, choice, piece, pieces, targets, one, all, around, received}
use Rattle.tac_lower.specs.Lowering.{ending, code_of}
use Rattle.tac_lower.proofs.Places.{Point, start_of, after, after-append, after-block, HasAt, has-front, has-back, has-loop, count-append}
use Rattle.tac_lower.proofs.Loops.{after-loop, while_code, while-count, while-after}
use Rattle.tac_lower.proofs.Whole.{has-whole}
use Rattle.tac_lower.proofs.Functions.{ends-whole}
use Rattle.tac_lower.proofs.Idle as idles
use Rattle.tac_lower.proofs.Idle.{before}

module _ (blocks : List Block) (t : ℕ) where
  abbrev Idle : ℕ → Point → Type 0
  Idle k at = idles.Idle blocks t k at

  abbrev Free : Operand → Type 0
  Free o = idles.Free blocks t o

  abbrev FreeResult : Result → Type 0
  FreeResult r = idles.FreeResult blocks t r

  abbrev FreeAll : List Result → Type 0
  FreeAll rs = idles.FreeAll blocks t rs

  abbrev FreeTargets : List Target → Type 0
  FreeTargets rs = idles.FreeTargets blocks t rs

  abbrev FreeScope : Holders → Type 0
  FreeScope s = idles.FreeScope blocks t s

  abbrev Clean : {A : Type 0} (P : Type 0) → Piece A → (A → Type 0) → Type 0
  Clean P p R = idles.Clean blocks t P p R

  -- idle at places that are the same
  moved : (k : ℕ) (p q : Point) → p ≡ q → Idle k p → Idle k q
  moved k p q e h = subst (λ m. Idle k m) e h

  shifted : (k b c : ℕ) → b ≡ c → Idle k (start_of b) → Idle k (start_of c)
  shifted k b c e h = subst (λ m. Idle k (start_of m)) e h

  -- jumps

  passed-after : (a : Operand) (code : List Item) (at : Point) →
      after (passed_over a code) at ≡ start_of (suc at.block + suc (count_ends code))
  passed-after a code at =
      let q = after code (start_of (suc at.block)) in
      let n : suc q.block ≡ suc at.block + suc (count_ends code) = omega (arith, after-block code (start_of (suc at.block))) in
      after-append code (ends (skips 0) ∷ []) (start_of (suc at.block)) ∙ ap start_of n

  passed-idle : (a : Operand) (code : List Item) (out k : ℕ) (at : Point) → HasAt blocks out at (passed_over a code) → Free a →
      Idle k (after (passed_over a code) at) →
      (HasAt blocks out (start_of (suc at.block)) code → Idle k (after code (start_of (suc at.block))) → Idle k (start_of (suc at.block))) →
      Idle k at
  passed-idle a code out k at has f behind inside =
      let b = suc at.block in
      let n = suc (count_ends code) in
      let q = after code (start_of b) in
      let back = has-back blocks out (start_of b) code (ends (skips 0) ∷ []) has.1 in
      let to : b + n ≡ suc q.block + 0 = omega (arith, after-block code (start_of b)) in
      let end = moved k (after (passed_over a code) at) (start_of (b + n)) (passed-after a code at) behind in
      let last = idles.exit-idle blocks t q (exits.Jump (onward (suc q.block + 0))) k back.0 refl
      (idles.idle-before blocks t k (start_of (suc q.block + 0)) (shifted k (b + n) (suc q.block + 0) to end), tt) in
      let first = inside (has-front blocks out (start_of b) code (ends (skips 0) ∷ []) has.1) last in
      idles.exit-idle blocks t at (exits.Branch a (onward b) (onward (b + n))) k has.0 (idles.lacks-word blocks t a f)
      (idles.idle-before blocks t k (start_of b) first, (idles.idle-before blocks t k (start_of (b + n)) end, tt))

  passed-clean : {A B : Type 0} {P : Type 0} {S : A → Type 0} (R : B → Type 0) (o : Operand) (q : Piece A) (r : B) → (P → Free o) →
      (P → R r) → Clean P q S → Clean P (record { result = r; code = passed_over o q.code; used = q.used }) R
  passed-clean R o q r f g y = record {
    idle = λ out k at has h c u.
        passed-idle o q.code out k at has (f h) (c (g h))
        (λ inside behind. y.idle out k (start_of (suc at.block)) inside h (λ s. behind) u);
  }

  choice-after : (o : Operand) (a b : List Item) (at : Point) →
      after (choice o a b) at ≡ start_of (suc (suc at.block + count_ends a) + suc (count_ends b))
  choice-after o a b at =
      let q = after a (start_of (suc at.block)) in
      let r = after b (start_of (suc q.block)) in
      let n : suc r.block ≡ suc (suc at.block + count_ends a) + suc (count_ends b) =
      omega (arith, after-block a (start_of (suc at.block)), after-block b (start_of (suc q.block))) in
      after-append a (ends (skips (suc (count_ends b))) ∷ (b ++ ends (skips 0) ∷ [])) (start_of (suc at.block))
      ∙ after-append b (ends (skips 0) ∷ []) (start_of (suc q.block)) ∙ ap start_of n

  choice-clean : {A B C : Type 0} {P : Type 0} {S : A → Type 0} {T : B → Type 0} (R : C → Type 0) (o : Operand) (p : Piece A) (q : Piece B)
      (r : C) → (P → Free o) → (P → R r) → Clean P p S → Clean P q T →
      Clean P (record { result = r; code = choice o p.code q.code; used = q.used }) R
  choice-clean R o p q r f g x y = record {
    idle = λ out k at has h c u.
        let b = suc at.block in
        let na = suc (count_ends p.code) in
        let nb = suc (count_ends q.code) in
        let l = after p.code (start_of b) in
        let m = after q.code (start_of (suc l.block)) in
        let tail = q.code ++ ends (skips 0) ∷ [] in
        let middle = has-back blocks out (start_of b) p.code (ends (skips nb) ∷ tail) has.1 in
        let back = has-back blocks out (start_of (suc l.block)) q.code (ends (skips 0) ∷ []) middle.1 in
        let at_l = after-block p.code (start_of b) in
        let at_m = after-block q.code (start_of (suc l.block)) in
        let behind = moved k (after (choice o p.code q.code) at) (start_of (suc (suc at.block + count_ends p.code) + nb))
        (choice-after o p.code q.code at) (c (g h)) in
        let to_m : suc (suc at.block + count_ends p.code) + nb ≡ suc m.block + 0 = omega (arith, at_l, at_m) in
        let to_l : suc (suc at.block + count_ends p.code) + nb ≡ suc l.block + nb = omega (arith, at_l) in
        let to_b : suc l.block ≡ b + na = omega (arith, at_l) in
        let last = idles.exit-idle blocks t m (exits.Jump (onward (suc m.block + 0))) k back.0 refl (
          idles.idle-before blocks t k (start_of (suc m.block + 0))
              (shifted k (suc (suc at.block + count_ends p.code) + nb) (suc m.block + 0) to_m behind),
          tt,
        ) in
        let second = y.idle out k (start_of (suc l.block))
        (has-front blocks out (start_of (suc l.block)) q.code (ends (skips 0) ∷ []) middle.1) h (λ s. last) u in
        let skip = idles.exit-idle blocks t l (exits.Jump (onward (suc l.block + nb))) k middle.0 refl (
          idles.idle-before blocks t k (start_of (suc l.block + nb))
              (shifted k (suc (suc at.block + count_ends p.code) + nb) (suc l.block + nb) to_l behind),
          tt,
        ) in
        let first = x.idle out k (start_of b) (has-front blocks out (start_of b) p.code (ends (skips nb) ∷ tail) has.1) h (λ s. skip) u in
        idles.exit-idle blocks t at (exits.Branch o (onward b) (onward (b + na))) k has.0 (idles.lacks-word blocks t o (f h)) (
          idles.idle-before blocks t k (start_of b) first,
          (idles.idle-before blocks t k (start_of (b + na)) (shifted k (suc l.block) (b + na) to_b second), tt),
        );
  }

  while-rounds : {A : Type 0} {P : Type 0} {S : A → Type 0} (p : Piece Result) (q : Piece A) → Clean P p FreeResult →
      Clean (P × FreeResult p.result) q S → P → (b0 e : ℕ) → e ≡ b0 + count_ends (while_code p.code (word_of p.result) q.code) →
      HasAt blocks e (start_of b0) (while_code p.code (word_of p.result) q.code) → (k : ℕ) → Idle k (start_of e) → Idle k (start_of b0)
  while-rounds p q x y h b0 e is has zero behind = λ j lt. absurd (omega (arith, lt))
  while-rounds p q x y h b0 e is has (suc k) behind =
      let a = word_of p.result in
      let n = count_ends p.code + suc (count_ends q.code) in
      let back = ends (repeats n) ∷ [] in
      let tail = ends (tests a (suc (count_ends q.code))) ∷ (q.code ++ back) in
      let l = after p.code (start_of b0) in
      let m = after q.code (start_of (suc l.block)) in
      let at_l = after-block p.code (start_of b0) in
      let at_m = after-block q.code (start_of (suc l.block)) in
      let count = while-count p.code q.code a in
      let earlier = idles.idle-before blocks t (suc k) (start_of e) behind in
      let again = while-rounds p q x y h b0 e is has k earlier in
      let has_tail = has-back blocks e (start_of b0) p.code tail has in
      let has_back = has-back blocks e (start_of (suc l.block)) q.code back has_tail.1 in
      let to_b : b0 ≡ m.block - n = omega (arith, at_l, at_m) in
      let to_e : e ≡ suc l.block + suc (count_ends q.code) = omega (arith, at_l, is, count) in
      let round = idles.exit-idle blocks t m (exits.Jump (backward (m.block - n))) (suc k) has_back.0 refl
      (shifted k b0 (m.block - n) to_b again, tt) in
      x.idle e (suc k) (start_of b0) (has-front blocks e (start_of b0) p.code tail has) h
      (λ r. let body = y.idle e (suc k) (start_of (suc l.block))
      (has-front blocks e (start_of (suc l.block)) q.code back has_tail.1) (h, r) (λ s. round) earlier in
      idles.exit-idle blocks t l (exits.Branch a (onward (suc l.block)) (onward (suc l.block + suc (count_ends q.code)))) (suc k) has_tail.0
      (idles.lacks-word blocks t a r) (
        idles.idle-before blocks t (suc k) (start_of (suc l.block)) body,
        (shifted k e (suc l.block + suc (count_ends q.code)) to_e earlier, tt),
      )) earlier

  while-clean : {A B : Type 0} {P : Type 0} {S : A → Type 0} (R : B → Type 0) (p : Piece Result) (q : Piece A) (r : B) → (P → R r) →
      Clean P p FreeResult → Clean (P × FreeResult p.result) q S →
      Clean P (record { result = r; code = while_loop p.code (word_of p.result) q.code; used = q.used }) R
  while-clean R p q r g x y = record {
    idle = λ out k at has h c u.
        let a = word_of p.result in
        let b0 = suc at.block in
        let inner = while_code p.code a q.code in
        let e = b0 + count_ends inner in
        let inside = has-loop blocks out e inner (start_of b0) has.1 refl in
        let ending_ = after-loop inner (start_of b0) ∙ while-after p.code q.code a b0 in
        let behind = moved k (after (while_loop p.code a q.code) at) (start_of e) ending_ (c (g h)) in
        let begins = while-rounds p q x y h b0 e refl inside k behind in
        let to : b0 ≡ suc at.block + 0 = omega arith in
        idles.exit-idle blocks t at (exits.Jump (onward (suc at.block + 0))) k has.0 refl
        (idles.idle-before blocks t k (start_of (suc at.block + 0)) (shifted k b0 (suc at.block + 0) to begins), tt);
  }

  repeat-rounds : {P : Type 0} (p : Piece Result) → Clean P p FreeResult → P → (b0 e : ℕ) → e ≡ b0 + suc (count_ends p.code) →
      HasAt blocks e (start_of b0) (p.code ++ ends (repeats_unless (word_of p.result) (count_ends p.code)) ∷ []) → (k : ℕ) →
      Idle k (start_of e) → Idle k (start_of b0)
  repeat-rounds p x h b0 e is has zero behind = λ j lt. absurd (omega (arith, lt))
  repeat-rounds p x h b0 e is has (suc k) behind =
      let a = word_of p.result in
      let n = count_ends p.code in
      let back = ends (repeats_unless a n) ∷ [] in
      let l = after p.code (start_of b0) in
      let at_l = after-block p.code (start_of b0) in
      let earlier = idles.idle-before blocks t (suc k) (start_of e) behind in
      let again = repeat-rounds p x h b0 e is has k earlier in
      let has_back = has-back blocks e (start_of b0) p.code back has in
      let to_b : b0 ≡ l.block - n = omega (arith, at_l) in
      let to_e : e ≡ suc l.block = omega (arith, at_l, is) in
      x.idle e (suc k) (start_of b0) (has-front blocks e (start_of b0) p.code back has) h
      (λ r. idles.exit-idle blocks t l (exits.Branch a (onward (suc l.block)) (backward (l.block - n))) (suc k) has_back.0
      (idles.lacks-word blocks t a r) (shifted k e (suc l.block) to_e earlier, (shifted k b0 (l.block - n) to_b again, tt))) earlier

  repeat-clean : {B : Type 0} {P : Type 0} (R : B → Type 0) (p : Piece Result) (r : B) → (P → R r) → Clean P p FreeResult →
      Clean P (record { result = r; code = repeat_loop p.code (word_of p.result); used = p.used }) R
  repeat-clean R p r g x = record {
    idle = λ out k at has h c u.
        let a = word_of p.result in
        let b0 = suc at.block in
        let back = ends (repeats_unless a (count_ends p.code)) ∷ [] in
        let inner = p.code ++ back in
        let e = b0 + count_ends inner in
        let count = count-append p.code back in
        let l = after p.code (start_of b0) in
        let inside = has-loop blocks out e inner (start_of b0) has.1 refl in
        let to_e : suc l.block ≡ e = omega (arith, after-block p.code (start_of b0), count) in
        let ending_ = after-loop inner (start_of b0) ∙ after-append p.code back (start_of b0) ∙ ap start_of to_e in
        let behind = moved k (after (repeat_loop p.code a) at) (start_of e) ending_ (c (g h)) in
        let begins = repeat-rounds p x h b0 e (omega (arith, count)) inside k behind in
        let to : b0 ≡ suc at.block + 0 = omega arith in
        idles.exit-idle blocks t at (exits.Jump (onward (suc at.block + 0))) k has.0 refl
        (idles.idle-before blocks t k (start_of (suc at.block + 0)) (shifted k b0 (suc at.block + 0) to begins), tt);
  }

  into-clean : {P : Type 0} (d : ℕ) (p : Piece Result) → Clean P p FreeResult →
      Clean P (following p (doing (tt {0}) (Copy d (word_of p.result)) p.used)) (λ b. nat_eq d t ≡ false)
  into-clean d p x =
      idles.then-clean blocks t {R = FreeResult} p (doing (tt {0}) (Copy d (word_of p.result)) p.used) x
      (idles.doing-clean blocks t (λ b. nat_eq d t ≡ false) (tt {0}) (Copy d (word_of p.result)) p.used
      (λ h. idles.lacks-word blocks t (word_of p.result) h.1) (λ h w. w))

  -- the first operand of `and` or `or` in a temporary, its test, and the second operand in the same one
  short-clean : {P : Type 0} (d : ℕ) (p : Piece Result) (test : Piece Operand) (q : Piece Result) → Clean P p FreeResult →
      Clean (P × (nat_eq d t ≡ false)) test Free → Clean P q FreeResult →
      Clean P (record {
        result = a_word (Temp d);
        code = (p.code ++ does (Copy d (word_of p.result)) ∷ []) ++ (test.code ++ passed_over test.result (q.code ++
            does (Copy d (word_of q.result)) ∷ []));
        used = q.used;
      }) FreeResult
  short-clean d p test q x y z =
      let first = following p (doing (tt {0}) (Copy d (word_of p.result)) p.used) in
      let second = following q (doing (tt {0}) (Copy d (word_of q.result)) q.used) in
      let over : Piece Result = record { result = a_word (Temp d); code = passed_over test.result second.code; used = q.used } in
      idles.then-clean blocks t {R = λ b. nat_eq d t ≡ false} first (following test over) (into-clean d p x)
      (idles.then-clean blocks t {R = Free} test over y
      (passed-clean {S = λ b. nat_eq d t ≡ false} FreeResult test.result second (a_word (Temp d)) (λ h. h.1) (λ h. h.0.1)
      (idles.weak-clean blocks t second (into-clean d q z) (λ h. h.0.0))))

  step-free : (rs : List Result) → FreeAll rs → Free (step_in (rest (rest rs)))
  step-free [] h = tt
  step-free (a ∷ []) h = tt
  step-free (a ∷ b ∷ []) h = tt
  step-free (a ∷ b ∷ s ∷ rs) h = h.1.1.0

  module _ (c : Around) where
    mutual
      expression-clean : (want : Wanted) (e : Expression) (from : ℕ) (scope : Holders) (u : Used) →
          Clean (FreeScope scope) (piece c want e from scope u) FreeResult
      expression-clean want (typed at of (Constant' k)) from scope u =
          idles.known-clean blocks t FreeResult (a_word (Constant (constant c.entries k))) u (λ h. tt)
      expression-clean want (typed at of (Variable x)) from scope u =
          idles.variable-clean blocks t c.types want at of x scope u (λ h. h)
      expression-clean want (typed at of (Global g)) from scope u =
          idles.reached-clean blocks t c.types want at of (a_word (Constant g)) u (λ h. tt)
      expression-clean want (typed at of (Operate op es)) from scope u =
          let p = pieces c es from scope u in
          let q = operation c at of op (types_of es) p.result p.used in
          idles.then-clean blocks t {R = FreeAll} p q (expressions-clean es from scope u)
          (idles.weak-clean blocks t q (idles.operation-clean blocks t c at of (types_of es) p.result p.used op) (λ h. h.1))
      expression-clean want (typed at of (Both x y)) from scope u =
          let p = piece c the_value x from scope (with_temp u) in
          let q = piece c the_value y (from + in_expression x) scope p.used in
          short-clean u.temps p (known (Temp u.temps) p.used) q (expression-clean the_value x from scope (with_temp u))
          (idles.known-clean blocks t Free (Temp u.temps) p.used (λ h. h.1))
          (expression-clean the_value y (from + in_expression x) scope p.used)
      expression-clean want (typed at of (Either x y)) from scope u =
          let p = piece c the_value x from scope (with_temp u) in
          let q = piece c the_value y (from + in_expression x) scope (with_temp p.used) in
          short-clean u.temps p (opposite (Temp u.temps) p.used) q (expression-clean the_value x from scope (with_temp u))
          (idles.taken-clean blocks t {R = FreeResult} Free word_of (compute operators.Xor whole_word (Temp u.temps) (Constant 1) p.used)
          (idles.compute-clean blocks t operators.Xor whole_word (Temp u.temps) (Constant 1) p.used (λ h. h.1) (λ h. tt)) (λ h r. r))
          (expression-clean the_value y (from + in_expression x) scope (with_temp p.used))
      expression-clean want (typed at of (Dereference e)) from scope u =
          let p = piece c the_value e from scope u in
          let q = reached c.types want at of (a_word (word_of p.result)) p.used in
          idles.then-clean blocks t {R = FreeResult} p q (expression-clean the_value e from scope u)
          (idles.reached-clean blocks t c.types want at of (a_word (word_of p.result)) p.used (λ h. h.1))
      expression-clean want (typed at of (Select offset e)) from scope u =
          let p = piece c the_address e from scope u in
          let q = entry offset p.result p.used in
          let r = reached c.types want at of q.result q.used in
          idles.then-clean blocks t {R = FreeResult} p (following q r) (expression-clean the_address e from scope u)
          (idles.then-clean blocks t {R = FreeResult} q r (idles.entry-clean blocks t offset p.result p.used (λ h. h.1))
          (idles.reached-clean blocks t c.types want at of q.result q.used (λ h. h.1)))
      expression-clean want (typed at of (Follow offset e)) from scope u =
          let p = piece c the_value e from scope u in
          let q = entry offset (a_word (word_of p.result)) p.used in
          let r = reached c.types want at of q.result q.used in
          idles.then-clean blocks t {R = FreeResult} p (following q r) (expression-clean the_value e from scope u)
          (idles.then-clean blocks t {R = FreeResult} q r (idles.entry-clean blocks t offset (a_word (word_of p.result)) p.used (λ h. h.1))
          (idles.reached-clean blocks t c.types want at of q.result q.used (λ h. h.1)))
      expression-clean want (typed at of (Element e i)) from scope u =
          let p = piece c the_address e from scope u in
          let l = located p.result p.used in
          let j = piece c the_value i (from + in_expression e) scope l.used in
          let m = element (bytes_at c.types of) (word_of l.result) (word_of j.result) j.used in
          let r = reached c.types want at of m.result m.used in
          idles.then-clean blocks t {R = FreeResult} p (following l (following j (following m r)))
          (expression-clean the_address e from scope u)
          (idles.then-clean blocks t {R = FreeResult} l (following j (following m r))
          (idles.located-clean blocks t p.result p.used (λ h. h.1))
          (idles.then-clean blocks t {R = FreeResult} j (following m r)
          (idles.weak-clean blocks t j (expression-clean the_value i (from + in_expression e) scope l.used) (λ h. h.0.0))
          (idles.then-clean blocks t {R = FreeResult} m r
          (idles.element-clean blocks t (bytes_at c.types of) (word_of l.result) (word_of j.result) j.used (λ h. h.0.1) (λ h. h.1))
          (idles.reached-clean blocks t c.types want at of m.result m.used (λ h. h.1)))))
      expression-clean want (typed at of (Index e i)) from scope u =
          let p = piece c the_value e from scope u in
          let j = piece c the_value i (from + in_expression e) scope p.used in
          let m = element (bytes_at c.types of) (word_of p.result) (word_of j.result) j.used in
          let r = reached c.types want at of m.result m.used in
          idles.then-clean blocks t {R = FreeResult} p (following j (following m r)) (expression-clean the_value e from scope u)
          (idles.then-clean blocks t {R = FreeResult} j (following m r)
          (idles.weak-clean blocks t j (expression-clean the_value i (from + in_expression e) scope p.used) (λ h. h.0))
          (idles.then-clean blocks t {R = FreeResult} m r
          (idles.element-clean blocks t (bytes_at c.types of) (word_of p.result) (word_of j.result) j.used (λ h. h.0.1) (λ h. h.1))
          (idles.reached-clean blocks t c.types want at of m.result m.used (λ h. h.1))))
      expression-clean want (typed at of (Address e)) from scope u =
          let p = piece c the_address e from scope u in
          idles.then-clean blocks t {R = FreeResult} p (located p.result p.used) (expression-clean the_address e from scope u)
          (idles.located-clean blocks t p.result p.used (λ h. h.1))
      expression-clean want (typed at of (Decay e)) from scope u =
          let p = piece c the_address e from scope u in
          idles.then-clean blocks t {R = FreeResult} p (located p.result p.used) (expression-clean the_address e from scope u)
          (idles.located-clean blocks t p.result p.used (λ h. h.1))
      expression-clean want (typed at of (Let block e)) from scope u =
          let p = all c block from scope u in
          let q = piece c the_value e (from + in_block block) p.result p.used in
          idles.then-clean blocks t {R = FreeScope} p q (block-clean block from scope u)
          (idles.weak-clean blocks t q (expression-clean the_value e (from + in_block block) p.result p.used) (λ h. h.1))

      expressions-clean : (es : Expressions) (from : ℕ) (scope : Holders) (u : Used) →
          Clean (FreeScope scope) (pieces c es from scope u) FreeAll
      expressions-clean no_more from scope u = idles.known-clean blocks t FreeAll [] u (λ h. tt)
      expressions-clean (then_one e es) from scope u =
          let p = piece c the_value e from scope u in
          let q = pieces c es (from + in_expression e) scope p.used in
          idles.then-clean blocks t {R = FreeResult} p (taken (λ vs. p.result ∷ vs) q) (expression-clean the_value e from scope u)
          (idles.taken-clean blocks t {R = FreeAll} FreeAll (λ vs. p.result ∷ vs) q
          (idles.weak-clean blocks t q (expressions-clean es (from + in_expression e) scope p.used) (λ h. h.0)) (λ h r. (h.1, r)))

      targets-clean : (es : Expressions) (from : ℕ) (scope : Holders) (u : Used) →
          Clean (FreeScope scope) (targets c es from scope u) FreeTargets
      targets-clean no_more from scope u = idles.known-clean blocks t FreeTargets [] u (λ h. tt)
      targets-clean (then_one e es) from scope u =
          let p = aimed scope e (piece c the_address e from scope u) u in
          let q = targets c es (from + in_expression e) scope p.used in
          idles.then-clean blocks t {R = idles.FreeTarget blocks t} p (taken (λ ps. p.result ∷ ps) q)
          (idles.aimed-clean blocks t scope e (piece c the_address e from scope u) u (expression-clean the_address e from scope u))
          (idles.taken-clean blocks t {R = FreeTargets} FreeTargets (λ ps. p.result ∷ ps) q
          (idles.weak-clean blocks t q (targets-clean es (from + in_expression e) scope p.used) (λ h. h.0)) (λ h r. (h.1, r)))

      statement-clean : (st : Statement) (from : ℕ) (scope : Holders) (u : Used) →
          Clean (FreeScope scope) (one c st from scope u) FreeScope
      statement-clean (statement at (Var xs values)) from scope u =
          let p = pieces c values from scope u in
          let q = declare_all c at xs p.result (from + in_list values) scope p.used in
          idles.then-clean blocks t {R = FreeAll} p q (expressions-clean values from scope u)
          (idles.weak-clean blocks t q (idles.declares-clean blocks t c at xs p.result (from + in_list values) scope p.used)
          (λ h. (h.1, h.0)))
      statement-clean (statement at (Assign places values)) from scope u =
          let p = pieces c values from scope u in
          let q = targets c places (from + in_list values) scope p.used in
          let r = assigned_all c.types places q.result p.result q.used in
          idles.then-clean blocks t {R = FreeAll} p (following q (taken (λ b. scope) r)) (expressions-clean values from scope u)
          (idles.then-clean blocks t {R = FreeTargets} q (taken (λ b. scope) r)
          (idles.weak-clean blocks t q (targets-clean places (from + in_list values) scope p.used) (λ h. h.0))
          (idles.taken-clean blocks t {R = λ b. Unit {0}} FreeScope (λ b. scope) r
          (idles.weak-clean blocks t r (idles.assigned-clean blocks t c.types places q.result p.result q.used) (λ h. (h.1, h.0.1)))
          (λ h b. h.0.0)))
      statement-clean (statement at (If test block)) from scope u =
          let p = piece c the_value test from scope u in
          let q = all c block (from + in_expression test) scope p.used in
          let over : Piece Holders = record { result = scope; code = passed_over (word_of p.result) q.code; used = q.used } in
          idles.then-clean blocks t {R = FreeResult} p over (expression-clean the_value test from scope u)
          (passed-clean {S = FreeScope} FreeScope (word_of p.result) q scope (λ h. h.1) (λ h. h.0)
          (idles.weak-clean blocks t q (block-clean block (from + in_expression test) scope p.used) (λ h. h.0)))
      statement-clean (statement at (IfElse test block other)) from scope u =
          let p = piece c the_value test from scope u in
          let q = all c block (from + in_expression test) scope p.used in
          let r = all c other (from + in_expression test + in_block block) scope q.used in
          let over : Piece Holders = record { result = scope; code = choice (word_of p.result) q.code r.code; used = r.used } in
          idles.then-clean blocks t {R = FreeResult} p over (expression-clean the_value test from scope u)
          (choice-clean {S = FreeScope} {T = FreeScope} FreeScope (word_of p.result) q r scope (λ h. h.1) (λ h. h.0)
          (idles.weak-clean blocks t q (block-clean block (from + in_expression test) scope p.used) (λ h. h.0))
          (idles.weak-clean blocks t r (block-clean other (from + in_expression test + in_block block) scope q.used) (λ h. h.0)))
      statement-clean (statement at (While test body)) from scope u =
          let p = piece c the_value test from scope u in
          let q = all c body (from + in_expression test) scope p.used in
          while-clean {S = FreeScope} FreeScope p q scope (λ h. h) (expression-clean the_value test from scope u)
          (idles.weak-clean blocks t q (block-clean body (from + in_expression test) scope p.used) (λ h. h.0))
      statement-clean (statement at (Repeat body test)) from scope u =
          let p = all c body from scope u in
          let q = piece c the_value test (from + in_block body) p.result p.used in
          repeat-clean FreeScope (following p q) scope (λ h. h)
          (idles.then-clean blocks t {R = FreeScope} p q (block-clean body from scope u)
          (idles.weak-clean blocks t q (expression-clean the_value test (from + in_block body) p.result p.used) (λ h. h.1)))
      statement-clean (statement at (For x bounds body)) from scope u =
          let k0 = from + in_list bounds in
          let p = pieces c bounds from scope u in
          let v = p.used in
          let k = counting (number_of c.types x.of) p.result v.temps in
          let r = runs k (with_temp v) in
          let o = declare c at x (Some (a_word (Temp k.value))) k0 scope r.used in
          let q = all c body (suc k0) o.result o.used in
          let next = doing (tt {0}) (Compute k.value operators.Add k.number (Temp k.value) k.step) q.used in
          let inner = following (following o q) next in
          let first = doing (tt {0}) (Copy k.value (word_at p.result 0)) (with_temp v) in
          let loop : Piece Holders = record { result = scope; code = while_loop r.code (word_of r.result) inner.code; used = q.used } in
          idles.then-clean blocks t {R = FreeAll} p (following first loop) (expressions-clean bounds from scope u)
          (idles.then-clean blocks t {R = λ b. nat_eq k.value t ≡ false} first loop
          (idles.doing-clean blocks t (λ b. nat_eq k.value t ≡ false) (tt {0}) (Copy k.value (word_at p.result 0)) (with_temp v)
          (λ h. idles.lacks-word blocks t (word_at p.result 0) (idles.result-free blocks t p.result 0 h.1)) (λ h w. w))
          (while-clean {S = λ b. Unit {0}} FreeScope r inner scope (λ h. h.0.0)
          (idles.runs-clean blocks t k (λ h. h.1) (λ h. idles.result-free blocks t p.result 1 h.0.1) (λ h. step-free p.result h.0.1)
          (with_temp v))
          (idles.then-clean blocks t {R = FreeScope} (following o q) next
          (idles.then-clean blocks t {R = FreeScope} o q
          (idles.one-declare-clean blocks t c at x (a_word (Temp k.value)) k0 scope r.used (λ h. h.0.1) (λ h. h.0.0.0))
          (idles.weak-clean blocks t q (block-clean body (suc k0) o.result o.used) (λ h. h.1)))
          (idles.doing-clean blocks t (λ b. Unit {0}) (tt {0}) (Compute k.value operators.Add k.number (Temp k.value) k.step) q.used
          (λ h. idles.lacks-two blocks t (Temp k.value) k.step h.0.0.1 (step-free p.result h.0.0.0.1)) (λ h w. tt)))))
      statement-clean (statement at (Do body)) from scope u =
          let p = all c body from scope u in
          idles.taken-clean blocks t {R = FreeScope} FreeScope (λ inner. scope) p (block-clean body from scope u) (λ h r. h)
      statement-clean (statement at Break) from scope u = record {
        idle = λ out k at_ has h g o. idles.exit-idle blocks t at_ (exits.Jump (onward out)) k has.0 refl (o, tt);
      }
      statement-clean (statement at Finish) from scope u = record {
        idle = λ out k at_ has h g o. idles.exit-idle blocks t at_ (exits.Return (part_of no_word)) k has.0 refl tt;
      }
      statement-clean (statement at (Return e)) from scope u =
          let p = piece c the_value e from scope u in
          let last : Piece Holders = record { result = scope; code = ends (gives (part_of p.result)) ∷ []; used = p.used } in
          idles.then-clean blocks t {R = FreeResult} p last (expression-clean the_value e from scope u)
          (record {
            idle = λ out k at_ has h g o.
                idles.exit-idle blocks t at_ (exits.Return (part_of p.result)) k has.0 (idles.lacks-part blocks t p.result h.1) tt;
          })
      statement-clean (statement at (Perform e)) from scope u =
          let p = piece c the_value e from scope u in
          idles.taken-clean blocks t {R = FreeResult} FreeScope (λ v. scope) p (expression-clean the_value e from scope u) (λ h r. h)

      pub block-clean : (ss : Statements) (from : ℕ) (scope : Holders) (u : Used) → Clean (FreeScope scope)
          (all c ss from scope u) FreeScope
      block-clean done from scope u = idles.known-clean blocks t FreeScope scope u (λ h. h)
      block-clean (and_then st ss) from scope u =
          let p = one c st from scope u in
          let q = all c ss (from + in_statement st) p.result p.used in
          idles.then-clean blocks t {R = FreeScope} p q (statement-clean st from scope u)
          (idles.weak-clean blocks t q (block-clean ss (from + in_statement st) p.result p.used) (λ h. h.1))

  given-free : (tos : List Destination) → list_any (goes_to t) tos ≡ false → FreeAll (map given tos)
  given-free [] h = tt
  given-free (destinations.Temp d ∷ tos) h =
      let p = or_parts (nat_eq d t) (list_any (goes_to t) tos) h in (p.0, given-free tos p.1)
  given-free (destinations.Area n ∷ tos) h = (tt, given-free tos h)
  given-free (destinations.Nothing ∷ tos) h = (tt, given-free tos h)

-- a temporary that no parameter goes to isn't live where the function's code is entered
pub entry-idle : (store : Contents) (entries : List FnId) (k : Callable) (t : ℕ) →
    list_any (goes_to t) (code_of store entries k).parameters ≡ false → (n : ℕ) →
    idles.Idle (code_of store entries k).blocks t n (start_of 0)
entry-idle store entries k t away zero = λ j lt. absurd (omega (arith, lt))
entry-idle store entries k t away (suc n) =
    let blocks = (code_of store entries k).blocks in
    let c = around store entries k in
    let tos = received store.types k.body.parameters nothing_used in
    let D = declare_all c k.at k.body.parameters (map given tos.result) 0 [] tos.used in
    let B = all c k.body.body (length k.body.parameters) D.result D.used in
    let has = has-whole ((D.code ++ B.code) ++ ending k ∷ []) (ends-whole (D.code ++ B.code) empty_draft k) in
    let W = idles.then-clean blocks t {R = idles.FreeScope blocks t} D B
    (idles.declares-clean blocks t c k.at k.body.parameters (map given tos.result) 0 [] tos.used)
    (idles.weak-clean blocks t B (block-clean blocks t c k.body.body (length k.body.parameters) D.result D.used) (λ h. h.1)) in
    W.idle 0 (suc n) (start_of 0) (has-front blocks 0 (start_of 0) (D.code ++ B.code) (ending k ∷ []) has)
    (given-free blocks t tos.result away, tt)
    (λ s. last blocks (suc n) (after (D.code ++ B.code) (start_of 0))
    (has-back blocks 0 (start_of 0) (D.code ++ B.code) (ending k ∷ []) has))
    (entry-idle store entries k t away n)
  where
    last : (blocks : List Block) (m : ℕ) (at : Point) → HasAt blocks 0 at (ending k ∷ []) → idles.Idle blocks t m at
    last blocks m at has = by (nat_eq k.body.result.0 unit.0) has
      where
        by : (b : Bool) → HasAt blocks 0 at (ends (if b then gives (part_of no_word) else fails NoReturn k.at) ∷ []) →
            idles.Idle blocks t m at
        by true h = idles.exit-idle blocks t at (exits.Return (part_of no_word)) m h.0 refl tt
        by false h = idles.exit-idle blocks t at (exits.Fail NoReturn k.at) m h.0 refl tt
