-- Code behind a state, step by step: what it is, what it uses, which variables are in scope, and how many declarations were passed.
use Rattle.std.proofs.Common.{◌≡◌, refl, sym, ap, ◌∙◌, subst, ℕ, suc, ◌+◌, ◌-◌, List, [], ◌∷◌, ◌++◌, length, take, drop, arith}
use Rattle.std.proofs.Common.{append_assoc, append-nil, add_assoc, add-zero}
use Rattle.tac_form.specs.declared.tac.Operand.{Operand}
use Rattle.tac_lower.specs.Items.{Item, Ending, ends, skips, tests, count_ends, loop_of}
use Rattle.tac_lower.specs.Lowering.{passed_over}
use Rattle.tac_lower.specs.Pieces.{Used, Piece, Holders}
use Rattle.tac_lower.specs.Data.{reaching}
use Rattle.tac_lower.specs.Works.{Made, behind, past, scoped}
use Rattle.tac_lower.proofs.Adding.{same-made}
use Rattle.tac_lower.proofs.Places.{count-append}

pub record Built (old new : Made) (X : List Item) (u : Used) (s : Holders) (n : ℕ) : Type 0 where
  pub code : new.code ≡ old.code ++ X
  pub used : new.used ≡ u
  pub scope : new.scope ≡ s
  pub next : new.next ≡ old.next + n

pub built-nothing : (w : Made) → Built w w [] w.used w.scope 0
built-nothing w = record { code = sym (append-nil w.code); used = refl; scope = refl; next = sym (add-zero w.next) }

module _ (w0 w w' : Made) (X : List Item) (u : Used) (s : Holders) (n : ℕ) (so_far : Built w0 w X u s n) where
  -- more code
  more : (Y : List Item) → w'.code ≡ w.code ++ Y → w'.code ≡ w0.code ++ (X ++ Y)
  more Y add = add ∙ ap (λ (l : List Item). l ++ Y) so_far.code ∙ append_assoc w0.code X Y

  further : (m : ℕ) → w'.next ≡ w.next + m → w'.next ≡ w0.next + (n + m)
  further m add = add ∙ ap (λ (j : ℕ). j + m) so_far.next ∙ add_assoc w0.next n m

  pub built-item : (i : Item) → w' ≡ record w { code = w.code ++ i ∷ [] } → Built w0 w' (X ++ i ∷ []) u s n
  built-item i step = record {
    code = more (i ∷ []) (ap (λ (z : Made). z.code) step);
    used = ap (λ (z : Made). z.used) step ∙ so_far.used;
    scope = ap (λ (z : Made). z.scope) step ∙ so_far.scope;
    next = ap (λ (z : Made). z.next) step ∙ so_far.next;
  }

  pub built-temp : (v : Used) → w' ≡ record w { used = v } → Built w0 w' X v s n
  built-temp v step = record {
    code = ap (λ (z : Made). z.code) step ∙ so_far.code;
    used = ap (λ (z : Made). z.used) step;
    scope = ap (λ (z : Made). z.scope) step ∙ so_far.scope;
    next = ap (λ (z : Made). z.next) step ∙ so_far.next;
  }

  pub built-plain : {A : Type 0} (p : Piece A) → w' ≡ behind w p → Built w0 w' (X ++ p.code) p.used s n
  built-plain p step = record {
    code = more p.code (ap (λ (z : Made). z.code) step);
    used = ap (λ (z : Made). z.used) step;
    scope = ap (λ (z : Made). z.scope) step ∙ so_far.scope;
    next = ap (λ (z : Made). z.next) step ∙ so_far.next;
  }

  pub built-term : {A : Type 0} (p : Piece A) (m : ℕ) → w' ≡ past w p m → Built w0 w' (X ++ p.code) p.used s (n + m)
  built-term p m step = record {
    code = more p.code (ap (λ (z : Made). z.code) step);
    used = ap (λ (z : Made). z.used) step;
    scope = ap (λ (z : Made). z.scope) step ∙ so_far.scope;
    next = further m (ap (λ (z : Made). z.next) step);
  }

  pub built-scoped : (p : Piece Holders) (m : ℕ) → w' ≡ scoped w p m → Built w0 w' (X ++ p.code) p.used p.result (n + m)
  built-scoped p m step = record {
    code = more p.code (ap (λ (z : Made). z.code) step);
    used = ap (λ (z : Made). z.used) step;
    scope = ap (λ (z : Made). z.scope) step;
    next = further m (ap (λ (z : Made). z.next) step);
  }

  -- a scope is left
  pub built-left : (count : ℕ) (outer : Holders) → drop (length s - count) s ≡ outer
      → w' ≡ record w { scope = drop (length w.scope - count) w.scope } → Built w0 w' X u outer n
  built-left count outer rest step = record {
    code = ap (λ (z : Made). z.code) step ∙ so_far.code;
    used = ap (λ (z : Made). z.used) step ∙ so_far.used;
    scope = ap (λ (z : Made). z.scope) step ∙ ap (λ (h : Holders). drop (length h - count) h) so_far.scope ∙ rest;
    next = ap (λ (z : Made). z.next) step ∙ so_far.next;
  }

-- an ending leads past what stands behind it
pub built-closed : (w0 w w' : Made) (X Y : List Item) (e : Ending) (u : Used) (s : Holders) (n position ended : ℕ)
    → Built w0 w (X ++ ends e ∷ Y) u s n → position ≡ length (w0.code ++ X) → ended ≡ count_ends (w0.code ++ X)
    → ((front code : List Item) (e : Ending) → w.code ≡ front ++ ends e ∷ code → position ≡ length front → ended ≡ count_ends front →
    w' ≡ record w { code = front ++ ends (reaching e (count_ends code)) ∷ code })
    → Built w0 w' (X ++ ends (reaching e (count_ends Y)) ∷ Y) u s n
built-closed w0 w w' X Y e u s n position ended so_far place count close =
    let step = close (w0.code ++ X) Y e (so_far.code ∙ sym (append_assoc w0.code X (ends e ∷ Y))) place count in
    record {
      code = ap (λ (z : Made). z.code) step ∙ append_assoc w0.code X (ends (reaching e (count_ends Y)) ∷ Y);
      used = ap (λ (z : Made). z.used) step ∙ so_far.used;
      scope = ap (λ (z : Made). z.scope) step ∙ so_far.scope;
      next = ap (λ (z : Made). z.next) step ∙ so_far.next;
    }

take-front : {A : Type 0} (xs ys : List A) → take (length xs) (xs ++ ys) ≡ xs
take-front [] ys = refl
take-front (x ∷ xs) ys = ap (λ (l : List _). x ∷ l) (take-front xs ys)

drop-front : {A : Type 0} (xs ys : List A) → drop (length xs) (xs ++ ys) ≡ ys
drop-front [] ys = refl
drop-front (x ∷ xs) ys = drop-front xs ys

-- a loop is whole
pub built-loop : (w0 w w' : Made) (X Y : List Item) (u : Used) (s : Holders) (n position : ℕ)
    → Built w0 w (X ++ Y) u s n → position ≡ length (w0.code ++ X)
    → w' ≡ record w { code = take position w.code ++ loop_of (drop position w.code) }
    → Built w0 w' (X ++ loop_of Y) u s n
built-loop w0 w w' X Y u s n position so_far place step =
    let front = w0.code ++ X in
    let whole : w.code ≡ front ++ Y = so_far.code ∙ sym (append_assoc w0.code X Y) in
    record {
      code = ap (λ (z : Made). z.code) step ∙ ap (λ (k : ℕ). take k w.code ++ loop_of (drop k w.code)) place
          ∙ ap (λ (l : List Item). take (length front) l ++ loop_of (drop (length front) l)) whole
          ∙ ap (λ (l : List Item). l ++ loop_of (drop (length front) (front ++ Y))) (take-front front Y)
          ∙ ap (λ (l : List Item). front ++ loop_of l) (drop-front front Y) ∙ append_assoc w0.code X (loop_of Y);
      used = ap (λ (z : Made). z.used) step ∙ so_far.used;
      scope = ap (λ (z : Made). z.scope) step ∙ so_far.scope;
      next = ap (λ (z : Made). z.next) step ∙ so_far.next;
    }

-- all of a piece was built

pub built-past : {A : Type 0} (w0 w : Made) (p : Piece A) (k : ℕ) (X : List Item) (u : Used) (n : ℕ) → Built w0 w X u w0.scope n
    → X ≡ p.code → u ≡ p.used → n ≡ k → w ≡ past w0 p k
built-past w0 w p k X u n whole code used count =
    same-made w (past w0 p k) (whole.code ∙ ap (λ (l : List Item). w0.code ++ l) code) (whole.used ∙ used) whole.scope
    (whole.next ∙ ap (λ (j : ℕ). w0.next + j) count)

pub built-all : (w0 w : Made) (p : Piece Holders) (k : ℕ) (X : List Item) (u : Used) (s : Holders) (n : ℕ) → Built w0 w X u s n
    → X ≡ p.code → u ≡ p.used → s ≡ p.result → n ≡ k → w ≡ scoped w0 p k
built-all w0 w p k X u s n whole code used scope count =
    same-made w (scoped w0 p k) (whole.code ∙ ap (λ (l : List Item). w0.code ++ l) code) (whole.used ∙ used) (whole.scope ∙ scope)
    (whole.next ∙ ap (λ (j : ℕ). w0.next + j) count)

-- what closing an ending does
abbrev pub Closes : (old new : Made) (position ended : ℕ) → Type 0
Closes old new position ended =
    (front code : List Item) (e : Ending) → old.code ≡ front ++ ends e ∷ code → position ≡ length front → ended ≡ count_ends front →
    new ≡ record old { code = front ++ ends (reaching e (count_ends code)) ∷ code }

count-one : (A : List Item) (e : Ending) → count_ends (A ++ ends e ∷ []) ≡ suc (count_ends A)
count-one A e =
    let all : count_ends (A ++ ends e ∷ []) ≡ count_ends A + 1 = count-append A (ends e ∷ []) in omega (arith, all)

module _ (w0 w1 w3 w4 w5 : Made) (X A : List Item) (a : Operand) (u v : Used) (s t : Holders) (n m position ended : ℕ)
    (before : Built w0 w1 X u s n) (place : position ≡ length w1.code) (count : ended ≡ count_ends w1.code) where
  at-mark : position ≡ length (w0.code ++ X)
  at-mark = place ∙ ap (λ (l : List Item). length l) before.code

  ended-mark : ended ≡ count_ends (w0.code ++ X)
  ended-mark = count ∙ ap count_ends before.code

  -- a test, and what it passes over
  pub passed-built : Built w0 w3 (X ++ ends (tests a 0) ∷ [] ++ A) v t m → w4 ≡ record w3 { code = w3.code ++ ends (skips 0) ∷ [] }
      → Closes w4 w5 position ended → Built w0 w5 (X ++ passed_over a A) v t m
  passed-built inner last close =
      let Y = A ++ ends (skips 0) ∷ [] in
      let test = ends (tests a 0) in
      let shape : X ++ test ∷ [] ++ A ++ ends (skips 0) ∷ [] ≡ X ++ test ∷ Y =
      append_assoc (X ++ test ∷ []) A (ends (skips 0) ∷ []) ∙ append_assoc X (test ∷ []) Y in
      let whole = built-item w0 w3 w4 (X ++ test ∷ [] ++ A) v t m inner (ends (skips 0)) last in
      let closed = built-closed w0 w4 w5 X Y (tests a 0) v t m position ended
      (subst (λ (l : List Item). Built w0 w4 l v t m) shape whole) at-mark ended-mark close in
      subst (λ (k : ℕ). Built w0 w5 (X ++ ends (tests a k) ∷ Y) v t m) (count-one A (skips 0)) closed

  -- a test, and what it passes over up to an ending that stays
  pub tested-built : (e : Ending) → Built w0 w3 (X ++ ends (tests a 0) ∷ [] ++ A) v t m → w4 ≡ record w3 { code = w3.code ++ ends e ∷ [] }
      → Closes w4 w5 position ended → Built w0 w5 (X ++ ends (tests a (suc (count_ends A))) ∷ (A ++ ends e ∷ [])) v t m
  tested-built e inner last close =
      let Y = A ++ ends e ∷ [] in
      let test = ends (tests a 0) in
      let shape : X ++ test ∷ [] ++ A ++ ends e ∷ [] ≡ X ++ test ∷ Y =
      append_assoc (X ++ test ∷ []) A (ends e ∷ []) ∙ append_assoc X (test ∷ []) Y in
      let whole = built-item w0 w3 w4 (X ++ test ∷ [] ++ A) v t m inner (ends e) last in
      let closed = built-closed w0 w4 w5 X Y (tests a 0) v t m position ended
      (subst (λ (l : List Item). Built w0 w4 l v t m) shape whole) at-mark ended-mark close in
      subst (λ (k : ℕ). Built w0 w5 (X ++ ends (tests a k) ∷ Y) v t m) (count-one A e) closed
