-- What pieces add to code in progress, one after the other.
use Rattle.std.proofs.Common.{◌≡◌, sym, ap, ◌∙◌, ℕ, ◌+◌, List, ◌++◌, append_assoc, append-nil, add_assoc, add-zero}
use Rattle.std.specs.Prelude.{Result, Ok, Err}
use Rattle.tl_base.specs.declared.memory.NoMemory.{NoMemory}
use Rattle.tac_lower.specs.Items.{Item}
use Rattle.tac_lower.specs.Pieces.{Used, Piece, Holders, known, then_piece}
use Rattle.tac_lower.specs.Works.{Made, Gave, Passed, behind, past, scoped}

-- states

pub same-made : (s t : Made) → s.code ≡ t.code → s.used ≡ t.used → s.scope ≡ t.scope → s.next ≡ t.next → s ≡ t
same-made s t code used scope next =
    ap (λ (c : List Item). record s { code = c }) code ∙ ap (λ (u : Used). record s { code = t.code; used = u }) used
    ∙ ap (λ (h : Holders). record s { code = t.code; used = t.used; scope = h }) scope
    ∙ ap (λ (n : ℕ). record s { code = t.code; used = t.used; scope = t.scope; next = n }) next

module _ {A B : Type 0} (w : Made) (p : Piece A) (go : A → Used → Piece B) where
  assoc : w.code ++ (p.code ++ (go p.result p.used).code) ≡ w.code ++ p.code ++ (go p.result p.used).code
  assoc = sym (append_assoc w.code p.code (go p.result p.used).code)

  pub behind-then : behind w (then_piece p go) ≡ behind (behind w p) (go p.result p.used)
  unfolding assoc
  behind-then = ap (λ (c : List Item). record w { code = c; used = (go p.result p.used).used }) assoc

  pub past-behind : (n : ℕ) → past w (then_piece p go) n ≡ behind (past w p n) (go p.result p.used)
  unfolding assoc
  past-behind n = ap (λ (c : List Item). record w { code = c; used = (go p.result p.used).used; next = w.next + n }) assoc

  pub behind-past : (n : ℕ) → past w (then_piece p go) n ≡ past (behind w p) (go p.result p.used) n
  unfolding assoc
  behind-past n = ap (λ (c : List Item). record w { code = c; used = (go p.result p.used).used; next = w.next + n }) assoc

  pub past-then : (n m k : ℕ) → k ≡ n + m → past w (then_piece p go) k ≡ past (past w p n) (go p.result p.used) m
  unfolding assoc
  past-then n m k sum =
      ap (λ (c : List Item). record w { code = c; used = (go p.result p.used).used; next = w.next + k }) assoc
      ∙ ap (λ (j : ℕ). record w { code = w.code ++ p.code ++ (go p.result p.used).code; used = (go p.result p.used).used; next = j })
      (ap (λ (j : ℕ). w.next + j) sum ∙ sym (add_assoc w.next n m))

pub behind-known : {A : Type 0} (w : Made) (a : A) → behind w (known a w.used) ≡ w
behind-known w a = ap (λ (c : List Item). record w { code = c }) (append-nil w.code)

pub past-known : {A : Type 0} (w : Made) (a : A) → past w (known a w.used) 0 ≡ w
past-known w a =
    ap (λ (c : List Item). record w { code = c; next = w.next + 0 }) (append-nil w.code)
    ∙ ap (λ (n : ℕ). record w { next = n }) (add-zero w.next)

-- A piece of a term, and one without terms from it on.
pub gave-after : {A B C : Type 0} (view : A → C) (r : Result A NoMemory) (w0 w1 w2 : Made) (p : Piece B) (G : B → Made → Piece C) (x : B) (n : ℕ)
    → x ≡ p.result → w1 ≡ past w0 p n → Gave view r w1 w2 (G x w1)
    → Passed view r w0 w2 (then_piece p (λ v u. G v (record (past w0 p n) { used = u }))) n
gave-after view (Err e) w0 w1 w2 p G x n same first second = tt
gave-after view (Ok y) w0 w1 w2 p G x n same first second =
    let go = λ (v : _) (u : Used). G v (record (past w0 p n) { used = u }) in
    let here : G x w1 ≡ G p.result (past w0 p n) = ap (λ (v : _). G v w1) same ∙ ap (λ (w : Made). G p.result w) first in (
      second.0 ∙ ap (λ (q : Piece _). q.result) here,
      second.1 ∙ ap (λ (q : Piece _). behind w1 q) here ∙ ap (λ (w : Made). behind w (G p.result (past w0 p n))) first ∙ sym (past-behind w0 p go n),
    )

-- A piece of a term, and a term from it on.
pub passed-after : {A B C : Type 0} (view : A → C) (r : Result A NoMemory) (w0 w1 w2 : Made) (p : Piece B) (G : B → Made → Piece C) (x : B) (n m k : ℕ)
    → x ≡ p.result → w1 ≡ past w0 p n → k ≡ n + m → Passed view r w1 w2 (G x w1) m
    → Passed view r w0 w2 (then_piece p (λ v u. G v (record (past w0 p n) { used = u }))) k
passed-after view (Err e) w0 w1 w2 p G x n m k same first sum second = tt
passed-after view (Ok y) w0 w1 w2 p G x n m k same first sum second =
    let go = λ (v : _) (u : Used). G v (record (past w0 p n) { used = u }) in
    let here : G x w1 ≡ G p.result (past w0 p n) = ap (λ (v : _). G v w1) same ∙ ap (λ (w : Made). G p.result w) first in (
      second.0 ∙ ap (λ (q : Piece _). q.result) here,
      second.1 ∙ ap (λ (q : Piece _). past w1 q m) here ∙ ap (λ (w : Made). past w (G p.result (past w0 p n)) m) first ∙ sym (past-then w0 p go n m k sum),
    )

-- A piece without terms, and a term from it on.
pub passed-behind : {A B C : Type 0} (view : A → C) (r : Result A NoMemory) (w0 w1 w2 : Made) (p : Piece B) (G : B → Made → Piece C) (x : B) (n : ℕ)
    → x ≡ p.result → w1 ≡ behind w0 p → Passed view r w1 w2 (G x w1) n
    → Passed view r w0 w2 (then_piece p (λ v u. G v (record (behind w0 p) { used = u }))) n
passed-behind view (Err e) w0 w1 w2 p G x n same first second = tt
passed-behind view (Ok y) w0 w1 w2 p G x n same first second =
    let go = λ (v : _) (u : Used). G v (record (behind w0 p) { used = u }) in
    let here : G x w1 ≡ G p.result (behind w0 p) = ap (λ (v : _). G v w1) same ∙ ap (λ (w : Made). G p.result w) first in (
      second.0 ∙ ap (λ (q : Piece _). q.result) here,
      second.1 ∙ ap (λ (q : Piece _). past w1 q n) here ∙ ap (λ (w : Made). past w (G p.result (behind w0 p)) n) first ∙ sym (behind-past w0 p go n),
    )

-- A piece without terms, and another from it on.
pub gave-behind : {A B C : Type 0} (view : A → C) (r : Result A NoMemory) (w0 w1 w2 : Made) (p : Piece B) (go : B → Used → Piece C) (x : B)
    → x ≡ p.result → w1 ≡ behind w0 p → Gave view r w1 w2 (go x w1.used) → Gave view r w0 w2 (then_piece p go)
gave-behind view (Err e) w0 w1 w2 p go x same first second = tt
gave-behind view (Ok y) w0 w1 w2 p go x same first second =
    let here : go x w1.used ≡ go p.result p.used = ap (λ (v : _). go v w1.used) same ∙ ap (λ (w : Made). go p.result w.used) first in (
      second.0 ∙ ap (λ (q : Piece _). q.result) here,
      second.1 ∙ ap (λ (q : Piece _). behind w1 q) here ∙ ap (λ (w : Made). behind w (go p.result p.used)) first ∙ sym (behind-then w0 p go),
    )

-- what changes the scope

module _ (w : Made) (p : Piece Holders) (go : Holders → Used → Piece Holders) where
  pub scoped-then : (n m k : ℕ) → k ≡ n + m → scoped w (then_piece p go) k ≡ scoped (scoped w p n) (go p.result p.used) m
  scoped-then n m k sum =
      let q = go p.result p.used in
      ap (λ (c : List Item). record w { code = c; used = q.used; scope = q.result; next = w.next + k }) (sym (append_assoc w.code p.code q.code))
      ∙ ap (λ (j : ℕ). record w { code = w.code ++ p.code ++ q.code; used = q.used; scope = q.result; next = j })
      (ap (λ (j : ℕ). w.next + j) sum ∙ sym (add_assoc w.next n m))

pub scoped-known : (w : Made) → scoped w (known w.scope w.used) 0 ≡ w
scoped-known w =
    ap (λ (c : List Item). record w { code = c; next = w.next + 0 }) (append-nil w.code)
    ∙ ap (λ (n : ℕ). record w { next = n }) (add-zero w.next)
