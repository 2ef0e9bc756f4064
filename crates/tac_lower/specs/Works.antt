-- What code in progress stands for, and what pieces add to it. A view of the code: nothing is promised here.
use Rattle.std.specs.Prelude.{◌≡◌, ℕ, ◌+◌, List, [], ◌++◌, Result, Ok, Err}
use Rattle.tl_base.specs.declared.memory.NoMemory.{NoMemory}
use Rattle.tac_lower.specs.Items.{Item}
use Rattle.tac_lower.specs.Pieces.{Used, nothing_used, Piece, Holders}

-- the code so far, what it uses, the variables in scope, and the number of the next declaration
pub record Made : Type 0 where
  pub code : List Item
  pub used : Used
  pub scope : Holders
  pub next : ℕ

abbrev pub begun : Made
begun = record { code = []; used = nothing_used; scope = []; next = 0 }

-- behind a piece
abbrev pub behind : {A : Type 0} → Made → Piece A → Made
behind w p = record w { code = w.code ++ p.code; used = p.used }

-- behind a piece of a term that has so many declarations
abbrev pub past : {A : Type 0} → Made → Piece A → ℕ → Made
past w p n = record w { code = w.code ++ p.code; used = p.used; next = w.next + n }

-- behind a piece of a term that has so many declarations, and leaves these variables in scope
abbrev pub scoped : Made → Piece Holders → ℕ → Made
scoped w p n = record { code = w.code ++ p.code; used = p.used; scope = p.result; next = w.next + n }

abbrev pub itself : {A : Type 0} → A → A
itself x = x

-- The code got the piece, and the piece's result was given; want of memory says nothing.
abbrev pub Gave : {A B : Type 0} → (A → B) → Result A NoMemory → Made → Made → Piece B → Type 0
Gave view (Ok v) old new p = (view v ≡ p.result) × (new ≡ behind old p)
Gave view (Err e) old new p = Unit {0}

abbrev pub Put : Result (Unit {0}) NoMemory → Made → Made → Piece (Unit {0}) → Type 0
Put (Ok v) old new p = new ≡ behind old p
Put (Err e) old new p = Unit {0}

-- the same of terms, with so many declarations
abbrev pub Passed : {A B : Type 0} → (A → B) → Result A NoMemory → Made → Made → Piece B → ℕ → Type 0
Passed view (Ok v) old new p n = (view v ≡ p.result) × (new ≡ past old p n)
Passed view (Err e) old new p n = Unit {0}

-- the same of what changes the scope
abbrev pub PutScope : Result (Unit {0}) NoMemory → Made → Made → Piece Holders → Type 0
PutScope (Ok v) old new p = new ≡ record (behind old p) { scope = p.result }
PutScope (Err e) old new p = Unit {0}

abbrev pub Declared : Result (Unit {0}) NoMemory → Made → Made → Piece Holders → ℕ → Type 0
Declared (Ok v) old new p n = new ≡ scoped old p n
Declared (Err e) old new p n = Unit {0}
