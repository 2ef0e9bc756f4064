-- Nodes one after the other.
use Rattle.std.specs.Prelude.{◌≡◌, ℕ, zero, suc, pred, ◌<◌, ◌≤◌, Bool, true, false, ◌||◌, ◌&&◌, List, [], ◌∷◌, length, drop, get_or}
use Rattle.std.proofs.Common.{refl, sym, ◌∙◌, arith}
use Rattle.std.proofs.lemmas.Bool.{true≢false}
use Rattle.tl_tree.specs.Item.{Item}
use Rattle.tl_tree.specs.Nodes.{item_at, last_of, absent_item}
use Rattle.tl_tree.specs.Code.{Items}
use Rattle.tl_tree.specs.Scopes.{is_name}

-- What holds of a node before others, and of an absent one behind all, holds at each number.
pub by_node : (P : Item → Items → Items → Type 0) → ((i : Item) (more : Items) → P i (i ∷ more) more) → P absent_item [] []
    → (items : Items) (k : ℕ) → P (item_at items (record { 0 = k })) (drop k items) (drop (suc k) items)
by_node P there past [] zero = past
by_node P there past [] (suc k) = past
by_node P there past (i ∷ items) zero = there i items
by_node P there past (i ∷ items) (suc k) = by_node P there past items k

le_pred : (n : ℕ) → n ≤ suc (pred n)
le_pred zero = omega arith
le_pred (suc n) = omega arith

-- there are no more nodes than up to the root
pub within_root : (items : Items) → length items ≤ suc (last_of items).0
within_root items = le_pred (length items)

none_from : (items : Items) (k : ℕ) → length items ≤ k → drop k items ≡ []
none_from [] zero h = refl
none_from [] (suc k) h = refl
none_from (i ∷ items) zero h = absurd (omega (arith, h))
none_from (i ∷ items) (suc k) h = none_from items k (omega (arith, h))

pub none_behind : (items : Items) (k : ℕ) → k ≡ suc (last_of items).0 → drop k items ≡ []
none_behind items k e = none_from items k (omega (arith, e, within_root items))

pub name_inside : (items : Items) (m : ℕ) → is_name (get_or items m absent_item) ≡ true → m < length items
name_inside [] m h = absurd (true≢false (sym h))
name_inside (i ∷ items) zero h = omega arith
name_inside (i ∷ items) (suc m) h = let r : m < length items = name_inside items m h in omega (arith, r)

-- ---- tests

pub or_true : (x : Bool) → (x || true) ≡ true
or_true true = refl
or_true false = refl

pub or_false : (x : Bool) → (x || false) ≡ x
or_false true = refl
or_false false = refl

pub or_none : (x b : Bool) → (x || (b && false)) ≡ x
or_none true b = refl
or_none false true = refl
or_none false false = refl

pub or_or : (x p q : Bool) → ((x || p) || q) ≡ (x || (p || q))
or_or true p q = refl
or_or false p q = refl

pub or_and : (x b p q : Bool) → ((x || (b && p)) || (b && q)) ≡ (x || (b && (p || q)))
or_and true b p q = refl
or_and false true p q = refl
or_and false false p q = refl

-- a read within a list
pub set_at : (marks : List Bool) (i : ℕ) (x : Bool) → i < length marks → x ≡ get_or marks i x → x ≡ true → get_or marks i false ≡ true
set_at [] i x lt e is = absurd (omega (arith, lt))
set_at (m ∷ marks) zero x lt e is = sym e ∙ is
set_at (m ∷ marks) (suc i) x lt e is = set_at marks i x (omega (arith, lt)) e is
