-- Nodes in a row: between two numbers, one behind the other, none among the nodes below another one. So are the children of each node that
-- is laid out, and so are what stands within it.
use Rattle.std.specs.Prelude.{ℕ, suc, ◌≤◌, List, [], ◌∷◌, ◌++◌, Option, Some, None}
use Rattle.std.specs.Option.{option_to_list}
use Rattle.std.proofs.Common.{arith}
use Rattle.tl_base.specs.declared.ids.NodeId.{NodeId}
use Rattle.tl_tree.specs.Item.{Item}
use Rattle.tl_tree.specs.Nodes.{item_at}
use Rattle.tl_tree.specs.Code.{if_any}
use Rattle.tl_tree.specs.Children.{children_of}

-- From one number on and below another: what is below the first node begins there at the earliest, what is below the next behind the first.
pub data Row (items : List Item) : ℕ → ℕ → List NodeId → Type 0 where
  NoMore : {a b : ℕ} → a ≤ b → Row items a b []
  Next : {a b l : ℕ} {n : NodeId} {ns : List NodeId} → a ≤ l → Row items l n.0 (children_of (item_at items n))
      → Row items (suc n.0) b ns → Row items a b (n ∷ ns)

-- what is below a node begins at this number at the earliest
abbrev pub Begins : List Item → ℕ → NodeId → Type 0
Begins items l n = Row items l n.0 (children_of (item_at items n))

pub ordered : (items : List Item) (a b : ℕ) (ns : List NodeId) → Row items a b ns → a ≤ b
ordered items a b [] (NoMore le) = le
ordered items a b (n ∷ ns) (Next {l = l} le below more) =
    omega (arith, le, ordered items l n.0 (children_of (item_at items n)) below, ordered items (suc n.0) b ns more)

pub earlier : (items : List Item) (a b c : ℕ) (ns : List NodeId) → c ≤ a → Row items a b ns → Row items c b ns
earlier items a b c [] ca (NoMore le) = NoMore (omega (arith, ca, le))
earlier items a b c (n ∷ ns) ca (Next {l = l} le below more) = Next {l = l} (omega (arith, ca, le)) below more

pub later : (items : List Item) (a b c : ℕ) (ns : List NodeId) → b ≤ c → Row items a b ns → Row items a c ns
later items a b c [] bc (NoMore le) = NoMore (omega (arith, bc, le))
later items a b c (n ∷ ns) bc (Next {l = l} le below more) = Next {l = l} le below (later items (suc n.0) b c ns bc more)

pub behind : (items : List Item) (a b c : ℕ) (ns ms : List NodeId) → Row items a b ns → Row items b c ms → Row items a c (ns ++ ms)
behind items a b c [] ms (NoMore le) more = earlier items b c a ms le more
behind items a b c (n ∷ ns) ms (Next {l = l} le below rest) more = Next {l = l} le below (behind items (suc n.0) b c ns ms rest more)

-- ---- rows with nodes left out, and with some of those below a node in its place

abbrev pub Thins : List Item → List NodeId → List NodeId → Type 0
Thins items ns ms = (a b : ℕ) → Row items a b ns → Row items a b ms

pub none : (items : List Item) (ns : List NodeId) → Thins items ns []
none items ns a b r = NoMore (ordered items a b ns r)

pub joined : (items : List Item) (ns ms ks ls : List NodeId) → Thins items ns ms → Thins items ks ls → Thins items (ns ++ ks) (ms ++ ls)
joined items ns ms ks ls f g a b r =
    let s = split ns a r in
    behind items a s.0 b ms ls (f a s.0 s.1) (g s.0 b s.2)
  where
    split : (xs : List NodeId) (c : ℕ) → Row items c b (xs ++ ks) → (m : ℕ) × Row items c m xs × Row items m b ks
    split [] c q = (c, NoMore (omega arith), q)
    split (n ∷ xs) c (Next {l = l} le below more) =
        let s = split xs (suc n.0) more in
        (s.0, Next {l = l} le below s.1, s.2)

-- some of what is below a node in its place
pub instead : (items : List Item) (n : NodeId) (ms : List NodeId) → Thins items (children_of (item_at items n)) ms → Thins items (n ∷ []) ms
instead items n ms f a b (Next {l = l} le below more) =
    earlier items l b a ms le (later items l n.0 b ms (omega (arith, ordered items (suc n.0) b [] more)) (f l n.0 below))

pub any : (items : List Item) (o : Option NodeId) → Thins items (option_to_list o) (if_any o)
any items None a b r = r
any items (Some n) a b r = r
