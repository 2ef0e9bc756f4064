-- What laying out a well-formed tree gives: its nodes behind those before, children before their parents, and the same
-- tree again.
use Rattle.std.proofs.Common.{◌≡◌, ℕ, zero, suc, pred, ◌+◌, ◌<◌, ◌≤◌, List, [], ◌∷◌, ◌++◌, length, get_or, Option, Some}
use Rattle.std.proofs.Common.{None, refl, sym, ap, subst, ◌∙◌, append_assoc, length-append, inl, inr, arith}
use Rattle.std.specs.List.{All}
use Rattle.std.specs.Option.{option_to_list}
use Rattle.std.proofs.lemmas.Bool.{and_parts, false≢true, cases_lt}
use Rattle.std.proofs.lemmas.List.{append-nil}
use Rattle.std.proofs.lemmas.List.Elements.{All-nil, All-cons, All-append, All-weaker}
use Rattle.tl_base.specs.declared.ids.NodeId.{NodeId}
use Rattle.tl_tree.specs.declared.node.Expression.TheVariants as expressions
use Rattle.tl_tree.specs.declared.node.Statement.TheVariants as statements
use Rattle.tl_tree.specs.declared.node.TerraExpression.TheVariants as terra_expressions
use Rattle.tl_tree.specs.declared.node.TerraStatement.TheVariants as terra_statements
use Rattle.tl_tree.specs.declared.node.Piece.TheVariants as pieces
use Rattle.tl_tree.specs.Item.{Item}
use Rattle.tl_tree.specs.Item as kept
use Rattle.tl_tree.specs.Tree.{Tree}
use Rattle.tl_tree.specs.Tree as t
use Rattle.tl_tree.specs.Nodes.{Laid, added, lay, node, last, last_of, item_at, absent_item, if_any}
use Rattle.tl_tree.specs.Kinds as kinds
use Rattle.tl_tree.specs.Kinds.{WellFormed, IsWellFormedBlock}
use Rattle.tl_tree.specs.Children.{children_of, HasChildrenFirst, LaysChildrenFirst, IsLaidOutApart}
use Rattle.tl_tree.proofs.TreeAt.{of_item, tree_at, list_behind}
use Rattle.tl_tree.proofs.TreeAt as of_numbers
use Rattle.tl_tree.proofs.Fitting.{Slot, One, Many, Any, Fits}
use Rattle.tl_tree.proofs.Fitting as kind
use Rattle.tl_tree.proofs.Rows as rows
use Rattle.tl_tree.proofs.Rows.{Row, NoMore, Next}

-- ---- numbers of what stands somewhere

abbrev pub Ref : Slot → Type 0
Ref One = NodeId
Ref Many = List NodeId
Ref Any = Option NodeId

-- of a laid tree
abbrev pub ref : (s : Slot) → Laid → Ref s
ref One x = last x
ref Many x = x.numbers
ref Any x = if_any x

abbrev pub ids : (s : Slot) → Ref s → List NodeId
ids One id = id ∷ []
ids Many all = all
ids Any o = option_to_list o

-- the tree that stands there
abbrev pub look : (s : Slot) → (NodeId → Tree) → Ref s → Tree
look One at id = at id
look Many at all = of_numbers.list at all
look Any at o = of_numbers.if_any at o

-- all numbers are below this one
abbrev Below : ℕ → List NodeId → Type 0
Below n all = All (λ id. id.0 < n) all

below_more : (n m : ℕ) (all : List NodeId) → n ≤ m → Below n all → Below m all
below_more n m all le h = All-weaker (λ id. id.0 < n) (λ id. id.0 < m) (λ id p. omega (arith, p, le)) all h

-- ---- nodes with more behind them

pub record Grows (old new : List Item) : Type 0 where
  pub more : List Item
  pub is : new ≡ old ++ more

same : (items : List Item) → Grows items items
same items = record { more = []; is = sym (append-nil items) }

further : {a b c : List Item} → Grows a b → Grows b c → Grows a c
further {a} {b} {c} p q =
    record {
      more = p.more ++ q.more;
      is = q.is ∙ ap (λ (x : List Item). x ++ q.more) p.is
          ∙ append_assoc a p.more q.more;
    }

pushed : (items : List Item) (item : Item) → Grows items (items ++ item ∷ [])
pushed items item = record { more = item ∷ []; is = refl }

longer : {a b : List Item} → Grows a b → length a ≤ length b
longer {a} {b} p = let e : length b ≡ length a + length p.more =
    ap (λ (x : List Item). length x) p.is ∙ length-append a p.more in omega (arith, e)

-- ---- the last node

length_pushed : (items : List Item) (item : Item) → length (items ++ item ∷ []) ≡ suc (length items)
length_pushed items item = omega (arith, length-append items (item ∷ []))

get_middle : (xs : List Item) (item : Item) (behind : List Item)
    → get_or ((xs ++ item ∷ []) ++ behind) (length xs) absent_item ≡ item
get_middle [] item behind = refl
get_middle (x ∷ xs) item behind = get_middle xs item behind

get_front : (xs ys : List Item) (n : ℕ) → n < length xs → get_or (xs ++ ys) n absent_item ≡ get_or xs n absent_item
get_front [] ys n h = absurd (omega (arith, h))
get_front (x ∷ xs) ys zero h = refl
get_front (x ∷ xs) ys (suc n) h = get_front xs ys n (omega (arith, h))

get_past : (xs : List Item) (n : ℕ) → length xs ≤ n → get_or xs n absent_item ≡ absent_item
get_past [] n h = refl
get_past (x ∷ xs) zero h = absurd (omega (arith, h))
get_past (x ∷ xs) (suc n) h = get_past xs n (omega (arith, h))

last_number : (xs : List Item) (item : Item) → last_of (xs ++ item ∷ []) ≡ record { 0 = length xs }
last_number xs item = ap (λ (n : ℕ). record { 0 = pred n }) (length_pushed xs item)

last_item : (xs : List Item) (item : Item) {items : List Item} → Grows (xs ++ item ∷ []) items
    → item_at items (last_of (xs ++ item ∷ [])) ≡ item
last_item xs item {items} p =
    ap (λ (is : List Item). item_at is (last_of (xs ++ item ∷ []))) p.is
    ∙ ap (λ (id : NodeId). item_at ((xs ++ item ∷ []) ++ p.more) id) (last_number xs item)
    ∙ get_middle xs item p.more

-- one more node, whose children are among those before it
first_pushed : (xs : List Item) (item : Item) → HasChildrenFirst xs → Below (length xs) (children_of item)
    → HasChildrenFirst (xs ++ item ∷ [])
first_pushed xs item h b id = elim (cases_lt id.0 (length xs)) [
  | inl lt ↦ subst (λ (i : Item). Below id.0 (children_of i)) (sym (get_front xs (item ∷ []) id.0 lt)) (h id)
  | inr le ↦ elim (cases_lt (length xs) id.0) [
    | inl gt ↦ subst (λ (i : Item). Below id.0 (children_of i))
        (sym (get_past (xs ++ item ∷ []) id.0 (omega (arith, length_pushed xs item, gt))))
        (All-nil (λ child. child.0 < id.0))
    | inr ge ↦ let e : length xs ≡ id.0 = omega (arith, le, ge) in
        let there : item ≡ get_or (xs ++ item ∷ []) id.0 absent_item =
        sym (get_middle xs item [])
        ∙ ap (λ (is : List Item). get_or is (length xs) absent_item) (append-nil (xs ++ item ∷ []))
        ∙ ap (λ (n : ℕ). get_or (xs ++ item ∷ []) n absent_item) e in
        subst (λ (i : Item). Below id.0 (children_of i)) there (below_more (length xs) id.0 (children_of item) le b)
  ]
]

-- ---- a tree that lies somewhere

-- Behind the nodes in front the tree was laid, among these nodes, and this is its number, the numbers of its trees, or
-- its number if any.
pub record Lies (s : Slot) (a : Tree) (front xs : List Item) (p : Ref s) : Type 0 where
  pub grows : Grows front xs
  pub first : HasChildrenFirst front → HasChildrenFirst xs
  pub below : Below (length xs) (ids s p)
  pub row : (items : List Item) → Grows xs items → Row items (length front) (length xs) (ids s p)
  pub reads : (items : List Item) (n : ℕ) → Grows xs items → length xs ≤ n → look s (λ id. tree_at n items id) p ≡ a

abbrev LiesIn : Slot → Tree → List Item → Laid → Type 0
LiesIn s a front x = Lies s a front x.items (ref s x)

-- it still does behind one more tree
before : {s r : Slot} {a b : Tree} {front xs ys : List Item} {p : Ref s} {q : Ref r} → Lies s a front xs p
    → Lies r b xs ys q → Lies s a front ys p
before {s} {r} {a} {b} {front} {xs} {ys} {p} {q} l m = record {
  grows = further l.grows m.grows;
  first = λ h. m.first (l.first h);
  below = below_more (length xs) (length ys) (ids s p) (longer m.grows) l.below;
  row = λ items g. rows.later items (length front) (length xs) (length ys) (ids s p) (longer m.grows) (l.row items (further m.grows g));
  reads = λ items n g le. l.reads items n (further m.grows g) (omega (arith, longer m.grows, le));
}

-- a node behind others that has this tree
close : (a : Tree) {front : List Item} (ys : List Item) (item : Item) → Grows front ys
    → (HasChildrenFirst front → HasChildrenFirst ys) → Below (length ys) (children_of item)
    → ((items : List Item) → Grows ys items → Row items (length front) (length ys) (children_of item))
    → ((items : List Item) (n : ℕ) → Grows ys items → length ys ≤ n → of_item (λ id. tree_at n items id) item ≡ a)
    → LiesIn One a front (node ys item)
close a {front} ys item grows first below row reads = record {
  grows = further grows (pushed ys item);
  first = λ h. first_pushed ys item (first h) below;
  below = All-cons (λ id. id.0 < length (ys ++ item ∷ [])) (last_of (ys ++ item ∷ [])) []
      (omega (arith, length_pushed ys item, ap (λ (id : NodeId). id.0) (last_number ys item)))
      (All-nil (λ id. id.0 < length (ys ++ item ∷ [])));
  row = λ items g. Next {l = length front} (omega arith) (among items g) (NoMore (omega (arith, length_pushed ys item, at_end)));
  reads = λ items n g le. read items n g (omega (arith, length_pushed ys item, le));
}
  where
    at_end : (last_of (ys ++ item ∷ [])).0 ≡ length ys
    at_end = ap (λ (id : NodeId). id.0) (last_number ys item)

    among : (items : List Item) → Grows (ys ++ item ∷ []) items
        → Row items (length front) (last_of (ys ++ item ∷ [])).0 (children_of (item_at items (last_of (ys ++ item ∷ []))))
    among items g =
        subst (λ (i : Item). Row items (length front) (last_of (ys ++ item ∷ [])).0 (children_of i)) (sym (last_item ys item g))
        (subst (λ (n : ℕ). Row items (length front) n (children_of item)) (sym at_end) (row items (further (pushed ys item) g)))

    read : (items : List Item) (n : ℕ) → Grows (ys ++ item ∷ []) items → length ys < n
        → tree_at n items (last_of (ys ++ item ∷ [])) ≡ a
    read items zero g lt = absurd (omega (arith, lt))
    read items (suc n) g lt =
        ap (λ (i : Item). of_item (λ id. tree_at n items id) i) (last_item ys item g)
        ∙ reads items n (further (pushed ys item) g) (omega (arith, lt))

-- ---- nodes by the number of places in them

-- what the node holds is below
holds : (n : ℕ) (item : Item) (all : List NodeId) → children_of item ≡ all → Below n all → Below n (children_of item)
holds n item all e h = subst (λ (x : List NodeId). Below n x) (sym e) h

-- and in a row
rowed : (items : List Item) (a b : ℕ) (item : Item) (all : List NodeId) → children_of item ≡ all → Row items a b all
    → Row items a b (children_of item)
rowed items a b item all e h = subst (λ (x : List NodeId). Row items a b x) (sym e) h

leaf : (a : Tree) (item : Item) → children_of item ≡ [] → ((at : NodeId → Tree) → of_item at item ≡ a)
    → (front : List Item) → LiesIn One a front (node front item)
leaf a item none is front =
    close a front item (same front) (λ h. h) (holds (length front) item [] none (All-nil (λ id. id.0 < length front)))
    (λ items g. rowed items (length front) (length front) item [] none (NoMore (omega arith)))
    (λ items n g le. is (λ id. tree_at n items id))

module _ (s : Slot) (make : Tree → Tree) (item : Ref s → Item) (has : (p : Ref s) → children_of (item p) ≡ ids s p)
    (is : (at : NodeId → Tree) (p : Ref s) → of_item at (item p) ≡ make (look s at p)) where
  one : {a : Tree} {front xs : List Item} {p : Ref s} → Lies s a front xs p
      → LiesIn One (make a) front (node xs (item p))
  one {a} {front} {xs} {p} l =
      close (make a) xs (item p) l.grows l.first (holds (length xs) (item p) (ids s p) (has p) l.below)
      (λ items g. rowed items (length front) (length xs) (item p) (ids s p) (has p) (l.row items g))
      (λ items n g le. is (λ id. tree_at n items id) p ∙ ap (λ (x : Tree). make x) (l.reads items n g le))

joined : (n : ℕ) (xs ys : List NodeId) → Below n xs → Below n ys → Below n (xs ++ ys)
joined n xs ys h k = All-append (λ id. id.0 < n) xs ys h k

module _ (s r : Slot) (make : Tree → Tree → Tree) (item : Ref s → Ref r → Item)
    (has : (p : Ref s) (q : Ref r) → children_of (item p q) ≡ ids s p ++ ids r q)
    (is : (at : NodeId → Tree) (p : Ref s) (q : Ref r) → of_item at (item p q) ≡ make (look s at p) (look r at q)) where
  two : {a b : Tree} {front xs ys : List Item} {p : Ref s} {q : Ref r} → Lies s a front xs p → Lies r b xs ys q
      → LiesIn One (make a b) front (node ys (item p q))
  two {a} {b} {front} {xs} {ys} {p} {q} l m =
      let k = before l m in
      close (make a b) ys (item p q) k.grows k.first
      (holds (length ys) (item p q) (ids s p ++ ids r q) (has p q)
      (joined (length ys) (ids s p) (ids r q) k.below m.below))
      (λ items g. rowed items (length front) (length ys) (item p q) (ids s p ++ ids r q) (has p q)
      (rows.behind items (length front) (length xs) (length ys) (ids s p) (ids r q) (l.row items (further m.grows g)) (m.row items g)))
      (λ items n g le.
      is (λ id. tree_at n items id) p q
      ∙ ap (λ (x : Tree). make x (look r (λ id. tree_at n items id) q)) (k.reads items n g le)
      ∙ ap (λ (x : Tree). make a x) (m.reads items n g le))

module _ (s r u : Slot) (make : Tree → Tree → Tree → Tree) (item : Ref s → Ref r → Ref u → Item)
    (has : (p : Ref s) (q : Ref r) (w : Ref u) → children_of (item p q w) ≡ ids s p ++ (ids r q ++ ids u w))
    (is : (at : NodeId → Tree) (p : Ref s) (q : Ref r) (w : Ref u)
    → of_item at (item p q w) ≡ make (look s at p) (look r at q) (look u at w)) where
  three : {a b d : Tree} {front xs ys zs : List Item} {p : Ref s} {q : Ref r} {w : Ref u} → Lies s a front xs p
      → Lies r b xs ys q → Lies u d ys zs w → LiesIn One (make a b d) front (node zs (item p q w))
  three {a} {b} {d} {front} {xs} {ys} {zs} {p} {q} {w} l m o =
      let k = before (before l m) o in
      let j = before m o in
      close (make a b d) zs (item p q w) k.grows k.first
      (holds (length zs) (item p q w) (ids s p ++ (ids r q ++ ids u w)) (has p q w)
      (joined (length zs) (ids s p) (ids r q ++ ids u w) k.below
      (joined (length zs) (ids r q) (ids u w) j.below o.below)))
      (λ items g. rowed items (length front) (length zs) (item p q w) (ids s p ++ (ids r q ++ ids u w)) (has p q w)
      (rows.behind items (length front) (length xs) (length zs) (ids s p) (ids r q ++ ids u w)
      (l.row items (further (further m.grows o.grows) g))
      (rows.behind items (length xs) (length ys) (length zs) (ids r q) (ids u w) (m.row items (further o.grows g)) (o.row items g))))
      (λ items n g le. is (λ id. tree_at n items id) p q w
      ∙ agree (k.reads items n g le) (j.reads items n g le) (o.reads items n g le))
    where
      agree : {x y z : Tree} → x ≡ a → y ≡ b → z ≡ d → make x y z ≡ make a b d
      agree {x} {y} {z} e f g =
          ap (λ (i : Tree). make i y z) e ∙ ap (λ (i : Tree). make a i z) f ∙ ap (λ (i : Tree). make a b i) g

-- a loop over numbers, of either language
module _ (make : Tree → Tree → Tree → Tree → Tree → Tree)
    (item : NodeId → NodeId → NodeId → Option NodeId → NodeId → Item)
    (has : (p q r : NodeId) (u : Option NodeId) (v : NodeId)
    → children_of (item p q r u v) ≡ p ∷ q ∷ r ∷ (option_to_list u ++ v ∷ []))
    (is : (at : NodeId → Tree) (p q r : NodeId) (u : Option NodeId) (v : NodeId)
    → of_item at (item p q r u v) ≡ make (at p) (at q) (at r) (of_numbers.if_any at u) (at v)) where
  loop : {a b d e f : Tree} {front cs bs ds es fs : List Item} {p q r : NodeId} {u : Option NodeId} {v : NodeId}
      → Lies One a front cs p → Lies One b cs bs q → Lies One d bs ds r → Lies Any e ds es u → Lies One f es fs v
      → LiesIn One (make a b d e f) front (node fs (item p q r u v))
  loop {a} {b} {d} {e} {f} {front} {cs} {bs} {ds} {es} {fs} {p} {q} {r} {u} {v} la lb ld le lf =
      let ka = before (before (before (before la lb) ld) le) lf in
      let kb = before (before (before lb ld) le) lf in
      let kd = before (before ld le) lf in
      let ke = before le lf in
      close (make a b d e f) fs (item p q r u v) ka.grows ka.first
      (holds (length fs) (item p q r u v) (p ∷ q ∷ r ∷ (option_to_list u ++ v ∷ [])) (has p q r u v)
      (joined (length fs) (p ∷ []) (q ∷ r ∷ (option_to_list u ++ v ∷ [])) ka.below
      (joined (length fs) (q ∷ []) (r ∷ (option_to_list u ++ v ∷ [])) kb.below
      (joined (length fs) (r ∷ []) (option_to_list u ++ v ∷ []) kd.below
      (joined (length fs) (option_to_list u) (v ∷ []) ke.below lf.below)))))
      (λ items g.
      let ge = further lf.grows g in
      let gd = further le.grows ge in
      let gb = further ld.grows gd in
      rowed items (length front) (length fs) (item p q r u v) (p ∷ q ∷ r ∷ (option_to_list u ++ v ∷ [])) (has p q r u v)
      (rows.behind items (length front) (length cs) (length fs) (p ∷ []) (q ∷ r ∷ (option_to_list u ++ v ∷ []))
      (la.row items (further lb.grows gb))
      (rows.behind items (length cs) (length bs) (length fs) (q ∷ []) (r ∷ (option_to_list u ++ v ∷ [])) (lb.row items gb)
      (rows.behind items (length bs) (length ds) (length fs) (r ∷ []) (option_to_list u ++ v ∷ []) (ld.row items gd)
      (rows.behind items (length ds) (length es) (length fs) (option_to_list u) (v ∷ []) (le.row items ge) (lf.row items g))))))
      (λ items n g h. is (λ id. tree_at n items id) p q r u v
      ∙ agree (ka.reads items n g h) (kb.reads items n g h) (kd.reads items n g h) (ke.reads items n g h)
      (lf.reads items n g h))
    where
      agree : {x y z w o : Tree} → x ≡ a → y ≡ b → z ≡ d → w ≡ e → o ≡ f → make x y z w o ≡ make a b d e f
      agree {x} {y} {z} {w} {o} i j k l m =
          ap (λ (c : Tree). make c y z w o) i ∙ ap (λ (c : Tree). make a c z w o) j
          ∙ ap (λ (c : Tree). make a b c w o) k ∙ ap (λ (c : Tree). make a b d c o) l
          ∙ ap (λ (c : Tree). make a b d e c) m

-- ---- lists, and what may be left out

read_pushed : (at : NodeId → Tree) (a : Tree) (all : List NodeId) (id : NodeId)
    → list_behind at a (all ++ id ∷ []) ≡ t.More (list_behind at a all) (at id)
read_pushed at a [] id = refl
read_pushed at a (x ∷ all) id = read_pushed at (t.More a (at x)) all id

nothing : (s : Slot) (p : Ref s) → ids s p ≡ [] → ((at : NodeId → Tree) → look s at p ≡ t.Nothing)
    → (front : List Item) → Lies s t.Nothing front front p
nothing s p none is front = record {
  grows = same front;
  first = λ h. h;
  below = subst (λ (x : List NodeId). Below (length front) x) (sym none) (All-nil (λ id. id.0 < length front));
  row = λ items g. subst (λ (x : List NodeId). Row items (length front) (length front) x) (sym none) (NoMore (omega arith));
  reads = λ items n g le. is (λ id. tree_at n items id);
}

more : {a b : Tree} {front xs ys : List Item} {p : List NodeId} {q : NodeId} → Lies Many a front xs p
    → Lies One b xs ys q → Lies Many (t.More a b) front ys (p ++ q ∷ [])
more {a} {b} {front} {xs} {ys} {p} {q} l m =
    let k = before l m in
    record {
      grows = k.grows;
      first = k.first;
      below = joined (length ys) p (q ∷ []) k.below m.below;
      row = λ items g. rows.behind items (length front) (length xs) (length ys) p (q ∷ []) (l.row items (further m.grows g)) (m.row items g);
      reads = λ items n g le.
          read_pushed (λ id. tree_at n items id) t.Nothing p q
          ∙ ap (λ (x : Tree). t.More x (tree_at n items q)) (k.reads items n g le)
          ∙ ap (λ (x : Tree). t.More a x) (m.reads items n g le);
    }

just : {a : Tree} {front xs : List Item} {p : NodeId} → Lies One a front xs p → Lies Any (t.Just a) front xs (Some p)
just l = record {
  grows = l.grows;
  first = l.first;
  below = l.below;
  row = l.row;
  reads = λ items n g le.
      ap (λ (x : Tree). t.Just x) (l.reads items n g le);
}

-- ---- each tree

lies : (a : Tree) (s : Slot) → Fits s a → WellFormed a → (front : List Item) → LiesIn s a front (added a front)
lies t.Nothing Many f w front = nothing Many [] refl (λ at. refl) front
lies t.Nothing Any f w front = nothing Any None refl (λ at. refl) front
lies (t.More earlier next) Many f w front =
    let parts = and_parts _ _ f in
    more (lies earlier Many parts.0 w.0 front) (lies next One parts.1 w.1 (lay earlier front))
lies (t.Just a) Any f w front = just (lies a One f w front)
lies (t.Name place offset text) One f w front =
    leaf (t.Name place offset text) (kept.Name place offset text) refl (λ at. refl) front
lies (t.Numeral place text) One f w front =
    leaf (t.Numeral place text) (kept.Numeral place text) refl (λ at. refl) front
lies (t.Literal place text) One f w front =
    leaf (t.Literal place text) (kept.Literal place text) refl (λ at. refl) front
lies (t.Nil place) One f w front = leaf (t.Nil place) (kept.Expression place expressions.Nil) refl (λ at. refl) front
lies (t.False place) One f w front =
    leaf (t.False place) (kept.Expression place expressions.False) refl (λ at. refl) front
lies (t.True place) One f w front = leaf (t.True place) (kept.Expression place expressions.True) refl (λ at. refl) front
lies (t.Varargs place) One f w front =
    leaf (t.Varargs place) (kept.Expression place expressions.Varargs) refl (λ at. refl) front
lies (t.Function place a) One f w front =
    one One (t.Function place) (λ p. kept.Expression place (expressions.Function p)) (λ p. refl) (λ at p. refl)
    (lies a One (kind.body a w.0) w.1 front)
lies (t.Table place a) One f w front =
    one Many (t.Table place) (λ p. kept.Expression place (expressions.Table p)) (λ p. refl) (λ at p. refl)
    (lies a Many (kind.all kinds.is_field kind.field a w.0) w.1 front)
lies (t.Binary place op a b) One f w front =
    two One One (t.Binary place op) (λ p q. kept.Expression place (expressions.Binary op p q)) (λ p q. refl)
    (λ at p q. refl)
    (lies a One (kind.expression a w.0.0) w.0.1 front) (lies b One (kind.expression b w.1.0) w.1.1 (lay a front))
lies (t.Unary place op a) One f w front =
    one One (t.Unary place op) (λ p. kept.Expression place (expressions.Unary op p)) (λ p. refl) (λ at p. refl)
    (lies a One (kind.expression a w.0) w.1 front)
lies (t.Paren place a) One f w front =
    one One (t.Paren place) (λ p. kept.Expression place (expressions.Paren p)) (λ p. refl) (λ at p. refl)
    (lies a One (kind.expression a w.0) w.1 front)
lies (t.Index place a b) One f w front =
    two One One (t.Index place) (λ p q. kept.Expression place (expressions.Index p q)) (λ p q. refl) (λ at p q. refl)
    (lies a One (kind.expression a w.0.0) w.0.1 front) (lies b One (kind.expression b w.1.0) w.1.1 (lay a front))
lies (t.Select place a b) One f w front =
    two One One (t.Select place) (λ p q. kept.Expression place (expressions.Select p q)) (λ p q. refl) (λ at p q. refl)
    (lies a One (kind.expression a w.0.0) w.0.1 front) (lies b One (kind.name b w.1.0) w.1.1 (lay a front))
lies (t.Call place a b) One f w front =
    two One Many (t.Call place) (λ p q. kept.Expression place (expressions.Call p q)) (λ p q. refl) (λ at p q. refl)
    (lies a One (kind.expression a w.0.0) w.0.1 front)
    (lies b Many (kind.all kinds.is_expression kind.expression b w.1.0) w.1.1 (lay a front))
lies (t.Method place a b c) One f w front =
    three One One Many (t.Method place) (λ p q r. kept.Expression place (expressions.Method p q r)) (λ p q r. refl)
    (λ at p q r. refl)
    (lies a One (kind.expression a w.0.0) w.0.1 front) (lies b One (kind.name b w.1.0) w.1.1 (lay a front))
    (lies c Many (kind.all kinds.is_expression kind.expression c w.2.0) w.2.1 (lay b (lay a front)))
lies (t.TerraFunction place a) One f w front =
    one One (t.TerraFunction place) (λ p. kept.Expression place (expressions.Terra p)) (λ p. refl) (λ at p. refl)
    (lies a One (kind.terra_body a w.0) w.1 front)
lies (t.Struct place a) One f w front =
    one Many (t.Struct place) (λ p. kept.Expression place (expressions.Struct p)) (λ p. refl) (λ at p. refl)
    (lies a Many (kind.all kinds.is_entry kind.entry a w.0) w.1 front)
lies (t.Quote place a) One f w front =
    one One (t.Quote place) (λ p. kept.Expression place (expressions.Quote p)) (λ p. refl) (λ at p. refl)
    (lies a One (kind.quoted a w.0) w.1 front)
lies (t.Backtick place a) One f w front =
    one One (t.Backtick place) (λ p. kept.Expression place (expressions.Backtick p)) (λ p. refl) (λ at p. refl)
    (lies a One (kind.terra_expression a w.0) w.1 front)
lies (t.Assign place a b) One f w front =
    two Many Many (t.Assign place) (λ p q. kept.Statement place (statements.Assign p q)) (λ p q. refl) (λ at p q. refl)
    (lies a Many (kind.all kinds.is_target kind.target a w.0.0) w.0.1 front)
    (lies b Many (kind.all kinds.is_expression kind.expression b w.1.0) w.1.1 (lay a front))
lies (t.CallStatement place a) One f w front =
    one One (t.CallStatement place) (λ p. kept.Statement place (statements.Call p)) (λ p. refl) (λ at p. refl)
    (lies a One (kind.call a w.0) w.1 front)
lies (t.Do place a) One f w front =
    one One (t.Do place) (λ p. kept.Statement place (statements.Do p)) (λ p. refl) (λ at p. refl)
    (lies a One (kind.block a w.0) w.1 front)
lies (t.While place a b) One f w front =
    two One One (t.While place) (λ p q. kept.Statement place (statements.While p q)) (λ p q. refl) (λ at p q. refl)
    (lies a One (kind.expression a w.0.0) w.0.1 front) (lies b One (kind.block b w.1.0) w.1.1 (lay a front))
lies (t.Repeat place a b) One f w front =
    two One One (t.Repeat place) (λ p q. kept.Statement place (statements.Repeat p q)) (λ p q. refl) (λ at p q. refl)
    (lies a One (kind.block a w.0.0) w.0.1 front) (lies b One (kind.expression b w.1.0) w.1.1 (lay a front))
lies (t.If place a b) One f w front =
    two Many Any (t.If place) (λ p q. kept.Statement place (statements.If p q)) (λ p q. refl) (λ at p q. refl)
    (lies a Many (kind.all kinds.is_arm kind.arm a w.0.0) w.0.1 front)
    (lies b Any (kind.if_any kinds.is_block kind.block b w.1.0) w.1.1 (lay a front))
lies (t.NumericFor place a b c d e) One f w front =
    loop (t.NumericFor place) (λ p q r u v. kept.Statement place (statements.NumericFor p q r u v)) (λ p q r u v. refl)
    (λ at p q r u v. refl)
    (lies a One (kind.name a w.0.0) w.0.1 front) (lies b One (kind.expression b w.1.0) w.1.1 (lay a front))
    (lies c One (kind.expression c w.2.0) w.2.1 (lay b (lay a front)))
    (lies d Any (kind.if_any kinds.is_expression kind.expression d w.3.0) w.3.1 (lay c (lay b (lay a front))))
    (lies e One (kind.block e w.4.0) w.4.1 (lay d (lay c (lay b (lay a front)))))
lies (t.GenericFor place a b c) One f w front =
    three Many Many One (t.GenericFor place) (λ p q r. kept.Statement place (statements.GenericFor p q r))
    (λ p q r. refl) (λ at p q r. refl)
    (lies a Many (kind.all kinds.is_name kind.name a w.0.0) w.0.1 front)
    (lies b Many (kind.all kinds.is_expression kind.expression b w.1.0) w.1.1 (lay a front))
    (lies c One (kind.block c w.2.0) w.2.1 (lay b (lay a front)))
lies (t.DefineFunction place a b) One f w front =
    two One One (t.DefineFunction place) (λ p q. kept.Statement place (statements.Function p q)) (λ p q. refl)
    (λ at p q. refl)
    (lies a One (kind.path a w.0.0) w.0.1 front) (lies b One (kind.body b w.1.0) w.1.1 (lay a front))
lies (t.LocalFunction place a b) One f w front =
    two One One (t.LocalFunction place) (λ p q. kept.Statement place (statements.LocalFunction p q)) (λ p q. refl)
    (λ at p q. refl)
    (lies a One (kind.name a w.0.0) w.0.1 front) (lies b One (kind.body b w.1.0) w.1.1 (lay a front))
lies (t.Local place a b) One f w front =
    two Many Many (t.Local place) (λ p q. kept.Statement place (statements.Local p q)) (λ p q. refl) (λ at p q. refl)
    (lies a Many (kind.all kinds.is_name kind.name a w.0.0) w.0.1 front)
    (lies b Many (kind.all kinds.is_expression kind.expression b w.1.0) w.1.1 (lay a front))
lies (t.DefineTerra place a b) One f w front =
    two One One (t.DefineTerra place) (λ p q. kept.Statement place (statements.Terra p q)) (λ p q. refl)
    (λ at p q. refl)
    (lies a One (kind.path a w.0.0) w.0.1 front) (lies b One (kind.terra_body b w.1.0) w.1.1 (lay a front))
lies (t.DeclareTerra place a b) One f w front =
    two One One (t.DeclareTerra place) (λ p q. kept.Statement place (statements.DeclareTerra p q)) (λ p q. refl)
    (λ at p q. refl)
    (lies a One (kind.path a w.0.0) w.0.1 front) (lies b One (kind.expression b w.1.0) w.1.1 (lay a front))
lies (t.LocalTerra place word a b) One f w front =
    two One One (t.LocalTerra place word) (λ p q. kept.Statement place (statements.LocalTerra word p q)) (λ p q. refl)
    (λ at p q. refl)
    (lies a One (kind.name a w.0.0) w.0.1 front) (lies b One (kind.terra_body b w.1.0) w.1.1 (lay a front))
lies (t.LocalDeclareTerra place word a b) One f w front =
    two One One (t.LocalDeclareTerra place word) (λ p q. kept.Statement place (statements.LocalDeclareTerra word p q))
    (λ p q. refl) (λ at p q. refl)
    (lies a One (kind.name a w.0.0) w.0.1 front) (lies b One (kind.expression b w.1.0) w.1.1 (lay a front))
lies (t.DefineStruct place a b) One f w front =
    two One Many (t.DefineStruct place) (λ p q. kept.Statement place (statements.Struct p q)) (λ p q. refl)
    (λ at p q. refl)
    (lies a One (kind.path a w.0.0) w.0.1 front)
    (lies b Many (kind.all kinds.is_entry kind.entry b w.1.0) w.1.1 (lay a front))
lies (t.LocalStruct place word a b) One f w front =
    two One Many (t.LocalStruct place word) (λ p q. kept.Statement place (statements.LocalStruct word p q))
    (λ p q. refl) (λ at p q. refl)
    (lies a One (kind.name a w.0.0) w.0.1 front)
    (lies b Many (kind.all kinds.is_entry kind.entry b w.1.0) w.1.1 (lay a front))
lies (t.Emit place a) One f w front =
    one One (t.Emit place) (λ p. kept.Statement place (statements.Emit p)) (λ p. refl) (λ at p. refl)
    (lies a One (kind.expression a w.0) w.1 front)
lies (t.Return place a) One f w front =
    one Many (t.Return place) (λ p. kept.Statement place (statements.Return p)) (λ p. refl) (λ at p. refl)
    (lies a Many (kind.all kinds.is_expression kind.expression a w.0) w.1 front)
lies (t.Break place) One f w front =
    leaf (t.Break place) (kept.Statement place statements.Break) refl (λ at. refl) front
lies (t.TerraNil place) One f w front =
    leaf (t.TerraNil place) (kept.TerraExpression place terra_expressions.Nil) refl (λ at. refl) front
lies (t.TerraFalse place) One f w front =
    leaf (t.TerraFalse place) (kept.TerraExpression place terra_expressions.False) refl (λ at. refl) front
lies (t.TerraTrue place) One f w front =
    leaf (t.TerraTrue place) (kept.TerraExpression place terra_expressions.True) refl (λ at. refl) front
lies (t.TerraBinary place op a b) One f w front =
    two One One (t.TerraBinary place op) (λ p q. kept.TerraExpression place (terra_expressions.Binary op p q))
    (λ p q. refl) (λ at p q. refl)
    (lies a One (kind.terra_expression a w.0.0) w.0.1 front)
    (lies b One (kind.terra_expression b w.1.0) w.1.1 (lay a front))
lies (t.TerraUnary place op a) One f w front =
    one One (t.TerraUnary place op) (λ p. kept.TerraExpression place (terra_expressions.Unary op p)) (λ p. refl)
    (λ at p. refl)
    (lies a One (kind.terra_expression a w.0) w.1 front)
lies (t.TerraParen place a) One f w front =
    one One (t.TerraParen place) (λ p. kept.TerraExpression place (terra_expressions.Paren p)) (λ p. refl)
    (λ at p. refl)
    (lies a One (kind.terra_expression a w.0) w.1 front)
lies (t.Escape place a) One f w front =
    one One (t.Escape place) (λ p. kept.TerraExpression place (terra_expressions.Escape p)) (λ p. refl) (λ at p. refl)
    (lies a One (kind.expression a w.0) w.1 front)
lies (t.TerraIndex place a b) One f w front =
    two One One (t.TerraIndex place) (λ p q. kept.TerraExpression place (terra_expressions.Index p q)) (λ p q. refl)
    (λ at p q. refl)
    (lies a One (kind.terra_expression a w.0.0) w.0.1 front)
    (lies b One (kind.terra_expression b w.1.0) w.1.1 (lay a front))
lies (t.TerraSelect place a b) One f w front =
    two One One (t.TerraSelect place) (λ p q. kept.TerraExpression place (terra_expressions.Select p q)) (λ p q. refl)
    (λ at p q. refl)
    (lies a One (kind.terra_expression a w.0.0) w.0.1 front) (lies b One (kind.terra_name b w.1.0) w.1.1 (lay a front))
lies (t.TerraCall place a b) One f w front =
    two One Many (t.TerraCall place) (λ p q. kept.TerraExpression place (terra_expressions.Call p q)) (λ p q. refl)
    (λ at p q. refl)
    (lies a One (kind.terra_expression a w.0.0) w.0.1 front)
    (lies b Many (kind.all kinds.is_terra_expression kind.terra_expression b w.1.0) w.1.1 (lay a front))
lies (t.TerraMethod place a b c) One f w front =
    three One One Many (t.TerraMethod place) (λ p q r. kept.TerraExpression place (terra_expressions.Method p q r))
    (λ p q r. refl) (λ at p q r. refl)
    (lies a One (kind.terra_expression a w.0.0) w.0.1 front) (lies b One (kind.terra_name b w.1.0) w.1.1 (lay a front))
    (lies c Many (kind.all kinds.is_terra_expression kind.terra_expression c w.2.0) w.2.1 (lay b (lay a front)))
lies (t.Construct place a b) One f w front =
    two One Many (t.Construct place) (λ p q. kept.TerraExpression place (terra_expressions.Construct p q))
    (λ p q. refl) (λ at p q. refl)
    (lies a One (kind.terra_expression a w.0.0) w.0.1 front)
    (lies b Many (kind.all kinds.is_initialiser kind.initialiser b w.1.0) w.1.1 (lay a front))
lies (t.TerraAssign place a b) One f w front =
    two Many Many (t.TerraAssign place) (λ p q. kept.TerraStatement place (terra_statements.Assign p q)) (λ p q. refl)
    (λ at p q. refl)
    (lies a Many (kind.terra_targets a w.0.0) w.0.1 front)
    (lies b Many (kind.all kinds.is_terra_expression kind.terra_expression b w.1.0) w.1.1 (lay a front))
lies (t.TerraCallStatement place a) One f w front =
    one One (t.TerraCallStatement place) (λ p. kept.TerraStatement place (terra_statements.Call p)) (λ p. refl) (λ at p. refl)
    (lies a One (kind.terra_call a w.0) w.1 front)
lies (t.Splice place a) One f w front =
    one One (t.Splice place) (λ p. kept.TerraStatement place (terra_statements.Splice p)) (λ p. refl) (λ at p. refl)
    (lies a One (kind.escape a w.0) w.1 front)
lies (t.TerraDo place a) One f w front =
    one One (t.TerraDo place) (λ p. kept.TerraStatement place (terra_statements.Do p)) (λ p. refl) (λ at p. refl)
    (lies a One (kind.terra_block a w.0) w.1 front)
lies (t.TerraWhile place a b) One f w front =
    two One One (t.TerraWhile place) (λ p q. kept.TerraStatement place (terra_statements.While p q)) (λ p q. refl)
    (λ at p q. refl)
    (lies a One (kind.terra_expression a w.0.0) w.0.1 front) (lies b One (kind.terra_block b w.1.0) w.1.1 (lay a front))
lies (t.TerraRepeat place a b) One f w front =
    two One One (t.TerraRepeat place) (λ p q. kept.TerraStatement place (terra_statements.Repeat p q)) (λ p q. refl)
    (λ at p q. refl)
    (lies a One (kind.terra_block a w.0.0) w.0.1 front) (lies b One (kind.terra_expression b w.1.0) w.1.1 (lay a front))
lies (t.TerraIf place a b) One f w front =
    two Many Any (t.TerraIf place) (λ p q. kept.TerraStatement place (terra_statements.If p q)) (λ p q. refl)
    (λ at p q. refl)
    (lies a Many (kind.all kinds.is_terra_arm kind.terra_arm a w.0.0) w.0.1 front)
    (lies b Any (kind.if_any kinds.is_terra_block kind.terra_block b w.1.0) w.1.1 (lay a front))
lies (t.TerraFor place a b c d e) One f w front =
    loop (t.TerraFor place) (λ p q r u v. kept.TerraStatement place (terra_statements.For p q r u v))
    (λ p q r u v. refl) (λ at p q r u v. refl)
    (lies a One (kind.terra_name a w.0.0) w.0.1 front) (lies b One (kind.terra_expression b w.1.0) w.1.1 (lay a front))
    (lies c One (kind.terra_expression c w.2.0) w.2.1 (lay b (lay a front)))
    (lies d Any (kind.if_any kinds.is_terra_expression kind.terra_expression d w.3.0) w.3.1
    (lay c (lay b (lay a front))))
    (lies e One (kind.terra_block e w.4.0) w.4.1 (lay d (lay c (lay b (lay a front)))))
lies (t.Var place a b) One f w front =
    two Many Many (t.Var place) (λ p q. kept.TerraStatement place (terra_statements.Var p q)) (λ p q. refl)
    (λ at p q. refl)
    (lies a Many (kind.all kinds.is_variable kind.variable a w.0.0) w.0.1 front)
    (lies b Many (kind.all kinds.is_terra_expression kind.terra_expression b w.1.0) w.1.1 (lay a front))
lies (t.EscapeBlock place a) One f w front =
    one One (t.EscapeBlock place) (λ p. kept.TerraStatement place (terra_statements.Escape p)) (λ p. refl)
    (λ at p. refl)
    (lies a One (kind.block a w.0) w.1 front)
lies (t.TerraReturn place a) One f w front =
    one Many (t.TerraReturn place) (λ p. kept.TerraStatement place (terra_statements.Return p)) (λ p. refl)
    (λ at p. refl)
    (lies a Many (kind.all kinds.is_terra_expression kind.terra_expression a w.0) w.1 front)
lies (t.TerraBreak place) One f w front =
    leaf (t.TerraBreak place) (kept.TerraStatement place terra_statements.Break) refl (λ at. refl) front
lies (t.Block a) One f w front =
    one Many t.Block (λ p. kept.Piece (pieces.Block p)) (λ p. refl) (λ at p. refl)
    (lies a Many f w front)
lies (t.Arm a b) One f w front =
    let parts = and_parts _ _ f in two One One t.Arm (λ p q. kept.Piece (pieces.Arm p q)) (λ p q. refl) (λ at p q. refl)
    (lies a One parts.0 w.0 front) (lies b One parts.1 w.1 (lay a front))
lies (t.Body a flag b) One f w front =
    let parts = and_parts _ _ f in
    two Many One (λ a b. t.Body a flag b) (λ p q. kept.Piece (pieces.Body p flag q)) (λ p q. refl) (λ at p q. refl)
    (lies a Many parts.0 w.0 front) (lies b One parts.1 w.1 (lay a front))
lies (t.Path a b) One f w front =
    let parts = and_parts _ _ f in
    two Many Any t.Path (λ p q. kept.Piece (pieces.Path p q)) (λ p q. refl) (λ at p q. refl)
    (lies a Many parts.0 w.0 front) (lies b Any parts.1 w.1 (lay a front))
lies (t.NamedField a b) One f w front =
    let parts = and_parts _ _ f in
    two One One t.NamedField (λ p q. kept.Piece (pieces.NamedField p q)) (λ p q. refl) (λ at p q. refl)
    (lies a One parts.0 w.0 front) (lies b One parts.1 w.1 (lay a front))
lies (t.KeyedField a b) One f w front =
    let parts = and_parts _ _ f in
    two One One t.KeyedField (λ p q. kept.Piece (pieces.KeyedField p q)) (λ p q. refl) (λ at p q. refl)
    (lies a One parts.0 w.0 front) (lies b One parts.1 w.1 (lay a front))
lies (t.Entry a b) One f w front =
    let parts = and_parts _ _ f in
    two One One t.Entry (λ p q. kept.Piece (pieces.Entry p q)) (λ p q. refl) (λ at p q. refl)
    (lies a One parts.0 w.0 front) (lies b One parts.1 w.1 (lay a front))
lies (t.Quoted a b) One f w front =
    two One Any t.Quoted (λ p q. kept.Piece (pieces.Quoted p q)) (λ p q. refl) (λ at p q. refl)
    (lies a One (kind.terra_block a w.0.0) w.0.1 front)
    (lies b Any (kind.if_any kinds.is_terra_expression kind.terra_expression b w.1.0) w.1.1 (lay a front))
lies (t.TerraBody place a b c) One f w front =
    three Many Any One (t.TerraBody place) (λ p q r. kept.Piece (pieces.TerraBody place p q r)) (λ p q r. refl)
    (λ at p q r. refl)
    (lies a Many (kind.all kinds.is_parameter kind.parameter a w.0.0) w.0.1 front)
    (lies b Any (kind.if_any kinds.is_expression kind.expression b w.1.0) w.1.1 (lay a front))
    (lies c One (kind.terra_block c w.2.0) w.2.1 (lay b (lay a front)))
lies (t.Parameter place a b) One f w front =
    two One One (t.Parameter place) (λ p q. kept.Piece (pieces.Parameter place p q)) (λ p q. refl) (λ at p q. refl)
    (lies a One (kind.name a w.0.0) w.0.1 front) (lies b One (kind.expression b w.1.0) w.1.1 (lay a front))
lies (t.SpliceParameter place a) One f w front =
    one One (t.SpliceParameter place) (λ p. kept.Piece (pieces.SpliceParameter place p)) (λ p. refl) (λ at p. refl)
    (lies a One (kind.escape a w.0) w.1 front)
lies (t.Variable place a b) One f w front =
    two One Any (t.Variable place) (λ p q. kept.Piece (pieces.Variable place p q)) (λ p q. refl) (λ at p q. refl)
    (lies a One (kind.terra_name a w.0.0) w.0.1 front)
    (lies b Any (kind.if_any kinds.is_expression kind.expression b w.1.0) w.1.1 (lay a front))
lies _ _ f w front = absurd (false≢true f)

-- ---- the laws

well_laid : (a : Tree) → IsWellFormedBlock a → LiesIn One a [] (added a [])
well_laid a h = lies a One (kind.block a h.0) h.1 []

no_children : HasChildrenFirst []
no_children id = All-nil (λ child. child.0 < id.0)

pub lays_children_first : LaysChildrenFirst
lays_children_first a h = (well_laid a h).first no_children

-- the root and what is below it are in a row
pub root_rowed : (a : Tree) → IsWellFormedBlock a → Row (lay a []) 0 (length (lay a [])) (last_of (lay a []) ∷ [])
root_rowed a h = (well_laid a h).row (lay a []) (same (lay a []))

-- the tree that stands at the last number is the tree
pub reads_back : (a : Tree) → IsWellFormedBlock a → (items : List Item) (n : ℕ) → items ≡ lay a [] → length items ≤ n
    → tree_at n items (last_of items) ≡ a
reads_back a h items n e le =
    ap (λ (xs : List Item). tree_at n xs (last_of xs)) e
    ∙ (well_laid a h).reads (lay a []) n (same (lay a [])) (omega (arith, le, ap (λ (xs : List Item). length xs) e))

pub is_laid_out_apart : IsLaidOutApart
is_laid_out_apart a b h k e =
    sym (reads_back a h (lay a []) (length (lay a [])) refl (omega arith))
    ∙ reads_back b k (lay a []) (length (lay a [])) e (omega arith)
