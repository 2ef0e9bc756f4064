-- The nodes that a tree lays out are an interval of numbers, in which what is below its children is one interval after the other, each with
-- the child as its last. So each node is the child of one node, and once.
use Rattle.std.proofs.Common.{◌≡◌, ℕ, suc, ◌+◌, ◌<◌, ◌≤◌, Bool, true, false, eqb, List, [], ◌∷◌, ◌++◌, length, ◌⊎◌, inl, inr, sym, ap, subst}
use Rattle.std.proofs.Common.{◌∙◌, arith}
use Rattle.std.proofs.lemmas.Bool.{cases_lt}
use Rattle.std.proofs.lemmas.Bool.Decides.{eqb_tells}
use Rattle.std.proofs.lemmas.List.{get_or_past}
use Rattle.tl_base.specs.declared.ids.NodeId.{NodeId}
use Rattle.tl_tree.specs.Item.{Item}
use Rattle.tl_tree.specs.Nodes.{item_at, last_of, absent_item}
use Rattle.tl_tree.specs.Children.{children_of}

-- From one number on and below another: what is below the first node, this node, what is below the next, and so on, with none left out.
pub data Full (items : List Item) : ℕ → ℕ → List NodeId → Type 0 where
  NoMore : {a b : ℕ} → a ≡ b → Full items a b []
  Next : {a b : ℕ} {n : NodeId} {ns : List NodeId} → Full items a n.0 (children_of (item_at items n)) → Full items (suc n.0) b ns
      → Full items a b (n ∷ ns)

-- what is below a node
abbrev pub Below : List Item → ℕ → NodeId → Type 0
Below items a n = Full items a n.0 (children_of (item_at items n))

pub ordered : (items : List Item) (a b : ℕ) (ns : List NodeId) → Full items a b ns → a ≤ b
ordered items a b [] (NoMore e) = omega (arith, e)
ordered items a b (n ∷ ns) (Next below more) =
    omega (arith, ordered items a n.0 (children_of (item_at items n)) below, ordered items (suc n.0) b ns more)

pub behind : (items : List Item) (a b c : ℕ) (ns ms : List NodeId) → Full items a b ns → Full items b c ms → Full items a c (ns ++ ms)
behind items a b c [] ms (NoMore e) more = subst (λ k. Full items k c ms) (sym e) more
behind items a b c (n ∷ ns) ms (Next below rest) more = Next below (behind items (suc n.0) b c ns ms rest more)

-- ---- each node in the interval

-- what is below a node begins at this number or behind it
pub record Inside (items : List Item) (a : ℕ) (m : NodeId) : Type 0 where
  pub begins : ℕ
  pub is_behind : a ≤ begins
  pub below : Below items begins m

further_in : (items : List Item) (a b : ℕ) (m : NodeId) → a ≤ b → Inside items b m → Inside items a m
further_in items a b m le i = record { begins = i.begins; is_behind = omega (arith, le, i.is_behind); below = i.below }

pub inside : (items : List Item) (a b : ℕ) (ns : List NodeId) → Full items a b ns → (m : NodeId) → a ≤ m.0 → m.0 < b → Inside items a m
inside items a b [] (NoMore e) m low high = absurd (omega (arith, e, low, high))
inside items a b (n ∷ ns) (Next below more) m low high = elim (cases_lt m.0 n.0) as (λ _. Inside items a m) [
  | inl front ↦ inside items a n.0 (children_of (item_at items n)) below m low front
  | inr le ↦ elim (cases_lt n.0 m.0) as (λ _. Inside items a m) [
    | inl gt ↦ further_in items a (suc n.0) m (omega (arith, ordered items a n.0 (children_of (item_at items n)) below))
        (inside items (suc n.0) b ns more m (omega (arith, gt)) high)
    | inr ge ↦
        let e : n.0 ≡ m.0 = omega (arith, le, ge) in
        subst (λ (k : ℕ). Inside items a (record { 0 = k })) e (record { begins = a; is_behind = omega arith; below = below })
  ]
]

-- ---- how often a node is in a list

abbrev one_if : Bool → ℕ
one_if true = 1
one_if false = 0

abbrev pub how_often : NodeId → List NodeId → ℕ
how_often c [] = 0
how_often c (n ∷ ns) = one_if (eqb n.0 c.0) + how_often c ns

abbrev pub Has : NodeId → List NodeId → Type 0
Has c ns = 1 ≤ how_often c ns

-- the first, or one of the others
abbrev IsFirstOr : NodeId → NodeId → List NodeId → Type 0
IsFirstOr c n ns = ((n.0 ≡ c.0) × (how_often c (n ∷ ns) ≡ 1 + how_often c ns)) ⊎ (how_often c (n ∷ ns) ≡ how_often c ns)

first_or : (c n : NodeId) (ns : List NodeId) → IsFirstOr c n ns
first_or c n ns = elim (eqb_tells n.0 c.0) as (λ _. IsFirstOr c n ns) [
  | inl h ↦ inl (h.1, ap (λ b. one_if b + how_often c ns) h.0)
  | inr h ↦ inr (ap (λ b. one_if b + how_often c ns) h.0 ∙ omega arith)
]

pub often_append : (c : NodeId) (ns ms : List NodeId) → how_often c (ns ++ ms) ≡ how_often c ns + how_often c ms
often_append c [] ms = omega arith
often_append c (n ∷ ns) ms = omega (arith, often_append c ns ms)

-- it is in the interval of the list
pub in_range : (items : List Item) (a b : ℕ) (ns : List NodeId) (c : NodeId) → Full items a b ns → Has c ns → (a ≤ c.0) × (c.0 < b)
in_range items a b [] c (NoMore e) h = absurd (omega (arith, h))
in_range items a b (n ∷ ns) c (Next below more) h =
    let low = ordered items a n.0 (children_of (item_at items n)) below in
    let high = ordered items (suc n.0) b ns more in
    elim (first_or c n ns) as (λ _. (a ≤ c.0) × (c.0 < b)) [
      | inl at ↦ (omega (arith, at.0, low), omega (arith, at.0, high))
      | inr e ↦ let r = in_range items (suc n.0) b ns c more (omega (arith, e, h)) in (omega (arith, low, r.0), r.1)
    ]

-- and in the list once
pub once : (items : List Item) (a b : ℕ) (ns : List NodeId) (c : NodeId) → Full items a b ns → how_often c ns ≤ 1
once items a b [] c (NoMore e) = omega arith
once items a b (n ∷ ns) c (Next below more) = elim (first_or c n ns) as (λ _. how_often c (n ∷ ns) ≤ 1) [
  | inl at ↦ elim (cases_lt 0 (how_often c ns)) as (λ _. how_often c (n ∷ ns) ≤ 1) [
    | inl also ↦ absurd (omega (arith, at.0, (in_range items (suc n.0) b ns c more (omega (arith, also))).0))
    | inr none ↦ omega (arith, at.1, none)
  ]
  | inr e ↦ omega (arith, e, once items (suc n.0) b ns c more)
]

-- what stands behind it in the list
abbrev Behind : List Item → ℕ → NodeId → Type 0
Behind items b c = (ms : List NodeId) × Full items (suc c.0) b ms

after : (items : List Item) (a b : ℕ) (ns : List NodeId) (c : NodeId) → Full items a b ns → Has c ns → Behind items b c
after items a b [] c (NoMore e) h = absurd (omega (arith, h))
after items a b (n ∷ ns) c (Next below more) h = elim (first_or c n ns) as (λ _. Behind items b c) [
  | inl at ↦ (ns, subst (λ k. Full items (suc k) b ns) at.0 more)
  | inr e ↦ after items (suc n.0) b ns c more (omega (arith, e, h))
]

-- ---- one parent

abbrev pub Whole : List Item → Type 0
Whole items = Full items 0 (length items) (last_of items ∷ [])

-- what is below the root is all but the root
pub root_is_last : (items : List Item) → Whole items → suc (last_of items).0 ≡ length items
root_is_last items (Next below (NoMore e)) = e

pub own : (items : List Item) → Whole items → (m : NodeId) → m.0 < length items → Inside items 0 m
own items whole m lt = inside items 0 (length items) (last_of items ∷ []) whole m (omega arith) lt

abbrev HasChild : List Item → NodeId → NodeId → Type 0
HasChild items m c = Has c (children_of (item_at items m))

-- only a node has children
pub has_number : (items : List Item) (m c : NodeId) → HasChild items m c → m.0 < length items
has_number items m c h = elim (cases_lt m.0 (length items)) as (λ _. m.0 < length items) [
  | inl lt ↦ lt
  | inr le ↦ absurd (nothing (subst (λ (i : Item). Has c (children_of i)) (get_or_past items m.0 absent_item le) h))
]
  where
    nothing : Has c [] → ⊥
    nothing k = omega (arith, k)

pub is_before : (items : List Item) → Whole items → (m c : NodeId) → HasChild items m c → c.0 < m.0
is_before items whole m c h =
    let mine = own items whole m (has_number items m c h) in
    (in_range items mine.begins m.0 (children_of (item_at items m)) c mine.below h).1

-- no later node has it too
not_later : (items : List Item) → Whole items → (m o c : NodeId) → HasChild items m c → HasChild items o c → m.0 < o.0 → ⊥
not_later items whole m o c h k lt =
    let of = own items whole o (has_number items o c k) in
    let rest = after items of.begins o.0 (children_of (item_at items o)) c of.below k in
    let mine = inside items (suc c.0) o.0 rest.0 rest.1 m (omega (arith, is_before items whole m c h)) lt in
    let at = in_range items mine.begins m.0 (children_of (item_at items m)) c mine.below h in
    omega (arith, at.0, mine.is_behind)

pub one_parent : (items : List Item) → Whole items → (m o c : NodeId) → HasChild items m c → HasChild items o c → m.0 ≡ o.0
one_parent items whole m o c h k = elim (cases_lt m.0 o.0) as (λ _. m.0 ≡ o.0) [
  | inl lt ↦ absurd (not_later items whole m o c h k lt)
  | inr le ↦ elim (cases_lt o.0 m.0) as (λ _. m.0 ≡ o.0) [
    | inl gt ↦ absurd (not_later items whole o m c k h gt)
    | inr ge ↦ omega (arith, le, ge)
  ]
]

-- and each has it once
pub once_a_child : (items : List Item) → Whole items → (m c : NodeId) → m.0 < length items → how_often c (children_of (item_at items m)) ≤ 1
once_a_child items whole m c lt =
    let mine = own items whole m lt in
    once items mine.begins m.0 (children_of (item_at items m)) c mine.below
