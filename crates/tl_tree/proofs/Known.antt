-- In a tree that is laid out each node is given where it stands once, so that what it was given stays: when a node gives its parts, none of
-- the nodes below it has been given anything, and its parts stand in a row.
use Rattle.std.specs.Prelude.{◌≡◌, ℕ, zero, suc, ◌<◌, ◌≤◌, Bool, true, false, ltb, eqb, List, [], ◌∷◌, ◌++◌, length, replicate, Option}
use Rattle.std.specs.Prelude.{Some, None, if◌then◌else◌, slice_set, nat_lt, ◌⊎◌}
use Rattle.std.proofs.Common.{refl, sym, subst, ◌∙◌, arith, inl, inr}
use Rattle.std.proofs.lemmas.Bool.{ltb-true, ltb-false, eqb-true, eqb-false, cases_lt}
use Rattle.std.proofs.lemmas.List.{get_or-set_same, get_or-set_other, length-set, length-replicate}
use Rattle.std.proofs.lemmas.Option.{none-some}
use Rattle.tl_base.specs.declared.ids.NodeId.{NodeId}
use Rattle.tl_tree.specs.Nodes.{item_at, last_of, lay}
use Rattle.tl_tree.specs.Code.{Items}
use Rattle.tl_tree.specs.Children.{children_of}
use Rattle.tl_tree.specs.declared.scope.Scope.{Scope}
use Rattle.tl_tree.specs.Scopes.{Part, Standing, scope_in, scope_at, give, give_below, parts, parts_if_any, standing_at_first, standing_of}
use Rattle.tl_tree.specs.Scopes.{outermost}
use Rattle.tl_tree.specs.ScopeLaws.{Stands, AtRoot, InNode, KnowsWhereNodesStand, FindsBindersOfText}
use Rattle.tl_tree.proofs.Rows.{Row, Next, Begins, ordered}
use Rattle.tl_tree.proofs.PartsInRows.{nodes_of, parts_rowed}
use Rattle.tl_tree.proofs.Standings.{Each, give_length, standing_length, short}
use Rattle.tl_tree.proofs.Laying.{root_rowed}
use Rattle.tl_tree.proofs.Searching.{binder_finds}
use Rattle.tl_tree.proofs.WellFormedTrees.{well_formed_trees}

-- nothing is known of the nodes from one number on and below another
abbrev Free : Standing → ℕ → ℕ → Type 0
Free standing a b = (x : ℕ) → a ≤ x → x < b → scope_in standing x ≡ None

-- nothing is known of what is below a node
abbrev FreeBelow : Items → Standing → ℕ → Type 0
FreeBelow items standing n = (l : ℕ) × Begins items l (record { 0 = n }) × Free standing l n

-- nor of what is below any of the first nodes of which it is known where they stand
abbrev Clear : Items → ℕ → Standing → Type 0
Clear items k standing = (n : ℕ) (scope : Scope) → n < k → scope_in standing n ≡ Some scope → FreeBelow items standing n

-- ---- one write

abbrev given : ℕ → Standing → Part → Standing
given limit standing part = if nat_lt part.node.0 limit then slice_set standing part.node.0 (Some part.scope) else standing

given_other_by : (limit : ℕ) (standing : Standing) (part : Part) (x : ℕ) (b : Bool) → ltb part.node.0 limit ≡ b → (part.node.0 < limit → (x ≡ part.node.0) → ⊥)
    → scope_in (if b then slice_set standing part.node.0 (Some part.scope) else standing) x ≡ scope_in standing x
given_other_by limit standing part x true e h = get_or-set_other standing part.node.0 x (Some part.scope) None (h (ltb-true part.node.0 limit e))
given_other_by limit standing part x false e h = refl

given_other : (limit : ℕ) (standing : Standing) (part : Part) (x : ℕ) → (part.node.0 < limit → (x ≡ part.node.0) → ⊥)
    → scope_in (given limit standing part) x ≡ scope_in standing x
given_other limit standing part x h = given_other_by limit standing part x (ltb part.node.0 limit) refl h

given_same_by : (limit : ℕ) (standing : Standing) (part : Part) (b : Bool) → ltb part.node.0 limit ≡ b → part.node.0 < limit → part.node.0 < length standing
    → scope_in (if b then slice_set standing part.node.0 (Some part.scope) else standing) part.node.0 ≡ Some part.scope
given_same_by limit standing part true e lt short = get_or-set_same standing part.node.0 (Some part.scope) None short
given_same_by limit standing part false e lt short = absurd (omega (arith, lt, ltb-false part.node.0 limit e))

given_same : (limit : ℕ) (standing : Standing) (part : Part) → part.node.0 < limit → part.node.0 < length standing
    → scope_in (given limit standing part) part.node.0 ≡ Some part.scope
given_same limit standing part lt short = given_same_by limit standing part (ltb part.node.0 limit) refl lt short

given_length : (limit : ℕ) (standing : Standing) (part : Part) → length (given limit standing part) ≡ length standing
given_length limit standing part = give_length limit standing (part ∷ [])

-- ---- parts in a row

-- nodes in front of the row keep what is known of them, and so do those from the limit on
kept_in_front : (items : Items) (a k : ℕ) (standing : Standing) (ps : List Part) (x : ℕ) → x < a → Row items a k (nodes_of ps)
    → scope_in (give k standing ps) x ≡ scope_in standing x
kept_in_front items a k standing [] x lt r = refl
kept_in_front items a k standing (p ∷ ps) x lt (Next {l = l} le below more) =
    let first = ordered items l p.node.0 (children_of (item_at items p.node)) below in
    kept_in_front items (suc p.node.0) k (given k standing p) ps x (omega (arith, lt, le, first)) more
    ∙ given_other k standing p x (λ under e. omega (arith, lt, le, first, e))

kept_behind : (k : ℕ) (standing : Standing) (ps : List Part) (x : ℕ) → k ≤ x → scope_in (give k standing ps) x ≡ scope_in standing x
kept_behind k standing [] x le = refl
kept_behind k standing (p ∷ ps) x le =
    kept_behind k (given k standing p) ps x le ∙ given_other k standing p x (λ under e. omega (arith, le, under, e))

all_given : (items : Items) (a k : ℕ) (standing : Standing) (ps : List Part) → k ≤ length standing → Row items a k (nodes_of ps)
    → Each (λ p. scope_in (give k standing ps) p.node.0 ≡ Some p.scope) ps
all_given items a k standing [] le r = tt
all_given items a k standing (p ∷ ps) le (Next {l = l} first below more) =
    let under = ordered items (suc p.node.0) k (nodes_of ps) more in (
      kept_in_front items (suc p.node.0) k (given k standing p) ps p.node.0 (omega arith) more
          ∙ given_same k standing p (omega (arith, under)) (omega (arith, under, le)),
      all_given items (suc p.node.0) k (given k standing p) ps (omega (arith, le, given_length k standing p)) more,
    )

-- one part written where nothing is known
one_clear : (items : Items) (a k l : ℕ) (standing : Standing) (p : Part) → a ≤ l → Begins items l p.node → p.node.0 < k → Free standing a k
    → Clear items k standing → Clear items k (given k standing p)
one_clear items a k l standing p le below lt free clear n scope under h = elim (cases_lt n a) as (λ _. FreeBelow items (given k standing p) n) [
  | inl front ↦
      let at : scope_in standing n ≡ Some scope = sym (given_other k standing p n (λ u e. omega (arith, front, le, first, e))) ∙ h in
      let old = clear n scope under at in
      (old.0, old.1, λ x low high. given_other k standing p x (λ u e. omega (arith, high, front, le, first, e)) ∙ old.2 x low high)
  | inr inside ↦ elim (cases_same n) as (λ _. FreeBelow items (given k standing p) n) [
    | inl e ↦ (
      l,
      subst (λ (m : ℕ). Begins items l (record { 0 = m })) (sym e) below,
      λ x low high. given_other k standing p x (λ u f. omega (arith, high, e, f))
          ∙ free x (omega (arith, le, low)) (omega (arith, high, under)),
    )
    | inr other ↦ absurd (none-some scope (sym (given_other k standing p n (λ u e. other e) ∙ free n inside under) ∙ h))
  ]
]
  where
    first : l ≤ p.node.0
    first = ordered items l p.node.0 (children_of (item_at items p.node)) below

    cases_by : (n : ℕ) (b : Bool) → eqb n p.node.0 ≡ b → (n ≡ p.node.0) ⊎ ((n ≡ p.node.0) → ⊥)
    cases_by n true e = inl (eqb-true n p.node.0 e)
    cases_by n false e = inr (eqb-false n p.node.0 e)

    cases_same : (n : ℕ) → (n ≡ p.node.0) ⊎ ((n ≡ p.node.0) → ⊥)
    cases_same n = cases_by n (eqb n p.node.0) refl

all_clear : (items : Items) (a k : ℕ) (standing : Standing) (ps : List Part) → Row items a k (nodes_of ps) → Free standing a k → Clear items k standing
    → Clear items k (give k standing ps)
all_clear items a k standing [] r free clear = clear
all_clear items a k standing (p ∷ ps) (Next {l = l} le below more) free clear =
    let first = ordered items l p.node.0 (children_of (item_at items p.node)) below in
    let under = ordered items (suc p.node.0) k (nodes_of ps) more in
    all_clear items (suc p.node.0) k (given k standing p) ps more
    (λ x low high. given_other k standing p x (λ u e. omega (arith, low, e)) ∙ free x (omega (arith, low, le, first)) high)
    (one_clear items a k l standing p le below (omega (arith, under)) free clear)

-- ---- one node

abbrev stepped : Items → ℕ → Standing → Option Scope → Standing
stepped items k standing o = give k standing (parts_if_any items (record { 0 = k }) o)

step_clear : (items : Items) (k : ℕ) (standing : Standing) → Clear items (suc k) standing → (o : Option Scope) → scope_in standing k ≡ o
    → Clear items k (stepped items k standing o)
step_clear items k standing clear None e = λ n scope lt h. clear n scope (omega (arith, lt)) h
step_clear items k standing clear (Some scope) e =
    let here = clear k scope (omega arith) e in
    all_clear items here.0 k standing (parts items (record { 0 = k }) scope) (parts_rowed items (record { 0 = k }) scope here.0 here.1) here.2
    (λ n s lt h. clear n s (omega (arith, lt)) h)

-- what is known of a node stays, as each node gives to its parts alone
step_keeps : (items : Items) (k : ℕ) (standing : Standing) → Clear items (suc k) standing → (o : Option Scope) → scope_in standing k ≡ o → (x : ℕ) (s : Scope)
    → scope_in standing x ≡ Some s → scope_in (stepped items k standing o) x ≡ Some s
step_keeps items k standing clear None e x s h = h
step_keeps items k standing clear (Some scope) e x s h =
    let here = clear k scope (omega arith) e in
    let row = parts_rowed items (record { 0 = k }) scope here.0 here.1 in
    elim (cases_lt x here.0) as (λ _. scope_in (stepped items k standing (Some scope)) x ≡ Some s) [
      | inl front ↦ kept_in_front items here.0 k standing (parts items (record { 0 = k }) scope) x front row ∙ h
      | inr inside ↦ elim (cases_lt x k) as (λ _. scope_in (stepped items k standing (Some scope)) x ≡ Some s) [
        | inl under ↦ absurd (none-some s (sym (here.2 x inside under) ∙ h))
        | inr behind ↦ kept_behind k standing (parts items (record { 0 = k }) scope) x behind ∙ h
      ]
    ]

may_continue : (items : Items) (k : ℕ) (standing : Standing) → Clear items k standing → (x : ℕ) (s : Scope) → scope_in standing x ≡ Some s
    → scope_in (give_below items k standing) x ≡ Some s
may_continue items zero standing clear x s h = h
may_continue items (suc k) standing clear x s h =
    let o = scope_in standing k in
    may_continue items k (stepped items k standing o) (step_clear items k standing clear o refl) x s (step_keeps items k standing clear o refl x s h)

-- nodes from the number before the limit on keep what is known of them
as_variable : (items : Items) (k : ℕ) (standing : Standing) (x : ℕ) → k ≤ suc x → scope_in (give_below items k standing) x ≡ scope_in standing x
as_variable items zero standing x le = refl
as_variable items (suc k) standing x le =
    let ps = parts_if_any items (record { 0 = k }) (scope_in standing k) in
    as_variable items k (give k standing ps) x (omega (arith, le)) ∙ kept_behind k standing ps x (omega (arith, le))

-- ---- each node

abbrev AllKnown : Standing → List Part → Type 0
AllKnown standing ps = Each (λ p. scope_in standing p.node.0 ≡ Some p.scope) ps

each_more : (P Q : Part → Type 0) → ((p : Part) → P p → Q p) → (ps : List Part) → Each P ps → Each Q ps
each_more P Q f [] h = tt
each_more P Q f (p ∷ ps) h = (f p h.0, each_more P Q f ps h.1)

-- the node that gives next
gives : (items : Items) (k : ℕ) (standing : Standing) → k < length standing → Clear items (suc k) standing → (scope : Scope) → scope_in standing k ≡ Some scope
    → AllKnown (give_below items (suc k) standing) (parts items (record { 0 = k }) scope)
gives items k standing lt clear scope h =
    let here = clear k scope (omega arith) h in
    let ps = parts items (record { 0 = k }) scope in
    subst (λ o. AllKnown (give_below items k (stepped items k standing o)) ps) (sym h)
    (each_more (λ p. scope_in (give k standing ps) p.node.0 ≡ Some p.scope) (λ p. scope_in (give_below items k (give k standing ps)) p.node.0 ≡ Some p.scope)
    (λ p e. may_continue items k (give k standing ps) (step_clear items k standing clear (Some scope) h) p.node.0 p.scope e) ps
    (all_given items here.0 k standing ps (omega (arith, lt)) (parts_rowed items (record { 0 = k }) scope here.0 here.1)))

known : (items : Items) (k : ℕ) (standing : Standing) → k ≤ length standing → Clear items k standing → (n : ℕ) → n < k → (scope : Scope)
    → scope_in (give_below items k standing) n ≡ Some scope → AllKnown (give_below items k standing) (parts items (record { 0 = n }) scope)
known items zero standing le clear n lt scope h = absurd (omega (arith, lt))
known items (suc k) standing le clear n lt scope h =
    let o = scope_in standing k in
    elim (cases_lt n k) as (λ _. AllKnown (give_below items (suc k) standing) (parts items (record { 0 = n }) scope)) [
      | inl under ↦ known items k (stepped items k standing o) (omega (arith, le, give_length k standing (parts_if_any items (record { 0 = k }) o)))
          (step_clear items k standing clear o refl) n under scope h
      | inr at ↦
          let e : k ≡ n = omega (arith, at, lt) in
          subst (λ m. AllKnown (give_below items (suc k) standing) (parts items (record { 0 = m }) scope)) e
          (gives items k standing (omega (arith, le)) clear scope
          (sym (as_variable items (suc k) standing k (omega arith)) ∙ subst (λ m. scope_in (give_below items (suc k) standing) m ≡ Some scope) (sym e) h))
    ]

-- ---- from the root on

-- the root and what is below it are in a row
abbrev Rooted : Items → Type 0
Rooted items = Row items 0 (length items) (last_of items ∷ [])

root_begins : (items : Items) → Rooted items → (l : ℕ) × Begins items l (last_of items)
root_begins items (Next {l = l} le below more) = (l, below)

at_first_other : (root : NodeId) (x : ℕ) → ((x ≡ root.0) → ⊥) → scope_in (standing_at_first root) x ≡ None
at_first_other root x other =
    get_or-set_other (replicate (suc root.0) None) root.0 x (Some (outermost root)) None other
    ∙ none_there (suc root.0) x
  where
    none_there : (k y : ℕ) → scope_in (replicate k None) y ≡ None
    none_there zero y = refl
    none_there (suc k) zero = refl
    none_there (suc k) (suc y) = none_there k y

clear_at_first : (items : Items) → Rooted items → Clear items (suc (last_of items).0) (standing_at_first (last_of items))
clear_at_first items r n scope lt h = elim (cases_lt n root.0) as (λ _. FreeBelow items (standing_at_first root) n) [
  | inl under ↦ absurd (none-some scope (sym (at_first_other root n (λ e. omega (arith, under, e))) ∙ h))
  | inr at ↦
      let e : root.0 ≡ n = omega (arith, at, lt) in
      let begins = root_begins items r in (
        begins.0,
        subst (λ (m : ℕ). Begins items begins.0 (record { 0 = m })) e begins.1,
        λ x low high. at_first_other root x (λ f. omega (arith, high, e, f)),
      )
]
  where
    root : NodeId
    root = last_of items

length_at_first : (root : NodeId) → length (standing_at_first root) ≡ suc root.0
length_at_first root = length-set (replicate (suc root.0) None) root.0 (Some (outermost root)) ∙ length-replicate {A = Option Scope} (suc root.0) None

root_known : (items : Items) → scope_at items (last_of items) ≡ Some (outermost (last_of items))
root_known items =
    let root = last_of items in
    as_variable items (suc root.0) (standing_at_first root) root.0 (omega arith)
    ∙ get_or-set_same (replicate (suc root.0) None) root.0 (Some (outermost root)) None (omega (arith, length-replicate {A = Option Scope} (suc root.0) None))

each_at : (P : Part → Type 0) (before : List Part) (part : Part) (after : List Part) → Each P (before ++ part ∷ after) → P part
each_at P [] part after h = h.0
each_at P (p ∷ before) part after h = each_at P before part after h.1

stands_known : (items : Items) → Rooted items → (n : NodeId) (scope : Scope) → Stands items n scope → scope_at items n ≡ Some scope
stands_known items r n scope AtRoot = root_known items
stands_known items r n scope (InNode m outer before part after stands are) =
    let at = stands_known items r m outer stands in
    let root = last_of items in
    let lt : m.0 < suc root.0 = subst (λ k. m.0 < k) (standing_length items) (short (standing_of items) m.0 outer at) in
    let len = length_at_first root in
    let all = known items (suc root.0) (standing_at_first root) (omega (arith, len)) (clear_at_first items r) m.0 lt outer at in
    each_at (λ p. scope_at items p.node ≡ Some p.scope) before part after (subst (λ ps. AllKnown (standing_of items) ps) are all)

-- ---- the laws

pub knows_where_nodes_stand : (text : List ℕ) → KnowsWhereNodesStand text
knows_where_nodes_stand text tree reads n scope stands =
    stands_known (lay tree []) (root_rowed tree (well_formed_trees text tree reads)) n scope stands

pub finds_binders_of_text : (text : List ℕ) → FindsBindersOfText text
finds_binders_of_text text tree reads n place offset name scope is_name stands =
    binder_finds (lay tree []) n place offset name scope is_name (knows_where_nodes_stand text tree reads n scope stands)
