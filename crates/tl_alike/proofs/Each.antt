-- What holds of each node of a list, and of each name that is a child for some purpose.
use Rattle.std.specs.Prelude.{true, false, ◌||◌}
use Rattle.std.specs.List.{All, AllByRecursion}
use Rattle.std.proofs.Common.{◌≡◌, ℕ, List, [], ◌∷◌, ◌++◌, inl, inr, refl, sym, ap, subst, ◌∙◌, arith}
use Rattle.std.proofs.lemmas.Bool.{false≢true}
use Rattle.std.proofs.lemmas.Bool.Decides.{eqb_tells}
use Rattle.std.proofs.lemmas.List.Elements.{All-nil, All-cons}
use Rattle.tl_base.specs.declared.ids.NodeId.{NodeId}
use Rattle.tl_tree.specs.Item.{Item}
use Rattle.tl_tree.specs.Nodes.{item_at}
use Rattle.tl_tree.specs.Scopes.{is_name}
use Rattle.tl_tree.specs.Binding.{is_among}
use Rattle.tl_alike.proofs.Intervals.{Has}
use Rattle.tl_alike.proofs.OneRole.{HasParent}

module _ (P : NodeId → Type 0) where
  pub each_append : (ns ms : List NodeId) → AllByRecursion P ns → AllByRecursion P ms → AllByRecursion P (ns ++ ms)
  each_append [] ms h k = k
  each_append (n ∷ ns) ms h k = (h.0, each_append ns ms h.1 k)

  pub each_front : (ns ms : List NodeId) → AllByRecursion P (ns ++ ms) → AllByRecursion P ns
  each_front [] ms h = tt
  each_front (n ∷ ns) ms h = (h.0, each_front ns ms h.1)

  pub each_behind : (ns ms : List NodeId) → AllByRecursion P (ns ++ ms) → AllByRecursion P ms
  each_behind [] ms h = h
  each_behind (n ∷ ns) ms h = each_behind ns ms h.1

  -- of each that the list has
  pub each_has : (ns : List NodeId) → ((c : NodeId) → Has c ns → P c) → AllByRecursion P ns
  each_has [] h = tt
  each_has (n ∷ ns) h = (h n (has_first n ns), each_has ns (λ c k. h c (has_later c n ns k)))
    where
      has_first : (m : NodeId) (ms : List NodeId) → Has m (m ∷ ms)
      has_first m ms = elim (eqb_tells m.0 m.0) as (λ _. Has m (m ∷ ms)) [
        | inl e ↦ rw e.0 (omega arith)
        | inr e ↦ absurd (e.1 refl)
      ]

      has_later : (c m : NodeId) (ms : List NodeId) → Has c ms → Has c (m ∷ ms)
      has_later c m ms k = omega (arith, k)

  pub all_has : (ns : List NodeId) → ((c : NodeId) → Has c ns → P c) → All P ns
  all_has ns h = all_of ns (each_has ns h)
    where
      all_of : (ms : List NodeId) → AllByRecursion P ms → All P ms
      all_of [] k = All-nil P
      all_of (m ∷ ms) k = All-cons P m ms k.0 (all_of ms k.1)

  -- of one that is among them
  pub each_among : (ns : List NodeId) (c : NodeId) → AllByRecursion P ns → is_among c.0 ns ≡ true → P c
  each_among [] c h e = absurd (false≢true e)
  each_among (n ∷ ns) c h e = elim (eqb_tells n.0 c.0) as (λ _. P c) [
    | inl at ↦ subst (λ (k : ℕ). P (record { 0 = k })) at.1 h.0
    | inr other ↦ each_among ns c h.1 (sym (ap (λ b. b || is_among c.0 ns) other.0) ∙ e)
  ]

-- ---- names that are children

-- a node that is a name is a child for this
abbrev pub IsNameWith : List Item → (Item → List NodeId) → NodeId → Type 0
IsNameWith items role c = is_name (item_at items c) ≡ true → HasParent items role c

-- what a node has for it
pub role_of : (items : List Item) (role : Item → List NodeId) (m : NodeId) (i : Item) → item_at items m ≡ i
    → AllByRecursion (IsNameWith items role) (role i)
role_of items role m i e =
    subst (λ (x : Item). AllByRecursion (IsNameWith items role) (role x)) e
    (each_has (IsNameWith items role) (role (item_at items m)) (λ c h is. (m, h)))

-- what is no name
pub no_name : (items : List Item) (role : Item → List NodeId) (c : NodeId) → is_name (item_at items c) ≡ false → IsNameWith items role c
no_name items role c none is = absurd (false≢true (sym none ∙ is))
