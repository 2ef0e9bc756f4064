-- Only a name that stands somewhere has a binder.
use Rattle.std.specs.Prelude.{◌≡◌, ℕ, List, length, Option, Some, None}
use Rattle.std.proofs.Common.{refl, sym, subst, ◌∙◌}
use Rattle.std.proofs.lemmas.Option.{none-some}
use Rattle.tl_base.specs.declared.ids.NodeId.{NodeId}
use Rattle.tl_base.specs.declared.place.Place.{Place}
use Rattle.tl_tree.specs.Nodes.{item_at}
use Rattle.tl_tree.specs.Item.{Item}
use Rattle.tl_tree.specs.Item as kept
use Rattle.tl_tree.specs.Code.{Items}
use Rattle.tl_tree.specs.declared.scope.Scope.{Scope}
use Rattle.tl_tree.specs.Scopes.{Found, scope_at, standing_of, has_name, found_for, binder}
use Rattle.tl_tree.specs.ScopeLaws.{Finds, IsFoundBinder, OnlyNamesHaveBinders}
use Rattle.tl_tree.proofs.Searching.{nothing_around, binder_finds}
use Rattle.tl_tree.proofs.Standings.{nodes_stand}

named : (items : Items) (n : NodeId) (found : Found) (place : Place) (offset : ℕ) (name : List ℕ) → item_at items n ≡ kept.Name place offset name
    → binder items n ≡ Some found → (o : Option Scope) → scope_at items n ≡ o
    → found_for items (standing_of items) (kept.Name place offset name) o ≡ Some found → IsFoundBinder items n found
named items n found place offset name is all None e h =
    absurd (none-some found (sym (nothing_around items (standing_of items) (has_name items name) (length (standing_of items)) 0) ∙ h))
named items n found place offset name is all (Some scope) e h = record {
  place = place;
  offset = offset;
  name = name;
  scope = scope;
  is_name = is;
  stands = nodes_stand items n scope e;
  finds = subst (λ f. Finds items name 0 scope f) all (binder_finds items n place offset name scope is e);
}

by_item : (items : Items) (n : NodeId) (found : Found) → binder items n ≡ Some found → (item : Item) → item_at items n ≡ item
    → found_for items (standing_of items) item (scope_at items n) ≡ Some found → IsFoundBinder items n found
by_item items n found all (kept.Name place offset name) is h = named items n found place offset name is all (scope_at items n) refl h
by_item items n found all item is h = absurd (none-some found h)

pub only_names_have_binders : (items : Items) → OnlyNamesHaveBinders items
only_names_have_binders items n found h = by_item items n found h (item_at items n) refl h
