-- What a name finds is the last of the names in scope, or what it finds around the owner.
use Rattle.std.specs.Prelude.{◌≡◌, ℕ, zero, suc, ◌+◌, ◌<◌, ◌≤◌, Bool, true, false, List, [], ◌∷◌, length, Option, Some, None, if◌then◌else◌}
use Rattle.std.proofs.Common.{refl, sym, ap, subst, ◌∙◌, arith}
use Rattle.tl_base.specs.declared.ids.NodeId.{NodeId}
use Rattle.tl_tree.specs.Nodes.{last_of}
use Rattle.tl_tree.specs.Code.{Items}
use Rattle.tl_tree.specs.declared.scope.Scope.{Scope}
use Rattle.tl_tree.specs.Scopes.{Found, Standing, scope_in, scope_at, standing_of, or_found, last_found, declared_in, found_from, found_for}
use Rattle.tl_tree.specs.Scopes.{has_name}
use Rattle.tl_tree.specs.ScopeLaws.{HasNone, IsLast, Finds, Here, Around, Nowhere, BinderFinds}
use Rattle.tl_tree.proofs.Standings.{owners_before, standing_length}

abbrev at_position : ℕ → ℕ → NodeId → Found
at_position depth at d = record { depth = depth; position = at; declaration = d }

-- what the last of the declarations asked for is
abbrev LastIs : Items → List ℕ → ℕ → ℕ → List NodeId → Option Found → Type 0
LastIs items name depth at ds None = HasNone items name ds
LastIs items name depth at ds (Some f) = (position : ℕ) × (f ≡ at_position depth (position + at) f.declaration) × IsLast items name ds position f.declaration

-- a declaration before those that were searched
joined : (items : Items) (name : List ℕ) (depth at : ℕ) (d : NodeId) (ds : List NodeId) (rest : Option Found) → LastIs items name depth (at + 1) ds rest
    → (b : Bool) → has_name items name d ≡ b
    → LastIs items name depth at (d ∷ ds) (or_found rest (if b then Some (at_position depth at d) else None))
joined items name depth at d ds (Some f) h b e = (
  h.0 + 1,
  h.1 ∙ ap (λ p. at_position depth p f.declaration) (omega arith),
  record { before = d ∷ h.2.before; after = h.2.after; are = ap (λ l. d ∷ l) h.2.are; position_is = ap suc h.2.position_is ∙ omega arith; is_named = h.2.is_named; none_after = h.2.none_after },
)
joined items name depth at d ds None h true e =
    (0, ap (λ p. at_position depth p d) (omega arith), record { before = []; after = ds; are = refl; position_is = refl; is_named = e; none_after = h })
joined items name depth at d ds None h false e = (e, h)

last_is : (items : Items) (name : List ℕ) (depth at : ℕ) (ds : List NodeId) → LastIs items name depth at ds (last_found (has_name items name) depth at ds)
last_is items name depth at [] = tt
last_is items name depth at (d ∷ ds) =
    joined items name depth at d ds (last_found (has_name items name) depth (at + 1) ds) (last_is items name depth (at + 1) ds) (has_name items name d) refl

pub nothing_around : (items : Items) (standing : Standing) (asked : NodeId → Bool) (owners depth : ℕ) → found_from owners items standing asked depth None ≡ None
nothing_around items standing asked zero depth = refl
nothing_around items standing asked (suc owners) depth = refl

abbrev end_of : Items → ℕ
end_of items = suc (last_of items).0

-- what is found around an owner, once its own declarations are searched
outwards : (items : Items) (name : List ℕ) (depth : ℕ) (scope : Scope) (last around : Option Found) → LastIs items name depth 0 (declared_in items scope) last
    → (HasNone items name (declared_in items scope) → Finds items name depth scope around)
    → Finds items name depth scope (or_found last around)
outwards items name depth scope (Some f) around h more =
    subst (λ g. Finds items name depth scope (Some g)) (sym (h.1 ∙ ap (λ p. at_position depth p f.declaration) (omega arith)))
    (Here depth scope h.0 f.declaration h.2)
outwards items name depth scope None around h more = more h

-- what is found from where the owner stands
around : (items : Items) (name : List ℕ) (owners depth : ℕ) (scope : Scope) → HasNone items name (declared_in items scope)
    → ((outer : Scope) → scope_at items scope.owner ≡ Some outer
    → Finds items name (depth + 1) outer (found_from owners items (standing_of items) (has_name items name) (depth + 1) (Some outer)))
    → (o : Option Scope) → scope_at items scope.owner ≡ o
    → Finds items name depth scope (found_from owners items (standing_of items) (has_name items name) (depth + 1) o)
around items name owners depth scope none more None e =
    subst (λ f. Finds items name depth scope f) (sym (nothing_around items (standing_of items) (has_name items name) owners (depth + 1)))
    (Nowhere depth scope none e)
around items name owners depth scope none more (Some outer) e =
    Around depth scope outer (found_from owners items (standing_of items) (has_name items name) (depth + 1) (Some outer)) none e (more outer e)

further : (items : Items) (owners : ℕ) (scope outer : Scope) → scope_at items scope.owner ≡ Some outer → end_of items < scope.owner.0 + suc owners
    → (outer.owner.0 ≤ end_of items) × (end_of items < outer.owner.0 + owners)
further items owners scope outer e lt = let before = owners_before items scope.owner.0 outer e in (before.1, omega (arith, before.0, lt))

finds : (items : Items) (name : List ℕ) (owners depth : ℕ) (scope : Scope) → scope.owner.0 ≤ end_of items → end_of items < scope.owner.0 + owners
    → Finds items name depth scope (found_from owners items (standing_of items) (has_name items name) depth (Some scope))
finds items name zero depth scope le lt = absurd (omega (arith, le, lt))
finds items name (suc owners) depth scope le lt =
    outwards items name depth scope (last_found (has_name items name) depth 0 (declared_in items scope))
    (found_from owners items (standing_of items) (has_name items name) (depth + 1) (scope_in (standing_of items) scope.owner.0))
    (last_is items name depth 0 (declared_in items scope))
    (λ none. around items name owners depth scope none
    (λ outer e. let next = further items owners scope outer e lt in finds items name owners (depth + 1) outer next.0 next.1)
    (scope_in (standing_of items) scope.owner.0) refl)

pub binder_finds : (items : Items) → BinderFinds items
binder_finds items n place offset name scope is_name stands =
    let before = owners_before items n.0 scope stands in
    let found = finds items name (end_of items) 0 scope before.1 (omega (arith, before.0)) in
    let by_length = subst (λ k. Finds items name 0 scope (found_from k items (standing_of items) (has_name items name) 0 (Some scope))) (sym (standing_length items)) found in
    let by_scope = subst (λ o. Finds items name 0 scope (found_from (length (standing_of items)) items (standing_of items) (has_name items name) 0 o)) (sym stands) by_length in
    subst (λ i. Finds items name 0 scope (found_for items (standing_of items) i (scope_at items n))) (sym is_name) by_scope
