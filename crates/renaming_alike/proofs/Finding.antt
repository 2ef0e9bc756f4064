-- What a use finds by one test it finds by a narrower one that what it found passes.
use Rattle.std.specs.Prelude.{◌≡◌, ℕ, zero, suc, ◌+◌, Bool, true, false, List, [], ◌∷◌, take, Option, Some, None, if◌then◌else◌}
use Rattle.std.specs.List.{AllByRecursion}
use Rattle.std.proofs.Common.{refl, sym, ap, subst, ◌∙◌}
use Rattle.std.proofs.lemmas.Bool.{false≢true}
use Rattle.std.proofs.lemmas.Option.{none-some}
use Rattle.tl_base.specs.declared.ids.NodeId.{NodeId}
use Rattle.tl_tree.specs.Code.{Items}
use Rattle.tl_tree.specs.declared.scope.Scope.{Scope}
use Rattle.tl_tree.specs.Scopes.{Found, Standing, scope_in, or_found, last_found, declared_in, declarations, found_from}

-- what passes one test passes the other
abbrev pub Among : (NodeId → Bool) → (NodeId → Bool) → Type 0
Among q p = (d : NodeId) → q d ≡ true → p d ≡ true

abbrev found_or : Found → Option Found → Found
found_or f (Some x) = x
found_or f None = f

some_inj : (f g : Found) → Some f ≡ Some g → f ≡ g
some_inj f g h = ap (found_or f) h

abbrev found : ℕ → ℕ → NodeId → Found
found depth at d = record { depth = depth; position = at; declaration = d }

abbrev one : Bool → ℕ → ℕ → NodeId → Option Found
one b depth at d = if b then Some (found depth at d) else None

module _ (p q : NodeId → Bool) (among : Among q p) where
  abbrev Passes : Option Found → Type 0
  Passes o = (f : Found) → o ≡ Some f → q f.declaration ≡ true

  one_same : (depth at : ℕ) (d : NodeId) (b c : Bool) → p d ≡ b → q d ≡ c → Passes (one b depth at d) → one c depth at d ≡ one b depth at d
  one_same depth at d true true e g h = refl
  one_same depth at d false false e g h = refl
  one_same depth at d true false e g h = absurd (false≢true (sym g ∙ h (found depth at d) refl))
  one_same depth at d false true e g h = absurd (false≢true (sym e ∙ among d g))

  last_same : (depth at : ℕ) (ds : List NodeId) → Passes (last_found p depth at ds) → last_found q depth at ds ≡ last_found p depth at ds
  last_same depth at [] h = refl
  last_same depth at (d ∷ ds) h = go (last_found p depth (at + 1) ds) refl (last_same depth (at + 1) ds) h
    where
      go : (rest : Option Found) → last_found p depth (at + 1) ds ≡ rest
          → (Passes (last_found p depth (at + 1) ds) → last_found q depth (at + 1) ds ≡ last_found p depth (at + 1) ds)
          → Passes (or_found rest (one (p d) depth at d))
          → last_found q depth at (d ∷ ds) ≡ or_found (last_found p depth (at + 1) ds) (one (p d) depth at d)
      go (Some g) r more k =
          let same = more (λ f e. k f (sym r ∙ e)) in
          ap (λ o. or_found o (one (q d) depth at d)) (same ∙ r) ∙ sym (ap (λ o. or_found o (one (p d) depth at d)) r)
      go None r more k =
          let same = more (λ f e. absurd (none-some f (sym r ∙ e))) in
          ap (λ o. or_found o (one (q d) depth at d)) (same ∙ r) ∙ one_same depth at d (p d) (q d) refl refl k
          ∙ sym (ap (λ o. or_found o (one (p d) depth at d)) r)

  pub found_same : (items : Items) (standing : Standing) (owners depth : ℕ) (scope : Option Scope)
      → Passes (found_from owners items standing p depth scope)
      → found_from owners items standing q depth scope ≡ found_from owners items standing p depth scope
  found_same items standing zero depth scope h = refl
  found_same items standing (suc owners) depth None h = refl
  found_same items standing (suc owners) depth (Some scope) h =
      go (last_found p depth 0 (declared_in items scope)) refl
      (found_same items standing owners (depth + 1) (scope_in standing scope.owner.0)) h
    where
      around : (NodeId → Bool) → Option Found
      around test = found_from owners items standing test (depth + 1) (scope_in standing scope.owner.0)

      go : (last : Option Found) → last_found p depth 0 (declared_in items scope) ≡ last → (Passes (around p) → around q ≡ around p)
          → Passes (or_found last (around p))
          → or_found (last_found q depth 0 (declared_in items scope)) (around q) ≡ or_found (last_found p depth 0 (declared_in items scope)) (around p)
      go (Some g) r more k =
          let same = last_same depth 0 (declared_in items scope) (λ f e. k f (sym r ∙ e)) in
          ap (λ o. or_found o (around q)) (same ∙ r) ∙ sym (ap (λ o. or_found o (around p)) r)
      go None r more k =
          let same = last_same depth 0 (declared_in items scope) (λ f e. absurd (none-some f (sym r ∙ e))) in
          ap (λ o. or_found o (around q)) (same ∙ r) ∙ more k ∙ sym (ap (λ o. or_found o (around p)) r)

-- ---- what is found

-- what holds of all declarations that pass the test holds of the one that is found
module _ (p : NodeId → Bool) (P : NodeId → Type 0) where
  abbrev IfPassed : NodeId → Type 0
  IfPassed d = p d ≡ true → P d

  taken : (n : ℕ) (ds : List NodeId) → AllByRecursion IfPassed ds → AllByRecursion IfPassed (take n ds)
  taken zero ds h = tt
  taken (suc n) [] h = tt
  taken (suc n) (d ∷ ds) h = (h.0, taken n ds h.1)

  last_is : (depth at : ℕ) (ds : List NodeId) → AllByRecursion IfPassed ds → (f : Found) → last_found p depth at ds ≡ Some f → P f.declaration
  last_is depth at [] h f e = absurd (none-some f e)
  last_is depth at (d ∷ ds) h f e = go (last_found p depth (at + 1) ds) (last_is depth (at + 1) ds h.1 f) e
    where
      here : (b : Bool) → p d ≡ b → one b depth at d ≡ Some f → P f.declaration
      here true is k = subst (λ (g : Found). P g.declaration) (some_inj (found depth at d) f k) (h.0 is)
      here false is k = absurd (none-some f k)

      go : (rest : Option Found) → (rest ≡ Some f → P f.declaration) → or_found rest (one (p d) depth at d) ≡ Some f → P f.declaration
      go (Some g) more k = more k
      go None more k = here (p d) refl k

  pub found_is : (items : Items) (standing : Standing) → ((n : NodeId) → AllByRecursion IfPassed (declarations items n)) → (owners depth : ℕ)
      (scope : Option Scope) (f : Found) → found_from owners items standing p depth scope ≡ Some f → P f.declaration
  found_is items standing h zero depth scope f e = absurd (none-some f e)
  found_is items standing h (suc owners) depth None f e = absurd (none-some f e)
  found_is items standing h (suc owners) depth (Some scope) f e =
      go (last_found p depth 0 (declared_in items scope))
      (last_is depth 0 (declared_in items scope) (taken scope.count (declarations items scope.owner) (h scope.owner)) f)
      (found_is items standing h owners (depth + 1) (scope_in standing scope.owner.0) f) e
    where
      go : (last : Option Found) {around : Option Found} → (last ≡ Some f → P f.declaration) → (around ≡ Some f → P f.declaration)
          → or_found last around ≡ Some f → P f.declaration
      go (Some g) a b k = a k
      go None a b k = b k
