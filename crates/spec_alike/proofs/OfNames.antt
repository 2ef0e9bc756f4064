-- Names and types do the same in trees that are alike.
use Rattle.std.proofs.Common.{List, [], ◌∷◌, ◌++◌, Option, Some, None, refl, subst}
use Rattle.tl_base.specs.declared.ids.EnvId.{EnvId}
use Rattle.tl_base.specs.declared.ids.NodeId.{NodeId}
use Rattle.tl_base.specs.declared.ids.SymId.{SymId}
use Rattle.tl_base.specs.declared.ids.TextId.{TextId}
use Rattle.tl_base.specs.declared.ids.TypeId.{TypeId}
use Rattle.tl_base.specs.declared.place.Place.{Place}
use Rattle.tl_tree.specs.Code.{Items, name_at, place_at}
use Rattle.tl_alike.specs.Alike.{AreAlike, HasSameUse, HasSameName}
use Rattle.tl_alike.proofs.ReadAlike.{place_same}
use Rattle.lua_value.specs.declared.value.Value.{Value}
use Rattle.lua_value.specs.declared.value.Value.TheVariants as values
use Rattle.lua_value.specs.Values.{kind_of}
use Rattle.lua_table.specs.Heap.{table_at}
use Rattle.terra_types.specs.Opening.{unit}
use Rattle.exotype.specs.declared.fault.Fault.TheVariants as faults
use Rattle.exotype.specs.Types.{is_type}
use Rattle.spec_model.specs.Nodes.{escaped_at}
use Rattle.spec_model.specs.Plans.{SpecPlan, raise, values_in}
use Rattle.spec_model.specs.Names.{text_in, member_of, member, naming, symbols_in, symbols_of, symbol_of}
use Rattle.spec_model.specs.Types.{type_there, type_in, as_type, type_of, type_if_any}
use Rattle.spec_alike.proofs.Children.{IfAny}
use Rattle.spec_alike.proofs.Reading.{same-escaped, escape-use}
use Rattle.spec_alike.proofs.OfPlans.{Same, SameFrom, same-if, same-name, same-raise, same-eval}

module _ (items other : Items) where
  same-text-in : (v : Value) (place : Place) (go goes : TextId → SpecPlan) → SameFrom items other go goes
      → Same items other (text_in v place go) (text_in v place goes)
  same-text-in (values.Text text) place go goes k = k text
  same-text-in v place go goes k = same-raise items other place (faults.InTerraCode (kind_of v))

  pub same-naming : (text : TextId) (rest more : SpecPlan) → Same items other rest more
      → Same items other (naming text rest) (naming text more)
  same-naming text rest more h = λ w. (refl, h)

  -- ---- symbols

  same-symbols-in : (vs : List Value) (place : Place) (xs : List SymId) (go goes : List SymId → SpecPlan)
      → SameFrom items other go goes → Same items other (symbols_in vs place xs go) (symbols_in vs place xs goes)
  same-symbols-in [] place xs go goes k = k xs
  same-symbols-in (values.Symbol x ∷ vs) place xs go goes k = same-symbols-in vs place (xs ++ x ∷ []) go goes k
  same-symbols-in (v ∷ vs) place xs go goes k = same-raise items other place (faults.InTerraCode (kind_of v))

  pub same-symbols-of : (v : Value) (place : Place) (go goes : List SymId → SpecPlan) → SameFrom items other go goes
      → Same items other (symbols_of v place go) (symbols_of v place goes)
  same-symbols-of (values.Symbol x) place go goes k = k (x ∷ [])
  same-symbols-of (values.Table t) place go goes k =
      λ w. same-symbols-in (values_in (table_at w.heap t)) place [] go goes k
  same-symbols-of v place go goes k = same-raise items other place (faults.InTerraCode (kind_of v))

  pub same-symbol-of : (v : Value) (place : Place) (go goes : SymId → SpecPlan) → SameFrom items other go goes
      → Same items other (symbol_of v place go) (symbol_of v place goes)
  same-symbol-of (values.Symbol x) place go goes k = k x
  same-symbol-of v place go goes k = same-raise items other place (faults.InTerraCode (kind_of v))

  -- ---- types

  same-type-there : (t : TypeId) (place : Place) (go goes : TypeId → SpecPlan) → SameFrom items other go goes
      → Same items other (type_there t place go) (type_there t place goes)
  same-type-there t place go goes k =
      λ w. same-if items other (is_type w.store.types t) (go t) (raise place faults.NotAType) (goes t)
      (raise place faults.NotAType) (k t) (same-raise items other place faults.NotAType)

  same-type-in : (vs : List Value) (place : Place) (go goes : TypeId → SpecPlan) → SameFrom items other go goes
      → Same items other (type_in vs place go) (type_in vs place goes)
  same-type-in [] place go goes k = same-type-there unit place go goes k
  same-type-in (values.TerraType t ∷ []) place go goes k = same-type-there t place go goes k
  same-type-in vs place go goes k = same-raise items other place faults.NotAType

  pub same-as-type : (v : Value) (place : Place) (go goes : TypeId → SpecPlan) → SameFrom items other go goes
      → Same items other (as_type v place go) (as_type v place goes)
  same-as-type (values.TerraType t) place go goes k = same-type-there t place go goes k
  same-as-type (values.Table t) place go goes k = λ w. same-type-in (values_in (table_at w.heap t)) place go goes k
  same-as-type v place go goes k = same-raise items other place faults.NotAType

-- ---- in two trees

module _ (items other : Items) (alike : AreAlike items other) where
  same-member-of : (o : Option NodeId) (n : NodeId) (env : EnvId) → IfAny (HasSameUse items other) o → HasSameName items other n
      → (go goes : TextId → SpecPlan) → SameFrom items other go goes
      → Same items other (member_of items o n env go) (member_of other o n env goes)
  same-member-of (Some e) n env used same go goes k =
      same-eval items other e env used (λ v. text_in v (place_at items n) go) (λ v. text_in v (place_at other n) goes)
      (λ v. subst (λ p. Same items other (text_in v (place_at items n) go) (text_in v p goes)) (place_same items other alike n)
      (same-text-in items other v (place_at items n) go goes k))
  same-member-of None n env used same go goes k = same-name items other (name_at items n) (name_at other n) same go goes k

  pub same-member : (n : NodeId) (env : EnvId) → HasSameName items other n → (go goes : TextId → SpecPlan)
      → SameFrom items other go goes → Same items other (member items n env go) (member other n env goes)
  same-member n env same go goes k =
      subst (λ o. Same items other (member_of items (escaped_at items n) n env go) (member_of other o n env goes))
      (same-escaped items other alike n)
      (same-member-of (escaped_at items n) n env (escape-use items other alike n) same go goes k)

  pub same-type-of : (n : NodeId) (env : EnvId) → HasSameUse items other n → (go goes : TypeId → SpecPlan)
      → SameFrom items other go goes → Same items other (type_of items n env go) (type_of other n env goes)
  same-type-of n env used go goes k =
      same-eval items other n env used (λ v. as_type v (place_at items n) go) (λ v. as_type v (place_at other n) goes)
      (λ v. subst (λ p. Same items other (as_type v (place_at items n) go) (as_type v p goes)) (place_same items other alike n)
      (same-as-type items other v (place_at items n) go goes k))

  pub same-type-if-any : (o : Option NodeId) (env : EnvId) → IfAny (HasSameUse items other) o → (go goes : Option TypeId → SpecPlan)
      → SameFrom items other go goes → Same items other (type_if_any items o env go) (type_if_any other o env goes)
  same-type-if-any (Some n) env used go goes k = same-type-of n env used (λ t. go (Some t)) (λ t. goes (Some t)) (λ t. k (Some t))
  same-type-if-any None env used go goes k = k None
