-- Struct types do the same in trees that are alike.
use Rattle.std.proofs.Common.{◌≡◌, ℕ, ◌+◌, List, [], ◌∷◌, Option, Some, None, refl, subst}
use Rattle.std.specs.Prelude.{codes}
use Rattle.std.specs.List.{AllByRecursion as Each}
use Rattle.tl_base.specs.declared.ids.EnvId.{EnvId}
use Rattle.tl_base.specs.declared.ids.NodeId.{NodeId}
use Rattle.tl_base.specs.declared.ids.TableId.{TableId}
use Rattle.tl_base.specs.declared.ids.TextId.{TextId}
use Rattle.tl_base.specs.declared.ids.TypeId.{TypeId}
use Rattle.tl_base.specs.declared.place.Place.{Place}
use Rattle.tl_base.specs.Plan.{Give, Read, Write}
use Rattle.tl_tree.specs.Nodes.{item_at}
use Rattle.tl_tree.specs.Code.{Items, name_at}
use Rattle.tl_alike.specs.Roles.{is_entry}
use Rattle.tl_alike.specs.Alike.{AreAlike}
use Rattle.lua_value.specs.declared.value.Value.TheVariants as values
use Rattle.exotype.specs.World.{with_heap}
use Rattle.exotype.specs.Types.{next_type, tables_of}
use Rattle.spec_model.specs.declared.end.End.TheVariants.{Gave}
use Rattle.spec_model.specs.declared.target.Target.{Target}
use Rattle.spec_model.specs.Nodes.{Typing, typing_at}
use Rattle.spec_model.specs.Plans.{SpecPlan, with_text_of, declaring}
use Rattle.spec_model.specs.Types.{type_if_any}
use Rattle.spec_model.specs.Definitions.{storing, over}
use Rattle.spec_model.specs.Structs.{with_entry, entry, entry_if_any, entries_plan, new_struct, struct_plan, local_struct_plan}
use Rattle.spec_model.specs.Structs.{anonymous_struct_plan}
use Rattle.spec_alike.proofs.Reading.{same-typing, type-use, entry-name}
use Rattle.spec_alike.proofs.OfPlans.{Same, SameFrom, same-text, same-name, same-declaring}
use Rattle.spec_alike.proofs.OfNames.{same-type-if-any}
use Rattle.spec_alike.proofs.OfDefinitions.{same-storing, same-target}

module _ (items other : Items) where
  same-entry : (entries : TableId) (i : ℕ) (bytes others : List ℕ) → bytes ≡ others → (of : TypeId) (rest more : SpecPlan)
      → Same items other rest more → Same items other (entry entries i bytes of rest) (entry entries i others of more)
  same-entry entries i bytes others same of rest more h =
      let put : SpecPlan → TextId → TextId → TextId → SpecPlan = λ next field name type.
      Read (λ w. Write (with_heap w (with_entry w.heap entries i field name type of)) next) in
      let typed : SpecPlan → TextId → TextId → SpecPlan = λ next field name. with_text_of (codes "type") (put next field name) in
      same-text items other (codes "field") (λ field. with_text_of bytes (typed rest field))
      (λ field. with_text_of others (typed more field))
      (λ field. same-name items other bytes others same (typed rest field) (typed more field)
      (λ name. same-text items other (codes "type") (put rest field name) (put more field name) (λ type w. (refl, h))))

  same-entry-if-any : (entries : TableId) (i : ℕ) (bytes others : List ℕ) → bytes ≡ others → (o : Option TypeId) (rest more : SpecPlan)
      → Same items other rest more → Same items other (entry_if_any entries i bytes o rest) (entry_if_any entries i others o more)
  same-entry-if-any entries i bytes others same (Some of) rest more h = same-entry entries i bytes others same of rest more h
  same-entry-if-any entries i bytes others same None rest more h = h

  same-new-struct : (place : Place) (go goes : TypeId → SpecPlan) → SameFrom items other go goes
      → Same items other (new_struct place go) (new_struct place goes)
  same-new-struct place go goes k = λ w. (refl, k (next_type w))

module _ (items other : Items) (alike : AreAlike items other) where
  abbrev pub AreEntries : List NodeId → Type 0
  AreEntries ns = Each (λ n. is_entry (item_at items n)) ns

  same-entries-plan : (ns : List NodeId) → AreEntries ns → (struct : TypeId) (i : ℕ) (env : EnvId) (rest more : SpecPlan)
      → Same items other rest more
      → Same items other (entries_plan items ns struct i env rest) (entries_plan other ns struct i env more)
  same-entries-plan [] are struct i env rest more h = h
  same-entries-plan (n ∷ ns) are struct i env rest more h =
      let p : Typing = typing_at items n in
      let behind : Items → SpecPlan → List ℕ → Option TypeId → SpecPlan = λ tree next bytes of.
      Read (λ w. entry_if_any (tables_of w struct).entries i bytes of (entries_plan tree ns struct (i + 1) env next)) in
      let one : SpecPlan = type_if_any items p.type env (behind items rest (name_at items p.name)) in
      subst (λ t. Same items other one (type_if_any other t.type env (behind other more (name_at other t.name))))
      (same-typing items other alike n)
      (same-type-if-any items other alike p.type env (type-use items other alike n) (behind items rest (name_at items p.name))
      (behind other more (name_at other p.name))
      (λ of w. same-entry-if-any items other (tables_of w struct).entries i (name_at items p.name) (name_at other p.name)
      (entry-name items other alike n are.0) of (entries_plan items ns struct (i + 1) env rest)
      (entries_plan other ns struct (i + 1) env more)
      (same-entries-plan ns are.1 struct (i + 1) env rest more h)))

  pub same-struct-plan : (path : NodeId) (ns : List NodeId) (place : Place) (env : EnvId) → AreEntries ns
      → Same items other (struct_plan items path ns place env) (struct_plan other path ns place env)
  same-struct-plan path ns place env are =
      let entries : Items → TypeId → SpecPlan = λ tree s. entries_plan tree ns s 1 env over in
      let one : Items → Target → TypeId → SpecPlan = λ tree t s. storing t (values.TerraType s) (entries tree s) in
      same-target items other alike path env (λ t none. new_struct place (one items t)) (λ t none. new_struct place (one other t))
      (λ t none. same-new-struct items other place (one items t) (one other t)
      (λ s. same-storing items other t (values.TerraType s) (entries items s) (entries other s)
      (same-entries-plan ns are s 1 env over over refl)))

  pub same-local-struct-plan : (ns : List NodeId) (place : Place) (env : EnvId) → AreEntries ns
      → Same items other (local_struct_plan items ns place env) (local_struct_plan other ns place env)
  same-local-struct-plan ns place env are =
      let entries : Items → TypeId → SpecPlan = λ tree s. entries_plan tree ns s 1 env over in
      same-new-struct items other place (λ s. declaring env (values.TerraType s) (entries items s))
      (λ s. declaring env (values.TerraType s) (entries other s))
      (λ s. same-declaring items other env (values.TerraType s) (entries items s) (entries other s)
      (same-entries-plan ns are s 1 env over over refl))

  pub same-anonymous-struct-plan : (ns : List NodeId) (place : Place) (env : EnvId) → AreEntries ns
      → Same items other (anonymous_struct_plan items ns place env) (anonymous_struct_plan other ns place env)
  same-anonymous-struct-plan ns place env are =
      let given : TypeId → SpecPlan = λ s. Give (Gave (values.TerraType s)) in
      same-new-struct items other place (λ s. entries_plan items ns s 1 env (given s)) (λ s. entries_plan other ns s 1 env (given s))
      (λ s. same-entries-plan ns are s 1 env (given s) (given s) refl)
