-- Declarations and definitions of Terra functions do the same in trees that are alike.
use Rattle.std.proofs.Common.{◌≡◌, ℕ, Bool, true, false, List, [], ◌∷◌, ◌++◌, length, Option, Some, None, refl, subst}
use Rattle.std.specs.Prelude.{◌&&◌, if◌then◌else◌}
use Rattle.std.specs.List.{AllByRecursion as Each}
use Rattle.tl_base.specs.declared.ids.EnvId.{EnvId}
use Rattle.tl_base.specs.declared.ids.FnId.{FnId}
use Rattle.tl_base.specs.declared.ids.NodeId.{NodeId}
use Rattle.tl_base.specs.declared.ids.SymId.{SymId}
use Rattle.tl_base.specs.declared.ids.TermId.{TermId}
use Rattle.tl_base.specs.declared.ids.TextId.{TextId}
use Rattle.tl_base.specs.declared.ids.TypeId.{TypeId}
use Rattle.tl_base.specs.declared.place.Place.{Place}
use Rattle.tl_base.specs.Plan.{Give, Read, Write}
use Rattle.tl_tree.specs.Code.{Items, name_at, place_at, path_at, names_method, statements_at}
use Rattle.tl_tree.specs.Scopes.{Found as Declared, binder}
use Rattle.tl_alike.specs.Alike.{AreAlike, HasSameUse, HasSameName}
use Rattle.tl_alike.proofs.ReadAlike.{HasSamePath, place_same, path_same, names_method_same, path_names_alike}
use Rattle.lua_value.specs.declared.value.Value.{Value}
use Rattle.lua_value.specs.declared.value.Value.TheVariants as values
use Rattle.lua_value.specs.Values.{kind_of}
use Rattle.lua_table.specs.Heap.{next_cell}
use Rattle.lua_table.specs.Cells.{local_cell}
use Rattle.lua_model.specs.Fields.{globals}
use Rattle.terra_types.specs.declared.types.TypeForm.{TypeForm}
use Rattle.terra_types.specs.declared.types.TypeForm.TheVariants as forms
use Rattle.terra_types.specs.Making.{same_types}
use Rattle.terra_term.specs.declared.term.Term.TheVariants as terms
use Rattle.exotype.specs.declared.fault.Fault.TheVariants as faults
use Rattle.exotype.specs.World.{StageState}
use Rattle.exotype.specs.Types.{pointer_id, is_struct, tables_of}
use Rattle.exotype.specs.Terms.{function_size}
use Rattle.spec_model.specs.Making.{next_symbol, symbol_type, next_function, declared_type, is_undefined, may_be_defined}
use Rattle.spec_model.specs.Making.{with_defined, form_at}
use Rattle.spec_model.specs.declared.end.End.TheVariants.{Gave}
use Rattle.spec_model.specs.declared.target.Target.{Target}
use Rattle.spec_model.specs.declared.target.Target.TheVariants as targets
use Rattle.spec_model.specs.declared.wanted.Drawn.{Drawn}
use Rattle.spec_model.specs.Nodes.{escaped_at, Typing, typing_at, TerraParts, terra_parts_at}
use Rattle.spec_model.specs.Plans.{SpecPlan, raise, index, node, block, entering, declaring}
use Rattle.spec_model.specs.Names.{symbols_of}
use Rattle.spec_model.specs.Types.{type_if_any}
use Rattle.spec_model.specs.Expressions.{named_value}
use Rattle.spec_model.specs.Definitions.{over, held_in, storing, Go, key, method_key, steps, only_name, targeted, target, draw, spliced_one}
use Rattle.spec_model.specs.Definitions.{spliced, named_parameter, parameter, parameters, self, parameter_list, drawn_types, declaring_all}
use Rattle.spec_model.specs.Definitions.{agrees, as_declared, result_type, finish, define, new_function, made, standing, terra_plan}
use Rattle.spec_model.specs.Definitions.{local_terra_plan, anonymous_plan, function_form, function_type, declare_plan, local_declare_plan}
use Rattle.spec_alike.proofs.Children.{IfAny, each}
use Rattle.spec_alike.proofs.Reading.{same-escaped, same-typing, same-parts, escape-use, type-use, result-use}
use Rattle.spec_alike.proofs.OfPlans.{Same, SameFrom, same-if, same-name, same-raise, same-eval, same-index, same-node}
use Rattle.spec_alike.proofs.OfPlans.{same-entering, same-declaring}
use Rattle.spec_alike.proofs.OfNames.{same-symbols-of, same-type-of, same-type-if-any}
use Rattle.spec_alike.proofs.OfExpressions.{same-named-value}
use Rattle.spec_alike.proofs.OfStatements.{same-statements}
use Rattle.spec_alike.proofs.OfQuotes.{same-limited}

module _ (items other : Items) where
  pub same-storing : (t : Target) (v : Value) (rest more : SpecPlan) → Same items other rest more
      → Same items other (storing t v rest) (storing t v more)
  same-storing t v rest more h = λ w. (refl, h)

  -- ---- targets

  abbrev pub SameGo : Go → Go → Type 0
  SameGo go goes = (t : Target) (struct : Option TypeId) → Same items other (go t struct) (goes t struct)

  same-key : (name : TextId) (v : Value) (place : Place) (go goes : Go) → SameGo go goes
      → Same items other (key name v place go) (key name v place goes)
  same-key name (values.Table t) place go goes k = k (targets.Key t name) None
  same-key name v place go goes k = same-raise items other place (faults.Index (kind_of v))

  same-method-key : (name : TextId) (v : Value) (place : Place) (go goes : Go) → SameGo go goes
      → Same items other (method_key name v place go) (method_key name v place goes)
  same-method-key name (values.TerraType t) place go goes k =
      λ w.
      let at : Target = targets.Key (tables_of w t).methods name in
      let refused : SpecPlan = raise place (faults.Index (kind_of (values.TerraType t))) in
      same-if items other (is_struct w t) (go at (Some t)) refused (goes at (Some t)) refused (k at (Some t))
      (same-raise items other place (faults.Index (kind_of (values.TerraType t))))
  same-method-key name v place go goes k = same-raise items other place (faults.Index (kind_of v))

  same-only-name : (o : Option Declared) (name others : List ℕ) → (o ≡ None → name ≡ others) → (env : EnvId) (go goes : Go)
      → SameGo go goes → Same items other (only_name o name env go) (only_name o others env goes)
  same-only-name (Some d) name others same env go goes k = λ w. k (targets.Cell (local_cell w.heap env d.depth d.position)) None
  same-only-name None name others same env go goes k =
      same-name items other name others (same refl) (λ text. go (targets.Key globals text) None)
      (λ text. goes (targets.Key globals text) None) (λ text. k (targets.Key globals text) None)

  -- ---- parameters

  same-draw : (of : TypeId) (go goes : SymId → SpecPlan) → SameFrom items other go goes → Same items other (draw of go) (draw of goes)
  same-draw of go goes k = λ w. (refl, k (next_symbol w))

  same-spliced-one : (x : SymId) (o : Option TypeId) (place : Place) (ds : List Drawn) (go goes : List Drawn → SpecPlan)
      → SameFrom items other go goes → Same items other (spliced_one x o place ds go) (spliced_one x o place ds goes)
  same-spliced-one x (Some of) place ds go goes k = k (ds ++ record { symbol = x; of = of; place = place; named = false } ∷ [])
  same-spliced-one x None place ds go goes k = same-raise items other place faults.SymbolWithoutType

  same-spliced : (xs : List SymId) (place : Place) (ds : List Drawn) (go goes : List Drawn → SpecPlan) → SameFrom items other go goes
      → Same items other (spliced xs place ds go) (spliced xs place ds goes)
  same-spliced [] place ds go goes k = k ds
  same-spliced (x ∷ xs) place ds go goes k =
      λ w. same-spliced-one x (symbol_type w x) place ds (λ more. spliced xs place more go) (λ more. spliced xs place more goes)
      (λ more. same-spliced xs place more go goes k)

  same-self : (o : Option TypeId) (place : Place) (go goes : List Drawn → SpecPlan) → SameFrom items other go goes
      → Same items other (self o place go) (self o place goes)
  same-self None place go goes k = k []
  same-self (Some struct) place go goes k =
      λ w.
      let one : SymId → List Drawn = λ x. record { symbol = x; of = pointer_id w struct; place = place; named = true } ∷ [] in
      (refl, same-draw (pointer_id w struct) (λ x. go (one x)) (λ x. goes (one x)) (λ x. k (one x)))

  same-declaring-all : (ds : List Drawn) (env : EnvId) (rest more : SpecPlan) → Same items other rest more
      → Same items other (declaring_all ds env rest) (declaring_all ds env more)
  same-declaring-all [] env rest more h = h
  same-declaring-all (d ∷ ds) env rest more h =
      same-if items other d.named (declaring env (values.Symbol d.symbol) (declaring_all ds env rest)) (declaring_all ds env rest)
      (declaring env (values.Symbol d.symbol) (declaring_all ds env more)) (declaring_all ds env more)
      (same-declaring items other env (values.Symbol d.symbol) (declaring_all ds env rest) (declaring_all ds env more)
      (same-declaring-all ds env rest more h)) (same-declaring-all ds env rest more h)

  -- ---- a declaration's type

  same-as-declared : (form : Option TypeForm) (ds : List Drawn) (result : Option TypeId) (place : Place)
      (go goes : Option TypeId → SpecPlan)
      → SameFrom items other go goes → Same items other (as_declared form ds result place go) (as_declared form ds result place goes)
  same-as-declared (Some (forms.Function params declared)) ds result place go goes k =
      let refused : SpecPlan = raise place faults.DiffersFromDeclaration in
      same-if items other (same_types (drawn_types ds) params && agrees result declared) (go (Some declared)) refused (goes (Some declared))
      refused (k (Some declared)) (same-raise items other place faults.DiffersFromDeclaration)
  same-as-declared form ds result place go goes k = same-raise items other place faults.DiffersFromDeclaration

  same-result-type : (w : StageState) (o : Option TypeId) (ds : List Drawn) (result : Option TypeId) (place : Place)
      (go goes : Option TypeId → SpecPlan) → SameFrom items other go goes
      → Same items other (result_type w o ds result place go) (result_type w o ds result place goes)
  same-result-type w None ds result place go goes k = k result
  same-result-type w (Some t) ds result place go goes k = same-as-declared (form_at w t) ds result place go goes k

  -- ---- functions

  same-finish : (f : FnId) (ds : List Drawn) (result : Option TypeId) (ts : List TermId) (place : Place) (rest more : SpecPlan)
      → Same items other rest more → Same items other (finish f ds result ts place rest) (finish f ds result ts place more)
  same-finish f ds result ts place rest more h =
      λ w.
      let defined : SpecPlan → SpecPlan = λ p.
      node (terms.Function (parameter_list ds) result ts) (λ t. Read (λ v. Write (with_defined v f place t) p)) in
      let refused : SpecPlan = raise place faults.AlreadyDefined in
      same-limited items other (function_size w (length ds) ts) place (if is_undefined w f then defined rest else refused)
      (if is_undefined w f then defined more else refused)
      (same-if items other (is_undefined w f) (defined rest) refused (defined more) refused
      (same-node items other (terms.Function (parameter_list ds) result ts) (λ t. Read (λ v. Write (with_defined v f place t) rest))
      (λ t. Read (λ v. Write (with_defined v f place t) more)) (λ t v. (refl, h)))
      (same-raise items other place faults.AlreadyDefined))

  same-new-function : (place : Place) (declared : Option TypeId) (go goes : FnId → SpecPlan) → SameFrom items other go goes
      → Same items other (new_function place declared go) (new_function place declared goes)
  same-new-function place declared go goes k = λ w. (refl, k (next_function w))

  same-made : (t : Target) (place : Place) (go goes : FnId → SpecPlan) → SameFrom items other go goes
      → Same items other (made t place go) (made t place goes)
  same-made t place go goes k =
      same-new-function place None (λ f. storing t (values.TerraFunction f) (go f)) (λ f. storing t (values.TerraFunction f) (goes f))
      (λ f. same-storing t (values.TerraFunction f) (go f) (goes f) (k f))

  same-standing : (w : StageState) (v : Value) (t : Target) (place : Place) (go goes : FnId → SpecPlan) → SameFrom items other go goes
      → Same items other (standing w v t place go) (standing w v t place goes)
  same-standing w (values.TerraFunction f) t place go goes k =
      same-if items other (may_be_defined w f) (go f) (made t place go) (goes f) (made t place goes) (k f) (same-made t place go goes k)
  same-standing w v t place go goes k = same-made t place go goes k

-- ---- in two trees

module _ (items other : Items) (alike : AreAlike items other) where
  -- ---- targets

  same-steps : (method : Bool) (ns : List NodeId) → Each (HasSameName items other) ns → (object : Value) (go goes : Go)
      → SameGo items other go goes → Same items other (steps items method ns object go) (steps other method ns object goes)
  same-steps method [] same object go goes k =
      same-raise items other (record { line = 0; word = 0 }) (faults.Index (kind_of object))
  same-steps method (n ∷ []) same object go goes k =
      let last : Go → Place → TextId → SpecPlan = λ next place name.
      if method then method_key name object place next else key name object place next in
      same-name items other (name_at items n) (name_at other n) same.0 (last go (place_at items n)) (last goes (place_at other n))
      (λ name. subst (λ p. Same items other (last go (place_at items n) name) (last goes p name)) (place_same items other alike n)
      (same-if items other method (method_key name object (place_at items n) go) (key name object (place_at items n) go)
      (method_key name object (place_at items n) goes) (key name object (place_at items n) goes)
      (same-method-key items other name object (place_at items n) go goes k)
      (same-key items other name object (place_at items n) go goes k)))
  same-steps method (n ∷ m ∷ ns) same object go goes k =
      let one : SpecPlan = steps items method (n ∷ m ∷ ns) object go in
      let more : Value → SpecPlan = λ next. steps other method (m ∷ ns) next goes in
      subst (λ b. Same items other one (index object b (place_at other n) more)) same.0
      (subst (λ p. Same items other one (index object (name_at items n) p more)) (place_same items other alike n)
      (same-index items other object (name_at items n) (place_at items n) (λ next. steps items method (m ∷ ns) next go) more
      (λ next. same-steps method (m ∷ ns) same.1 next go goes k)))

  same-targeted : (ns : List NodeId) → HasSamePath items other ns → (method : Bool) (env : EnvId) (go goes : Go)
      → SameGo items other go goes
      → Same items other (targeted items ns method env go) (targeted other ns method env goes)
  same-targeted [] same method env go goes k = refl
  same-targeted (n ∷ []) same method env go goes k =
      subst (λ o. Same items other (only_name (binder items n) (name_at items n) env go) (only_name o (name_at other n) env goes))
      (alike.binders n)
      (same-only-name items other (binder items n) (name_at items n) (name_at other n) same.0 env go goes k)
  same-targeted (n ∷ m ∷ ns) same method env go goes k =
      let one : SpecPlan = targeted items (n ∷ m ∷ ns) method env go in
      let more : Value → SpecPlan = λ object. steps other method (m ∷ ns) object goes in
      subst (λ o. Same items other one (named_value o (name_at other n) (place_at other n) env more)) (alike.binders n)
      (subst (λ p. Same items other one (named_value (binder items n) (name_at other n) p env more)) (place_same items other alike n)
      (same-named-value items other (binder items n) (name_at items n) (name_at other n) same.0 (place_at items n) env
      (λ object. steps items method (m ∷ ns) object go) more
      (λ object. same-steps method (m ∷ ns) (each (HasSameName items other) (m ∷ ns) same.1) object go goes k)))

  pub same-target : (path : NodeId) (env : EnvId) (go goes : Go) → SameGo items other go goes
      → Same items other (target items path env go) (target other path env goes)
  same-target path env go goes k =
      let one : SpecPlan = targeted items (path_at items path) (names_method items path) env go in (
        refl,
        subst (λ ns. Same items other one (targeted other ns (names_method other path) env goes)) (path_same items other alike path)
            (subst (λ method. Same items other one (targeted other (path_at items path) method env goes))
            (names_method_same items other alike path)
            (same-targeted (path_at items path) (path_names_alike items other alike path) (names_method items path) env go goes k)),
      )

  -- ---- parameters

  same-named-parameter : (p : Typing) (o : Option NodeId) → IfAny (HasSameUse items other) o → (env : EnvId) (ds : List Drawn)
      (go goes : List Drawn → SpecPlan) → SameFrom items other go goes
      → Same items other (named_parameter items p o env ds go) (named_parameter other p o env ds goes)
  same-named-parameter p (Some type) used env ds go goes k =
      let more : Place → TypeId → SymId → List Drawn = λ place of x.
      ds ++ record { symbol = x; of = of; place = place; named = true } ∷ [] in
      let here : Place = place_at items p.name in
      same-type-of items other alike type env used (λ of. draw of (λ x. go (more here of x)))
      (λ of. draw of (λ x. goes (more (place_at other p.name) of x)))
      (λ of. subst (λ at. Same items other (draw of (λ x. go (more here of x))) (draw of (λ x. goes (more at of x))))
      (place_same items other alike p.name)
      (same-draw items other of (λ x. go (more here of x)) (λ x. goes (more here of x)) (λ x. k (more here of x))))
  same-named-parameter p None used env ds go goes k = k ds

  same-parameter : (p : Typing) (o : Option NodeId) → IfAny (HasSameUse items other) o → IfAny (HasSameUse items other) p.type
      → (env : EnvId) (ds : List Drawn) (go goes : List Drawn → SpecPlan) → SameFrom items other go goes
      → Same items other (parameter items p o env ds go) (parameter other p o env ds goes)
  same-parameter p (Some e) used type env ds go goes k =
      let behind : (List Drawn → SpecPlan) → Place → Value → SpecPlan = λ next place v.
      symbols_of v place (λ xs. spliced xs place ds next) in
      let here : Place = place_at items p.name in
      same-eval items other e env used (behind go here) (behind goes (place_at other p.name))
      (λ v. subst (λ at. Same items other (behind go here v) (behind goes at v)) (place_same items other alike p.name)
      (same-symbols-of items other v here (λ xs. spliced xs here ds go) (λ xs. spliced xs here ds goes)
      (λ xs. same-spliced items other xs here ds go goes k)))
  same-parameter p None used type env ds go goes k = same-named-parameter p p.type type env ds go goes k

  same-parameters : (ns : List NodeId) (env : EnvId) (ds : List Drawn) (go goes : List Drawn → SpecPlan) → SameFrom items other go goes
      → Same items other (parameters items ns env ds go) (parameters other ns env ds goes)
  same-parameters [] env ds go goes k = k ds
  same-parameters (n ∷ ns) env ds go goes k =
      let p : Typing = typing_at items n in
      let more : List Drawn → SpecPlan = λ us. parameters items ns env us go in
      let mores : List Drawn → SpecPlan = λ us. parameters other ns env us goes in
      let one : SpecPlan = parameter items p (escaped_at items p.name) env ds more in (
        refl,
        subst (λ t. Same items other one (parameter other t (escaped_at other t.name) env ds mores)) (same-typing items other alike n)
            (subst (λ o. Same items other one (parameter other p o env ds mores)) (same-escaped items other alike p.name)
            (same-parameter p (escaped_at items p.name) (escape-use items other alike p.name)
            (type-use items other alike n) env ds more mores (λ us. same-parameters ns env us go goes k))),
      )

  -- ---- definitions

  same-define : (f : FnId) (parts : TerraParts) → IfAny (HasSameUse items other) parts.result → (owner : NodeId) (struct : Option TypeId)
      (place : Place) (env : EnvId) (rest more : SpecPlan) → Same items other rest more
      → Same items other (define items f parts owner struct place env rest) (define other f parts owner struct place env more)
  same-define f parts used owner struct place env rest more h =
      let body : Items → SpecPlan → List Drawn → Option TypeId → EnvId → SpecPlan = λ tree next ds result inner.
      declaring_all ds inner (block (statements_at tree parts.block) inner [] (λ ts. finish f ds result ts place next)) in
      let typed : Items → SpecPlan → List Drawn → Option TypeId → SpecPlan = λ tree next ds result.
      entering owner env (body tree next ds result) in
      let written : Items → SpecPlan → List Drawn → Option TypeId → SpecPlan = λ tree next ds of.
      Read (λ w. result_type w (declared_type w f) ds of place (typed tree next ds)) in
      let drawn : Items → SpecPlan → List Drawn → SpecPlan = λ tree next ds.
      type_if_any tree parts.result env (written tree next ds) in
      let first : Items → SpecPlan → List Drawn → SpecPlan = λ tree next ds.
      parameters tree parts.parameters env ds (drawn tree next) in (
        refl,
        same-self items other struct place (first items rest) (first other more)
            (λ ds. same-parameters parts.parameters env ds (drawn items rest) (drawn other more)
            (λ all. same-type-if-any items other alike parts.result env used (written items rest all) (written other more all)
            (λ of w. same-result-type items other w (declared_type w f) all of place (typed items rest all) (typed other more all)
            (λ result. same-entering items other owner env (body items rest all result) (body other more all result)
            (λ inner. same-declaring-all items other all inner
            (block (statements_at items parts.block) inner [] (λ ts. finish f all result ts place rest))
            (block (statements_at other parts.block) inner [] (λ ts. finish f all result ts place more))
            (same-statements items other alike parts.block inner [] (λ ts. finish f all result ts place rest)
            (λ ts. finish f all result ts place more) (λ ts. same-finish items other f all result ts place rest more h))))))),
      )

  -- a function's body at its node
  same-body : (f : FnId) (body owner : NodeId) (struct : Option TypeId) (place : Place) (env : EnvId) (rest more : SpecPlan)
      → Same items other rest more
      → Same items other (define items f (terra_parts_at items body) owner struct place env rest)
      (define other f (terra_parts_at other body) owner struct place env more)
  same-body f body owner struct place env rest more h =
      let parts : TerraParts = terra_parts_at items body in
      subst (λ x. Same items other (define items f parts owner struct place env rest) (define other f x owner struct place env more))
      (same-parts items other alike body)
      (same-define f parts (result-use items other alike body) owner struct place env rest more h)

  pub same-terra-plan : (path body n : NodeId) (place : Place) (env : EnvId)
      → Same items other (terra_plan items path body n place env) (terra_plan other path body n place env)
  same-terra-plan path body n place env =
      let go : Items → Option TypeId → FnId → SpecPlan = λ tree struct f.
      define tree f (terra_parts_at tree body) n struct place env over in
      let at : Items → Go = λ tree t struct. Read (λ w. standing w (held_in w.heap t) t place (go tree struct)) in
      same-target path env (at items) (at other)
      (λ t struct w. same-standing items other w (held_in w.heap t) t place (go items struct) (go other struct)
      (λ f. same-body f body n struct place env over over refl))

  pub same-local-terra-plan : (body : NodeId) (place : Place) (env : EnvId)
      → Same items other (local_terra_plan items body place env) (local_terra_plan other body place env)
  same-local-terra-plan body place env =
      let one : Items → FnId → SpecPlan = λ tree f. define tree f (terra_parts_at tree body) body None place env over in
      same-new-function items other place None (λ f. declaring env (values.TerraFunction f) (one items f))
      (λ f. declaring env (values.TerraFunction f) (one other f))
      (λ f. same-declaring items other env (values.TerraFunction f) (one items f) (one other f)
      (same-body f body body None place env over over refl))

  pub same-anonymous-plan : (body : NodeId) (place : Place) (env : EnvId)
      → Same items other (anonymous_plan items body place env) (anonymous_plan other body place env)
  same-anonymous-plan body place env =
      let one : Items → FnId → SpecPlan = λ tree f.
      define tree f (terra_parts_at tree body) body None place env (Give (Gave (values.TerraFunction f))) in
      same-new-function items other place None (one items) (one other)
      (λ f. same-body f body body None place env (Give (Gave (values.TerraFunction f))) (Give (Gave (values.TerraFunction f))) refl)

  -- ---- declarations

  same-function-type : (n : NodeId) (env : EnvId) → HasSameUse items other n → (go goes : TypeId → SpecPlan) → SameFrom items other go goes
      → Same items other (function_type items n env go) (function_type other n env goes)
  same-function-type n env used go goes k =
      let behind : Place → (TypeId → SpecPlan) → TypeId → SpecPlan = λ place next t.
      Read (λ w. if function_form (form_at w t) then next t else raise place faults.NotAType) in
      let here : Place = place_at items n in
      same-type-of items other alike n env used (behind here go) (behind (place_at other n) goes)
      (λ t. subst (λ p. Same items other (behind here go t) (behind p goes t)) (place_same items other alike n)
      (λ w. same-if items other (function_form (form_at w t)) (go t) (raise here faults.NotAType)
      (goes t) (raise here faults.NotAType) (k t)
      (same-raise items other here faults.NotAType)))

  pub same-declare-plan : (path type : NodeId) (place : Place) (env : EnvId) → HasSameUse items other type
      → Same items other (declare_plan items path type place env) (declare_plan other path type place env)
  same-declare-plan path type place env used =
      let one : Target → TypeId → SpecPlan = λ t of. new_function place (Some of) (λ f. storing t (values.TerraFunction f) over) in
      same-target path env (λ t struct. function_type items type env (one t)) (λ t struct. function_type other type env (one t))
      (λ t struct. same-function-type type env used (one t) (one t)
      (λ of. same-new-function items other place (Some of) (λ f. storing t (values.TerraFunction f) over)
      (λ f. storing t (values.TerraFunction f) over) (λ f. same-storing items other t (values.TerraFunction f) over over refl)))

  pub same-local-declare-plan : (type : NodeId) (place : Place) (env : EnvId) → HasSameUse items other type
      → Same items other (local_declare_plan items type place env) (local_declare_plan other type place env)
  same-local-declare-plan type place env used =
      λ w.
      let t : Target = targets.Cell (next_cell w.heap) in
      let one : TypeId → SpecPlan = λ of. new_function place (Some of) (λ f. storing t (values.TerraFunction f) over) in
      same-declaring items other env values.Nil (function_type items type env one) (function_type other type env one)
      (same-function-type type env used one one
      (λ of. same-new-function items other place (Some of) (λ f. storing t (values.TerraFunction f) over)
      (λ f. storing t (values.TerraFunction f) over) (λ f. same-storing items other t (values.TerraFunction f) over over refl)))
