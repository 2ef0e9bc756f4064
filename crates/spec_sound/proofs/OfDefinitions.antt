-- Plans for declarations and definitions are fine.
use Rattle.std.proofs.Common.{◌≡◌, ℕ, ◌<◌, Bool, true, false, List, [], ◌∷◌, ◌++◌, length, Option, Some, None, refl, sym, ap, ◌∙◌, subst}
use Rattle.std.proofs.Common.{arith, slice_get}
use Rattle.std.specs.Prelude.{◌&&◌, nat_lt, if◌then◌else◌}
use Rattle.std.specs.Option.{option_map_or}
use mathlib.Core.Logic.{inl, inr}
use Rattle.std.proofs.lemmas.Bool.{and_parts, eqb-true, ltb-true, ltb-false, lt-ltb}
use Rattle.std.proofs.lemmas.Option.{slice_get_within}
use Rattle.tl_base.specs.declared.ids.EnvId.{EnvId}
use Rattle.tl_base.specs.declared.ids.FnId.{FnId}
use Rattle.tl_base.specs.declared.ids.NodeId.{NodeId}
use Rattle.tl_base.specs.declared.ids.SymId.{SymId}
use Rattle.tl_base.specs.declared.ids.TermId.{TermId}
use Rattle.tl_base.specs.declared.ids.TextId.{TextId}
use Rattle.tl_base.specs.declared.ids.TypeId.{TypeId}
use Rattle.tl_base.specs.declared.place.Place.{Place}
use Rattle.tl_base.specs.Plan.{Read, Write}
use Rattle.lua_value.specs.declared.value.Value.{Value}
use Rattle.lua_value.specs.declared.value.Value.TheVariants as values
use Rattle.lua_value.specs.Values.{kind_of}
use Rattle.lua_table.specs.Cells.{local_cell}
use Rattle.lua_model.specs.Fields.{globals}
use Rattle.tl_tree.specs.Code.{Items, name_at, place_at, path_at, names_method, statements_at}
use Rattle.tl_tree.specs.Scopes.{Found as Declared, binder}
use Rattle.terra_types.specs.declared.types.TypeForm.{TypeForm}
use Rattle.terra_types.specs.declared.types.TypeForm.TheVariants as forms
use Rattle.terra_types.specs.Making.{same_type, same_types}
use Rattle.terra_types.proofs.Growing.{get-seam}
use Rattle.terra_term.specs.declared.store.Function.{Function}
use Rattle.terra_term.specs.declared.store.FunctionState.{FunctionState}
use Rattle.terra_term.specs.declared.store.FunctionState.TheVariants as standing_as
use Rattle.terra_term.specs.declared.term.Term.{Term}
use Rattle.terra_term.specs.declared.term.Term.TheVariants as terms
use Rattle.terra_term.specs.WellTyped.{is_placed}
use Rattle.exotype.specs.declared.fault.Fault.TheVariants as faults
use Rattle.exotype.specs.World.{StageState, with_heap}
use Rattle.exotype.specs.Types.{pointer_id, with_pointer, is_struct, tables_of}
use Rattle.exotype.specs.Terms.{function_size}
use Rattle.check_model.specs.Typing.{function_at}
use Rattle.check_model.specs.Calls.{types_of, params_of, written_in}
use Rattle.check_sound.specs.Sound.{IsSound, IsThere, IsThereIfAny, ParametersAreThere, AreStatements}
use Rattle.check_sound.specs.Growing.{StaysDeclared}
use Rattle.check_sound.proofs.Tests.{no, got, past-get}
use Rattle.spec_model.specs.declared.target.Target.{Target}
use Rattle.spec_model.specs.declared.target.Target.TheVariants as targets
use Rattle.spec_model.specs.declared.wanted.Drawn.{Drawn}
use Rattle.spec_model.specs.Making.{next_symbol, with_symbol, symbol_type, next_function, with_function, declaration, declared_type}
use Rattle.spec_model.specs.Making.{undefined_state, is_undefined, may_be_defined, with_defined, next_term, with_term}
use Rattle.spec_model.specs.Making as making
use Rattle.spec_model.specs.Nodes.{escaped_at, Typing, typing_at, TerraParts}
use Rattle.spec_model.specs.Plans.{SpecPlan, raise, node, block, entering, declaring}
use Rattle.spec_model.specs.Names.{symbols_of}
use Rattle.spec_model.specs.Types.{type_if_any}
use Rattle.spec_model.specs.Definitions.{with_held, storing, Go, key, method_key, steps, only_name, targeted, target, draw, spliced_one}
use Rattle.spec_model.specs.Definitions.{spliced, named_parameter, parameter, parameters, self, parameter_list, drawn_types, declaring_all}
use Rattle.spec_model.specs.Definitions.{agrees, as_declared, result_type, finish, define, new_function, made, standing, function_form}
use Rattle.spec_model.specs.Definitions.{function_type}
use Rattle.spec_sound.proofs.Following.{Next, next-itself, next-twice, there-still, any-still}
use Rattle.spec_sound.proofs.Running.{Fine}
use Rattle.spec_sound.proofs.Writing.{heap-follows, symbol-follows, pointer-follows, term-follows}
use Rattle.spec_sound.proofs.Defining.{Fits, function-follows, function-there, defined-follows}
use Rattle.spec_sound.proofs.OfPlans.{fine-if, fine-text, fine-raise, fine-eval, fine-index, fine-block, fine-entering, fine-declaring}
use Rattle.spec_sound.proofs.OfNames.{WithType, fine-type-of, fine-type-if-any, fine-symbols-of}
use Rattle.spec_sound.proofs.OfExpressions.{fine-named}
use Rattle.spec_sound.proofs.OfStatements.{symbol-there}
use Rattle.spec_sound.proofs.OfQuotes.{fine-limited}

-- a plan that goes on in a world that follows
abbrev pub Goes : StageState → SpecPlan → Type 0
Goes w rest = (v : StageState) → Next w v → Fine rest v

-- ---- where a definition is stored

pub fine-storing : (w : StageState) → IsSound w → (t : Target) (x : Value) (rest : SpecPlan) → Goes w rest →
    Fine (storing t x rest) w
fine-storing w sound t x rest k =
    let heap = with_held w.heap t x in
    let f = heap-follows w sound heap in
    (f, k (with_heap w heap) f)

-- a target, with the struct whose method is defined, if one is
abbrev pub WithTarget : StageState → Go → Type 0
WithTarget w go = (t : Target) (o : Option TypeId) (v : StageState) → Next w v → IsThereIfAny v o → Fine (go t o) v

fine-key : (w : StageState) → IsSound w → (name : TextId) (x : Value) (place : Place) (go : Go) → WithTarget w go →
    Fine (key name x place go) w
fine-key w sound name (values.Table t) place go k = k (targets.Key t name) None w (next-itself w sound) tt
fine-key w sound name x place go k = fine-raise w sound place (faults.Index (kind_of x))

struct-is : (w : StageState) (t : TypeId) → is_struct w t ≡ true → IsThere w t
struct-is w t h = by (nat_lt t.0 (length w.store.types)) refl
  where
    none : slice_get w.store.types t.0 ≡ None → is_struct w t ≡ false
    none at = rw at refl

    by : (c : Bool) → nat_lt t.0 (length w.store.types) ≡ c → c ≡ true
    by true e = refl
    by false e = absurd (no (sym (none (past-get w.store.types t.0 (ltb-false t.0 (length w.store.types) e))) ∙ h))

fine-method-key : (w : StageState) → IsSound w → (name : TextId) (x : Value) (place : Place) (go : Go) →
    WithTarget w go → Fine (method_key name x place go) w
fine-method-key w sound name (values.TerraType t) place go k =
    fine-if w (is_struct w t) (go (targets.Key (tables_of w t).methods name) (Some t))
    (raise place (faults.Index (kind_of (values.TerraType t))))
    (λ c. k (targets.Key (tables_of w t).methods name) (Some t) w (next-itself w sound) (struct-is w t c))
    (λ c. fine-raise w sound place (faults.Index (kind_of (values.TerraType t))))
fine-method-key w sound name x place go k = fine-raise w sound place (faults.Index (kind_of x))

fine-steps : (w : StageState) → IsSound w →
    (items : Items) (method : Bool) (ns : List NodeId) (object : Value) (go : Go) →
    WithTarget w go → Fine (steps items method ns object go) w
fine-steps w sound items method [] object go k =
    fine-raise w sound (record { line = 0; word = 0 }) (faults.Index (kind_of object))
fine-steps w sound items method (n ∷ []) object go k =
    fine-text w sound (name_at items n)
    (λ name. if method then method_key name object (place_at items n) go else key name object (place_at items n) go)
    (λ name v f.
    let on : WithTarget v go = λ t o u g there. k t o u (next-twice w v u f g) there in
    fine-if v method (method_key name object (place_at items n) go) (key name object (place_at items n) go)
    (λ c. fine-method-key v f.sound name object (place_at items n) go on)
    (λ c. fine-key v f.sound name object (place_at items n) go on))
fine-steps w sound items method (n ∷ m ∷ ns) object go k =
    fine-index w sound object (name_at items n) (place_at items n) (λ next. steps items method (m ∷ ns) next go)
    (λ next v f. fine-steps v f.sound items method (m ∷ ns) next go
    (λ t o u g there. k t o u (next-twice w v u f g) there))

fine-only-name : (w : StageState) → IsSound w → (d : Option Declared) (name : List ℕ) (env : EnvId) (go : Go) →
    WithTarget w go → Fine (only_name d name env go) w
fine-only-name w sound (Some d) name env go k =
    k (targets.Cell (local_cell w.heap env d.depth d.position)) None w (next-itself w sound) tt
fine-only-name w sound None name env go k =
    fine-text w sound name (λ text. go (targets.Key globals text) None)
    (λ text v f. k (targets.Key globals text) None v f tt)

fine-targeted : (w : StageState) → IsSound w →
    (items : Items) (ns : List NodeId) (method : Bool) (env : EnvId) (go : Go) →
    WithTarget w go → Fine (targeted items ns method env go) w
fine-targeted w sound items [] method env go k = tt
fine-targeted w sound items (n ∷ []) method env go k =
    fine-only-name w sound (binder items n) (name_at items n) env go k
fine-targeted w sound items (n ∷ m ∷ ns) method env go k =
    fine-named w sound (binder items n) (name_at items n) (place_at items n) env
    (λ object. steps items method (m ∷ ns) object go)
    (λ object v f. fine-steps v f.sound items method (m ∷ ns) object go
    (λ t o u g there. k t o u (next-twice w v u f g) there))

pub fine-target : (w : StageState) → IsSound w → (items : Items) (path : NodeId) (env : EnvId) (go : Go) →
    WithTarget w go → Fine (target items path env go) w
fine-target w sound items path env go k =
    fine-targeted w sound items (path_at items path) (names_method items path) env go k

-- ---- parameters

-- the types of what is drawn are there
abbrev AreDrawn : StageState → List Drawn → Type 0
AreDrawn w [] = Unit {0}
AreDrawn w (d ∷ ds) = IsThere w d.of × AreDrawn w ds

drawn-still : (w v : StageState) → IsSound w → Next w v → (ds : List Drawn) → AreDrawn w ds → AreDrawn v ds
drawn-still w v sound f [] h = tt
drawn-still w v sound f (d ∷ ds) h = (there-still w v sound f d.of h.0, drawn-still w v sound f ds h.1)

drawn-snoc : (w : StageState) (ds : List Drawn) (d : Drawn) → AreDrawn w ds → IsThere w d.of → AreDrawn w (ds ++ d ∷ [])
drawn-snoc w [] d h k = (k, tt)
drawn-snoc w (x ∷ ds) d h k = (h.0, drawn-snoc w ds d h.1 k)

abbrev WithDrawn : StageState → (List Drawn → SpecPlan) → Type 0
WithDrawn w go = (ds : List Drawn) (v : StageState) → Next w v → AreDrawn v ds → Fine (go ds) v

fine-draw : (w : StageState) → IsSound w → (of : TypeId) (go : SymId → SpecPlan) → IsThere w of →
    ((x : SymId) (v : StageState) → Next w v → Fine (go x) v) → Fine (draw of go) w
fine-draw w sound of go there k =
    let f = symbol-follows w sound (Some of) there in
    (f, k (next_symbol w) (with_symbol w (Some of)) f)

fine-spliced-one : (w : StageState) → IsSound w → (x : SymId) (o : Option TypeId) (place : Place) (ds : List Drawn)
    (go : List Drawn → SpecPlan) → IsThereIfAny w o → AreDrawn w ds → WithDrawn w go →
    Fine (spliced_one x o place ds go) w
fine-spliced-one w sound x (Some of) place ds go there are k =
    let d : Drawn = record { symbol = x; of = of; place = place; named = false } in
    k (ds ++ d ∷ []) w (next-itself w sound) (drawn-snoc w ds d are there)
fine-spliced-one w sound x None place ds go there are k = fine-raise w sound place faults.SymbolWithoutType

fine-spliced : (w : StageState) → IsSound w → (xs : List SymId) (place : Place) (ds : List Drawn)
    (go : List Drawn → SpecPlan) → AreDrawn w ds → WithDrawn w go → Fine (spliced xs place ds go) w
fine-spliced w sound [] place ds go are k = k ds w (next-itself w sound) are
fine-spliced w sound (x ∷ xs) place ds go are k =
    fine-spliced-one w sound x (symbol_type w x) place ds (λ more. spliced xs place more go)
    (symbol-there w sound x.0 (slice_get w.store.symbols x.0) refl) are
    (λ more v f so. fine-spliced v f.sound xs place more go so
    (λ us u g all. k us u (next-twice w v u f g) all))

fine-named-parameter : (w : StageState) → IsSound w → (items : Items) (p : Typing) (o : Option NodeId) (env : EnvId)
    (ds : List Drawn) (go : List Drawn → SpecPlan) → AreDrawn w ds → WithDrawn w go →
    Fine (named_parameter items p o env ds go) w
fine-named-parameter w sound items p (Some type) env ds go are k =
    fine-type-of w items type env
    (λ of. draw of (λ x. go (ds ++ record { symbol = x; of = of; place = place_at items p.name; named = true } ∷ [])))
    (λ of v f there. fine-draw v f.sound of
    (λ x. go (ds ++ record { symbol = x; of = of; place = place_at items p.name; named = true } ∷ [])) there
    (λ x u g.
    let d : Drawn = record { symbol = x; of = of; place = place_at items p.name; named = true } in
    let h = next-twice w v u f g in
    k (ds ++ d ∷ []) u h (drawn-snoc u ds d (drawn-still w u sound h ds are) (there-still v u f.sound g of there))))
fine-named-parameter w sound items p None env ds go are k = k ds w (next-itself w sound) are

fine-parameter : (w : StageState) → IsSound w → (items : Items) (p : Typing) (o : Option NodeId) (env : EnvId)
    (ds : List Drawn) (go : List Drawn → SpecPlan) → AreDrawn w ds → WithDrawn w go →
    Fine (parameter items p o env ds go) w
fine-parameter w sound items p (Some e) env ds go are k =
    let place = place_at items p.name in
    fine-eval w e env (λ v. symbols_of v place (λ xs. spliced xs place ds go))
    (λ x v f. fine-symbols-of v f.sound x place (λ xs. spliced xs place ds go)
    (λ xs. fine-spliced v f.sound xs place ds go (drawn-still w v sound f ds are)
    (λ us u g all. k us u (next-twice w v u f g) all)))
fine-parameter w sound items p None env ds go are k = fine-named-parameter w sound items p p.type env ds go are k

fine-parameters : (w : StageState) → IsSound w → (items : Items) (ns : List NodeId) (env : EnvId) (ds : List Drawn)
    (go : List Drawn → SpecPlan) → AreDrawn w ds → WithDrawn w go → Fine (parameters items ns env ds go) w
fine-parameters w sound items [] env ds go are k = k ds w (next-itself w sound) are
fine-parameters w sound items (n ∷ ns) env ds go are k =
    fine-parameter w sound items (typing_at items n) (escaped_at items (typing_at items n).name) env ds
    (λ more. parameters items ns env more go) are
    (λ more v f so. fine-parameters v f.sound items ns env more go so
    (λ us u g all. k us u (next-twice w v u f g) all))

fine-self : (w : StageState) → IsSound w → (o : Option TypeId) (place : Place) (go : List Drawn → SpecPlan) →
    IsThereIfAny w o → WithDrawn w go → Fine (self o place go) w
fine-self w sound None place go there k = k [] w (next-itself w sound) tt
fine-self w sound (Some struct) place go there k =
    let p = pointer-follows w sound struct there in
    let v = with_pointer w struct in (
      p.0,
      fine-draw v p.0.sound (pointer_id w struct)
          (λ x. go (record { symbol = x; of = pointer_id w struct; place = place; named = true } ∷ [])) p.1
          (λ x u g. k (record { symbol = x; of = pointer_id w struct; place = place; named = true } ∷ []) u
          (next-twice w v u p.0 g) (there-still v u p.0.sound g (pointer_id w struct) p.1, tt)),
    )

fine-declaring-all : (w : StageState) → IsSound w → (ds : List Drawn) (env : EnvId) (rest : SpecPlan) → Goes w rest →
    Fine (declaring_all ds env rest) w
fine-declaring-all w sound [] env rest k = k w (next-itself w sound)
fine-declaring-all w sound (d ∷ ds) env rest k =
    fine-if w d.named (declaring env (values.Symbol d.symbol) (declaring_all ds env rest)) (declaring_all ds env rest)
    (λ c. fine-declaring w sound env (values.Symbol d.symbol) (declaring_all ds env rest)
    (λ v f. fine-declaring-all v f.sound ds env rest (λ u g. k u (next-twice w v u f g))))
    (λ c. fine-declaring-all w sound ds env rest k)

-- ---- a declaration's type

types-same : (ps qs : List TypeId) → same_types ps qs ≡ true → ps ≡ qs
types-same [] [] h = refl
types-same (p ∷ ps) (q ∷ qs) h =
    let both = and_parts (same_type p q) (same_types ps qs) h in
    ap (λ n. record { 0 = n } ∷ ps) (eqb-true p.0 q.0 both.0) ∙ ap (λ l. q ∷ l) (types-same ps qs both.1)
types-same [] (q ∷ qs) h = absurd (no h)
types-same (p ∷ ps) [] h = absurd (no h)

-- the result of a definition, with which a declared type of the function agrees
abbrev WithResult : StageState → Function → List Drawn → (Option TypeId → SpecPlan) → Type 0
WithResult w g ds go = (result : Option TypeId) → IsThereIfAny w result → Fits w g (drawn_types ds) result →
    Fine (go result) w

fine-as-declared : (w : StageState) → IsSound w → (g : Function) (t : TypeId) (o : Option TypeForm) →
    g.declared ≡ Some t →
    slice_get w.store.types t.0 ≡ o → (ds : List Drawn) (written : Option TypeId) (place : Place)
    (go : Option TypeId → SpecPlan) → WithResult w g ds go → Fine (as_declared o ds written place go) w
fine-as-declared w sound g t (Some (forms.Function ps r)) is at ds written place go k =
    fine-if w (same_types (drawn_types ds) ps && agrees written r) (go (Some r))
    (raise place faults.DiffersFromDeclaration)
    (λ c.
    let same = types-same (drawn_types ds) ps (and_parts (same_types (drawn_types ds) ps) (agrees written r) c).0 in
    let below : r.0 < t.0 = (sound.types.before t.0 (forms.Function ps r) at).1 in
    let within : t.0 < length w.store.types = slice_get_within w.store.types t.0 (forms.Function ps r) at in
    k (Some r) (lt-ltb r.0 (length w.store.types) (omega (arith, below, within)))
    (inr (t, (r, (is, (at ∙ ap (λ l. Some (forms.Function l r)) (sym same), refl))))))
    (λ c. fine-raise w sound place faults.DiffersFromDeclaration)
fine-as-declared w sound g t o is at ds written place go k = fine-raise w sound place faults.DiffersFromDeclaration

fine-result-type : (w : StageState) → IsSound w → (g : Function) (o : Option TypeId) → g.declared ≡ o →
    (ds : List Drawn)
    (written : Option TypeId) (place : Place) (go : Option TypeId → SpecPlan) → IsThereIfAny w written →
    WithResult w g ds go → Fine (result_type w o ds written place go) w
fine-result-type w sound g None is ds written place go there k = k written there (inl is)
fine-result-type w sound g (Some t) is ds written place go there k =
    fine-as-declared w sound g t (making.form_at w t) is refl ds written place go k

-- ---- definitions

-- a function that is there
pub record IsFunction (w : StageState) (f : FnId) : Type 0 where
  pub it : Function
  pub at : function_at w f ≡ Some it

pub function-still : (w v : StageState) (f : FnId) → Next w v → IsFunction w f → IsFunction v f
function-still w v f follows h =
    let d = follows.leads.declared f h.it h.at in
    record { it = d.now; at = d.at }

-- what fits stays so
fits-still : (w v : StageState) (f : FnId) (g : Function) → Next w v → (d : StaysDeclared v f g) (ps : List TypeId)
    (result : Option TypeId) → Fits w g ps result → Fits v d.now ps result
fits-still w v f g follows d ps result (inl none) = inl (d.declared ∙ none)
fits-still w v f g follows d ps result (inr k) =
    let now = follows.leads.grows.types k.0.0 (forms.Function ps k.1.0) k.1.1.1.0 in
    inr (k.0, (k.1.0, (d.declared ∙ k.1.1.0, (now.1.0 ∙ ap (λ x. Some x) now.1.1, k.1.1.1.1))))

parameters-there : (w : StageState) (ds : List Drawn) → AreDrawn w ds → ParametersAreThere w (parameter_list ds)
parameters-there w [] h = tt
parameters-there w (d ∷ ds) h = (h.0, parameters-there w ds h.1)

types-of-drawn : (ds : List Drawn) → types_of (parameter_list ds) ≡ drawn_types ds
types-of-drawn [] = refl
types-of-drawn (d ∷ ds) = ap (λ l. d.of ∷ l) (types-of-drawn ds)

undefined-is : (z : FunctionState) → undefined_state z ≡ true → z ≡ standing_as.Undefined
undefined-is standing_as.Undefined h = refl
undefined-is (standing_as.Defined t) h = absurd (no h)
undefined-is (standing_as.Typing t) h = absurd (no h)
undefined-is (standing_as.Typed t made) h = absurd (no h)
undefined-is (standing_as.Refused t why) h = absurd (no h)

-- what a function's term takes from its world
record Finishes (w : StageState) (g : Function) (ds : List Drawn) (result : Option TypeId)
    (ts : List TermId) : Type 0 where
  fits : Fits w g (drawn_types ds) result
  drawn : AreDrawn w ds
  result_there : IsThereIfAny w result
  statements : AreStatements w ts

fine-take : (w : StageState) → IsSound w → (f : FnId) (g : Function) → function_at w f ≡ Some g →
    is_undefined w f ≡ true → (ds : List Drawn) (result : Option TypeId) (ts : List TermId) (place : Place) →
    is_placed place ≡ true → Finishes w g ds result ts → (rest : SpecPlan) → Goes w rest →
    Fine (node (terms.Function (parameter_list ds) result ts) (λ t. Read (λ v. Write
    (with_defined v f place t) rest))) w
fine-take w sound f g at undefined ds result ts place placed h rest k =
    let term : Term = terms.Function (parameter_list ds) result ts in
    let v = with_term w term in
    let t = next_term w in
    let one = term-follows w sound term (parameters-there w ds h.drawn, (h.result_there, h.statements)) in
    let there : slice_get v.store.terms t.0 ≡ Some term = get-seam w.store.terms term in
    let state : g.state ≡ standing_as.Undefined =
    undefined-is g.state
    (ap (λ o. undefined_state (option_map_or (λ (x : Function). x.state) o standing_as.Undefined))
    (sym at) ∙ undefined) in
    let fits : Fits v g (params_of (slice_get v.store.terms t.0)) (written_in (slice_get v.store.terms t.0)) =
    subst (λ o. Fits v g (params_of o) (written_in o)) (sym there)
    (subst (λ ps. Fits w g ps result) (sym (types-of-drawn ds)) h.fits) in
    let two = defined-follows v one.sound f g at state place placed t
    (slice_get_within v.store.terms t.0 term there) fits in
    (one, (two, k (with_defined v f place t) (next-twice w v (with_defined v f place t) one two)))

fine-finish : (w : StageState) → IsSound w → (f : FnId) (g : Function) → function_at w f ≡ Some g → (ds : List Drawn)
    (result : Option TypeId) (ts : List TermId) (place : Place) → is_placed place ≡ true → Finishes w g ds result ts →
    (rest : SpecPlan) → Goes w rest → Fine (finish f ds result ts place rest) w
fine-finish w sound f g at ds result ts place placed h rest k =
    fine-limited w sound (function_size w (length ds) ts) place
    (if is_undefined w f
    then node (terms.Function (parameter_list ds) result ts) (λ t. Read (λ v. Write (with_defined v f place t) rest))
    else raise place faults.AlreadyDefined)
    (fine-if w (is_undefined w f)
    (node (terms.Function (parameter_list ds) result ts) (λ t. Read (λ v. Write (with_defined v f place t) rest)))
    (raise place faults.AlreadyDefined)
    (λ c. fine-take w sound f g at c ds result ts place placed h rest k)
    (λ c. fine-raise w sound place faults.AlreadyDefined))

-- the plans behind the parameters, and behind the result type
abbrev of_body : Items → FnId → TerraParts → NodeId → Place → EnvId → SpecPlan → List Drawn → Option TypeId → SpecPlan
of_body items f parts owner place env rest ds result =
    entering owner env (λ inner. declaring_all ds inner
    (block (statements_at items parts.block) inner [] (λ ts. finish f ds result ts place rest)))

fine-body : (w : StageState) → IsSound w → (items : Items) (f : FnId) (g : Function) → function_at w f ≡ Some g →
    (parts : TerraParts) (owner : NodeId) (place : Place) (env : EnvId) (rest : SpecPlan) (ds : List Drawn)
    (result : Option TypeId) → is_placed place ≡ true → Fits w g (drawn_types ds) result → AreDrawn w ds →
    IsThereIfAny w result → Goes w rest → Fine (of_body items f parts owner place env rest ds result) w
fine-body w sound items f g at parts owner place env rest ds result placed fits are there k =
    fine-entering w sound owner env
    (λ inner. declaring_all ds inner
    (block (statements_at items parts.block) inner [] (λ ts. finish f ds result ts place rest)))
    (λ inner v a. fine-declaring-all v a.sound ds inner
    (block (statements_at items parts.block) inner [] (λ ts. finish f ds result ts place rest))
    (λ u b. fine-block u b.sound (statements_at items parts.block) inner [] (λ ts. finish f ds result ts place rest) tt
    (λ ts x c statements.
    let whole = next-twice w u x (next-twice w v u a b) c in
    let d = whole.leads.declared f g at in
    fine-finish x c.sound f d.now d.at ds result ts place placed
    (record {
      fits = fits-still w x f g whole d (drawn_types ds) result fits;
      drawn = drawn-still w x sound whole ds are;
      result_there = any-still w x sound whole result there;
      statements = statements;
    })
    rest (λ y e. k y (next-twice w x y whole e)))))

abbrev of_written : Items → FnId → TerraParts → NodeId → Place → EnvId → SpecPlan → List Drawn → Option TypeId →
    SpecPlan
of_written items f parts owner place env rest ds written =
    Read (λ w. result_type w (declared_type w f) ds written place
    (λ result. of_body items f parts owner place env rest ds result))

fine-written : (w : StageState) → IsSound w → (items : Items) (f : FnId) → IsFunction w f → (parts : TerraParts)
    (owner : NodeId) (place : Place) (env : EnvId) (rest : SpecPlan) (ds : List Drawn) (written : Option TypeId) →
    is_placed place ≡ true → AreDrawn w ds → IsThereIfAny w written → Goes w rest →
    Fine (of_written items f parts owner place env rest ds written) w
fine-written w sound items f h parts owner place env rest ds written placed are there k =
    fine-result-type w sound h.it (declared_type w f) (sym (ap declaration h.at)) ds written place
    (λ result. of_body items f parts owner place env rest ds result) there
    (λ result so fits. fine-body w sound items f h.it h.at parts owner place env rest ds result placed fits are so k)

pub fine-define : (w : StageState) → IsSound w → (items : Items) (f : FnId) → IsFunction w f → (parts : TerraParts)
    (owner : NodeId) (struct : Option TypeId) → IsThereIfAny w struct → (place : Place) → is_placed place ≡ true →
    (env : EnvId) (rest : SpecPlan) → Goes w rest → Fine (define items f parts owner struct place env rest) w
fine-define w sound items f h parts owner struct there place placed env rest k =
    fine-self w sound struct place
    (λ first. parameters items parts.parameters env first (λ ds. type_if_any items parts.result env
    (λ written. of_written items f parts owner place env rest ds written))) there
    (λ first v a are. fine-parameters v a.sound items parts.parameters env first
    (λ ds. type_if_any items parts.result env (λ written. of_written items f parts owner place env rest ds written)) are
    (λ ds u b drawn. fine-type-if-any u b.sound items parts.result env
    (λ written. of_written items f parts owner place env rest ds written)
    (λ written x c so.
    let whole = next-twice w u x (next-twice w v u a b) c in
    fine-written x c.sound items f (function-still w x f whole h) parts owner place env rest ds written placed
    (drawn-still u x b.sound c ds drawn) so (λ y e. k y (next-twice w x y whole e)))))

-- a function, and the goal behind it
abbrev pub WithFunction : StageState → (FnId → SpecPlan) → Type 0
WithFunction w go = (f : FnId) (v : StageState) → Next w v → IsFunction v f → Fine (go f) v

pub fine-new-function : (w : StageState) → IsSound w → (place : Place) (declared : Option TypeId) (go : FnId →
    SpecPlan) →
    is_placed place ≡ true → IsThereIfAny w declared → WithFunction w go → Fine (new_function place declared go) w
fine-new-function w sound place declared go placed there k =
    let f = function-follows w sound place declared placed there in (
      f,
      k (next_function w) (with_function w place declared) f
          (record {
            it = record { place = place; declared = declared; state = standing_as.Undefined };
            at = function-there w sound place declared placed there;
          }),
    )

fine-made : (w : StageState) → IsSound w → (t : Target) (place : Place) (go : FnId → SpecPlan) →
    is_placed place ≡ true →
    WithFunction w go → Fine (made t place go) w
fine-made w sound t place go placed k =
    fine-new-function w sound place None (λ f. storing t (values.TerraFunction f) (go f)) placed tt
    (λ f v a h. fine-storing v a.sound t (values.TerraFunction f) (go f)
    (λ u b. k f u (next-twice w v u a b) (function-still v u f b h)))

pub fine-standing : (w : StageState) → IsSound w → (x : Value) (t : Target) (place : Place) (go : FnId → SpecPlan) →
    is_placed place ≡ true → WithFunction w go → Fine (standing w x t place go) w
fine-standing w sound (values.TerraFunction f) t place go placed k =
    fine-if w (may_be_defined w f) (go f) (made t place go)
    (λ c.
    let within = (and_parts (nat_lt f.0 (length w.store.functions)) (is_undefined w f) c).0 in
    let g = got w.store.functions f.0 (ltb-true f.0 (length w.store.functions) within) in
    k f w (next-itself w sound) (record { it = g.0; at = g.1 }))
    (λ c. fine-made w sound t place go placed k)
fine-standing w sound x t place go placed k = fine-made w sound t place go placed k

-- ---- declarations

pub fine-function-type : (w : StageState) (items : Items) (n : NodeId) (env : EnvId) (go : TypeId → SpecPlan) →
    WithType w go → Fine (function_type items n env go) w
fine-function-type w items n env go k =
    fine-type-of w items n env
    (λ t. Read (λ v. if function_form (making.form_at v t) then go t else raise (place_at items n) faults.NotAType))
    (λ t v f there. fine-if v (function_form (making.form_at v t)) (go t) (raise (place_at items n) faults.NotAType)
    (λ c. k t v f there) (λ c. fine-raise v f.sound (place_at items n) faults.NotAType))
