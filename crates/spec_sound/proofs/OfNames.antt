-- Plans for types, names and symbols are fine; and nodes of a tree have places of a text.
use Rattle.std.proofs.Common.{◌≡◌, ℕ, zero, suc, true, List, [], ◌∷◌, ◌++◌, Option, Some, None, refl, get_or}
use Rattle.tl_base.specs.declared.ids.EnvId.{EnvId}
use Rattle.tl_base.specs.declared.ids.NodeId.{NodeId}
use Rattle.tl_base.specs.declared.ids.SymId.{SymId}
use Rattle.tl_base.specs.declared.ids.TextId.{TextId}
use Rattle.tl_base.specs.declared.ids.TypeId.{TypeId}
use Rattle.tl_base.specs.declared.place.Place.{Place}
use Rattle.lua_value.specs.declared.value.Value.{Value}
use Rattle.lua_value.specs.declared.value.Value.TheVariants as values
use Rattle.lua_value.specs.Values.{kind_of}
use Rattle.lua_table.specs.Heap.{table_at}
use Rattle.tl_tree.specs.Item.{Item}
use Rattle.tl_tree.specs.Nodes.{item_at, absent_item}
use Rattle.tl_tree.specs.Code.{Items, name_at, place_at, place_of}
use Rattle.terra_types.specs.Opening.{unit}
use Rattle.terra_term.specs.WellTyped.{is_placed}
use Rattle.exotype.specs.declared.fault.Fault.TheVariants as faults
use Rattle.exotype.specs.World.{StageState}
use Rattle.exotype.specs.Types.{is_type}
use Rattle.check_sound.specs.Sound.{IsSound, IsThere, IsThereIfAny}
use Rattle.spec_model.specs.Making.{with_name}
use Rattle.spec_model.specs.Nodes.{escaped_at}
use Rattle.spec_model.specs.Plans.{SpecPlan, raise, values_in}
use Rattle.spec_model.specs.Types.{type_there, type_in, as_type, type_of, type_if_any}
use Rattle.spec_model.specs.Names.{text_in, member_of, member, naming, symbols_in, symbols_of, symbol_of}
use Rattle.spec_sound.specs.Sound.{word_of, ArePlaced}
use Rattle.spec_sound.proofs.Following.{Next, next-itself, next-twice}
use Rattle.spec_sound.proofs.Running.{Fine}
use Rattle.spec_sound.proofs.Writing.{name-follows}
use Rattle.spec_sound.proofs.OfPlans.{fine-if, fine-text, fine-raise, fine-eval}

-- ---- places of nodes

abbrev IsPlacedItem : Item → Type 0
IsPlacedItem x = (is_placed (place_of x) ≡ true) × (is_placed (word_of x) ≡ true)

placed-in : (items : Items) (i : ℕ) → ArePlaced items → IsPlacedItem (get_or items i absent_item)
placed-in [] i h = (refl, refl)
placed-in (x ∷ items) zero h = h zero x refl
placed-in (x ∷ items) (suc i) h = placed-in items i (λ j y at. h (suc j) y at)

pub placed-at : (items : Items) → ArePlaced items → (n : NodeId) → is_placed (place_at items n) ≡ true
placed-at items h n = (placed-in items n.0 h).0

pub word-placed : (items : Items) → ArePlaced items → (n : NodeId) → is_placed (word_of (item_at items n)) ≡ true
word-placed items h n = (placed-in items n.0 h).1

-- ---- types

-- a type that is there, and the goal behind it
abbrev pub WithType : StageState → (TypeId → SpecPlan) → Type 0
WithType w go = (t : TypeId) (v : StageState) → Next w v → IsThere v t → Fine (go t) v

pub fine-there : (w : StageState) → IsSound w → (t : TypeId) (place : Place) (go : TypeId → SpecPlan) → WithType w go →
    Fine (type_there t place go) w
fine-there w sound t place go k =
    fine-if w (is_type w.store.types t) (go t) (raise place faults.NotAType)
    (λ there. k t w (next-itself w sound) there) (λ c. fine-raise w sound place faults.NotAType)

fine-type-in : (w : StageState) → IsSound w → (xs : List Value) (place : Place) (go : TypeId → SpecPlan) →
    WithType w go → Fine (type_in xs place go) w
fine-type-in w sound [] place go k = fine-there w sound unit place go k
fine-type-in w sound (values.TerraType t ∷ []) place go k = fine-there w sound t place go k
fine-type-in w sound xs place go k = fine-raise w sound place faults.NotAType

pub fine-as-type : (w : StageState) → IsSound w → (x : Value) (place : Place) (go : TypeId → SpecPlan) → WithType w go →
    Fine (as_type x place go) w
fine-as-type w sound (values.TerraType t) place go k = fine-there w sound t place go k
fine-as-type w sound (values.Table t) place go k = fine-type-in w sound (values_in (table_at w.heap t)) place go k
fine-as-type w sound x place go k = fine-raise w sound place faults.NotAType

pub fine-type-of : (w : StageState) (items : Items) (n : NodeId) (env : EnvId) (go : TypeId → SpecPlan) →
    WithType w go →
    Fine (type_of items n env go) w
fine-type-of w items n env go k =
    fine-eval w n env (λ x. as_type x (place_at items n) go)
    (λ x v f. fine-as-type v f.sound x (place_at items n) go
    (λ t u g there. k t u (next-twice w v u f g) there))

abbrev pub WithTypeIfAny : StageState → (Option TypeId → SpecPlan) → Type 0
WithTypeIfAny w go = (o : Option TypeId) (v : StageState) → Next w v → IsThereIfAny v o → Fine (go o) v

pub fine-type-if-any : (w : StageState) → IsSound w → (items : Items) (o : Option NodeId) (env : EnvId)
    (go : Option TypeId → SpecPlan) → WithTypeIfAny w go → Fine (type_if_any items o env go) w
fine-type-if-any w sound items (Some n) env go k =
    fine-type-of w items n env (λ t. go (Some t)) (λ t v f there. k (Some t) v f there)
fine-type-if-any w sound items None env go k = k None w (next-itself w sound) tt

-- ---- behind `.` and `:`

abbrev pub WithText : StageState → (TextId → SpecPlan) → Type 0
WithText w go = (t : TextId) (v : StageState) → Next w v → Fine (go t) v

fine-text-in : (w : StageState) → IsSound w → (x : Value) (place : Place) (go : TextId → SpecPlan) → WithText w go →
    Fine (text_in x place go) w
fine-text-in w sound (values.Text text) place go k = k text w (next-itself w sound)
fine-text-in w sound x place go k = fine-raise w sound place (faults.InTerraCode (kind_of x))

fine-member-of : (w : StageState) → IsSound w → (items : Items) (o : Option NodeId) (n : NodeId) (env : EnvId)
    (go : TextId → SpecPlan) → WithText w go → Fine (member_of items o n env go) w
fine-member-of w sound items (Some e) n env go k =
    fine-eval w e env (λ x. text_in x (place_at items n) go)
    (λ x v f. fine-text-in v f.sound x (place_at items n) go (λ t u g. k t u (next-twice w v u f g)))
fine-member-of w sound items None n env go k = fine-text w sound (name_at items n) go k

pub fine-member : (w : StageState) → IsSound w → (items : Items) (n : NodeId) (env : EnvId) (go : TextId → SpecPlan) →
    WithText w go → Fine (member items n env go) w
fine-member w sound items n env go k = fine-member-of w sound items (escaped_at items n) n env go k

pub fine-naming : (w : StageState) → IsSound w → (text : TextId) (rest : SpecPlan) →
    ((v : StageState) → Next w v → Fine rest v) → Fine (naming text rest) w
fine-naming w sound text rest k = let f = name-follows w sound text in (f, k (with_name w text) f)

-- ---- in the place of a declared name

abbrev pub WithSymbols : StageState → (List SymId → SpecPlan) → Type 0
WithSymbols w go = (xs : List SymId) → Fine (go xs) w

fine-symbols-in : (w : StageState) → IsSound w → (vs : List Value) (place : Place) (xs : List SymId)
    (go : List SymId → SpecPlan) → WithSymbols w go → Fine (symbols_in vs place xs go) w
fine-symbols-in w sound [] place xs go k = k xs
fine-symbols-in w sound (values.Symbol x ∷ vs) place xs go k = fine-symbols-in w sound vs place (xs ++ x ∷ []) go k
fine-symbols-in w sound (v ∷ vs) place xs go k = fine-raise w sound place (faults.InTerraCode (kind_of v))

pub fine-symbols-of : (w : StageState) → IsSound w → (x : Value) (place : Place) (go : List SymId → SpecPlan) →
    WithSymbols w go → Fine (symbols_of x place go) w
fine-symbols-of w sound (values.Symbol x) place go k = k (x ∷ [])
fine-symbols-of w sound (values.Table t) place go k =
    fine-symbols-in w sound (values_in (table_at w.heap t)) place [] go k
fine-symbols-of w sound x place go k = fine-raise w sound place (faults.InTerraCode (kind_of x))

pub fine-symbol-of : (w : StageState) → IsSound w → (x : Value) (place : Place) (go : SymId → SpecPlan) →
    ((s : SymId) → Fine (go s) w) → Fine (symbol_of x place go) w
fine-symbol-of w sound (values.Symbol x) place go k = k x
fine-symbol-of w sound x place go k = fine-raise w sound place (faults.InTerraCode (kind_of x))
