-- What the steps of definitions do: what is paid, what was made and stored first, parameters, and a function's term.
use Rattle.std.proofs.Common.{◌≡◌, ℕ, ◌+◌, ◌-◌, ◌≤◌, ◌<◌, Bool, true, false, ◌&&◌, List, [], ◌∷◌, ◌++◌, length, drop, get_or, refl, sym, ap}
use Rattle.std.proofs.Common.{subst, ◌∙◌, Option, Some, None, arith}
use Rattle.std.specs.Prelude.{if◌then◌else◌, option_and_then, ◌↔◌, IsTrue}
use Rattle.std.specs.Bool.{OnTrue, OnFalse}
use Rattle.std.proofs.lemmas.List.{at_drop_more, at_drop_all, append_assoc, append-nil}
use Rattle.tl_base.specs.declared.ids.EnvId.{EnvId}
use Rattle.tl_base.specs.declared.ids.SymId.{SymId}
use Rattle.tl_base.specs.declared.ids.TypeId.{TypeId}
use Rattle.tl_base.specs.declared.place.Place.{Place}
use Rattle.tl_base.specs.declared.machine.Step.TheVariants.{Spent}
use Rattle.tl_base.specs.Layer.{State, state}
use Rattle.tl_base.specs.Plan.{Pay, Course, run}
use Rattle.tl_base.specs.Machine.{plug}
use Rattle.tl_tree.specs.Code.{Items}
use Rattle.lua_value.specs.declared.value.Value.{Value}
use Rattle.lua_value.specs.declared.value.Value.TheVariants as values
use Rattle.lua_table.specs.LuaState.{LuaState}
use Rattle.lua_table.specs.Cells.{declare}
use Rattle.terra_types.specs.declared.types.TypeForm.{TypeForm}
use Rattle.terra_types.specs.declared.types.TypeForm.TheVariants as forms
use Rattle.terra_types.specs.Making.{same_type, same_types}
use Rattle.exotype.specs.World.{StageState, with_heap}
use Rattle.exotype.specs.declared.fault.Fault.TheVariants as faults
use Rattle.terra_term.specs.declared.lists.Parameter.{Parameter}
use Rattle.spec_model.specs.declared.job.Job.{Job}
use Rattle.spec_model.specs.declared.end.End.{End}
use Rattle.spec_model.specs.declared.question.SpecQuestion.{SpecQuestion}
use Rattle.spec_model.specs.declared.question.SpecAnswer.{SpecAnswer}
use Rattle.spec_model.specs.declared.wanted.Drawn.{Drawn}
use Rattle.spec_model.specs.Making.{symbol_type}
use Rattle.spec_model.specs.Meaning.{SpecGiven}
use Rattle.spec_model.specs.Plans.{SpecPlan, raise, declaring}
use Rattle.spec_model.specs.Definitions.{spliced, spliced_one, declaring_all, parameter_list, drawn_types, agrees, as_declared}
use Rattle.spec_machine.specs.Agreeing.{typed_symbol, typed_symbols, agreed, with_parameter, with_parameters}
use Rattle.spec_machine.specs.declared.frame.SpecFrame.{SpecFrame}
use Rattle.spec_machine.specs.Frames.{spec_rules}
use Rattle.spec_machine.specs.Steps.{SpecStep, Goes, Does, Comes, Gets}
use Rattle.spec_machine.proofs.Doing.{jobs_of, moved, pays, lacks}

-- ---- payments, as the budget answers them

pub paid_goes : (items : Items) (fs fs2 : List SpecFrame) (n : ℕ) (p : SpecPlan) (w w2 : StageState) (left after left2 : ℕ) (step : SpecStep)
    (answer : Bool) → answer ≡ true → (IsTrue answer ↔ (n ≤ left)) → OnTrue answer (after ≡ left - n)
    → Goes items fs p w after fs2 step w2 left2 → Goes items fs (Pay n p) w left fs2 step w2 left2
paid_goes items fs fs2 n p w w2 left after left2 step true is enough paid g =
    pays items fs fs2 n p w w2 left after left2 step (enough.0 refl) paid g
paid_goes items fs fs2 n p w w2 left after left2 step false is enough paid g = absurd (cc is)

pub unpaid_goes : (items : Items) (fs : List SpecFrame) (n : ℕ) (p : SpecPlan) (w : StageState) (left after : ℕ)
    (answer : Bool) → answer ≡ false → OnFalse answer (left < n) → OnFalse answer (after ≡ left)
    → Goes items fs (Pay n p) w left fs Spent w after
unpaid_goes items fs n p w left after true is short same = absurd (cc is)
unpaid_goes items fs n p w left after false is short same =
    subst (λ (m : ℕ). Goes items fs (Pay n p) w left fs Spent w m) (sym same) (lacks items fs n p w left short)

-- ---- what a plan comes to, where that is known by equations

pub gets_as : {X : Type 0} (plan : (X → SpecPlan) → SpecPlan) (w : StageState) (y : X) (v : StageState) (x : X) (w2 : StageState)
    → Gets plan w y v → x ≡ y → w2 ≡ v → Gets plan w x w2
gets_as {X} plan w y v x w2 got named made =
    subst (λ (z : X). Gets plan w z w2) (sym named) (subst (λ (u : StageState). Gets plan w y u) (sym made) got)

-- ---- symbols as parameters

abbrev spliced_to : Option (List Drawn) → Place → (List Drawn → SpecPlan) → SpecPlan
spliced_to (Some ds) place go = go ds
spliced_to None place go = raise place faults.SymbolWithoutType

spliced_step : (f : Job → Course StageState SpecQuestion SpecAnswer End) (w : StageState) (x : SymId) (of : Option TypeId) (xs : List SymId)
    (place : Place) (ds : List Drawn) (go : List Drawn → SpecPlan) (left : ℕ) (later : List SpecGiven)
    → ((more : List Drawn) → run f (spliced xs place more go) (state w left) later
    ≡ run f (spliced_to (typed_symbols w xs place more) place go) (state w left) later)
    → run f (spliced_one x of place ds (λ more. spliced xs place more go)) (state w left) later
    ≡ run f (spliced_to (option_and_then (λ more. typed_symbols w xs place more) (typed_symbol x of place ds)) place go) (state w left) later
spliced_step f w x (Some of) xs place ds go left later h = h (ds ++ record { symbol = x; of = of; place = place; named = false } ∷ [])
spliced_step f w x None xs place ds go left later h = refl

spliced_runs : (f : Job → Course StageState SpecQuestion SpecAnswer End) (w : StageState) (xs : List SymId) (place : Place) (ds : List Drawn)
    (go : List Drawn → SpecPlan) (left : ℕ) (later : List SpecGiven)
    → run f (spliced xs place ds go) (state w left) later ≡ run f (spliced_to (typed_symbols w xs place ds) place go) (state w left) later
spliced_runs f w [] place ds go left later = refl
spliced_runs f w (x ∷ xs) place ds go left later =
    spliced_step f w x (symbol_type w x) xs place ds go left later (λ more. spliced_runs f w xs place more go left later)

pub spliced_gets : (w : StageState) (xs : List SymId) (place : Place) (ds all : List Drawn)
    → Some all ≡ typed_symbols w xs place ds → Gets (λ go. spliced xs place ds go) w all w
spliced_gets w xs place ds all is = λ f go left later.
    spliced_runs f w xs place ds go left later
    ∙ ap (λ (o : Option (List Drawn)). run f (spliced_to o place go) (state w left) later) (sym is)

pub spliced_raises : (items : Items) (fs fs2 : List SpecFrame) (w w2 : StageState) (left left2 : ℕ) (step : SpecStep)
    (xs : List SymId) (place : Place) (ds : List Drawn) (go : List Drawn → SpecPlan)
    → None ≡ typed_symbols w xs place ds
    → Goes items fs (raise place faults.SymbolWithoutType) w left fs2 step w2 left2
    → Goes items fs (spliced xs place ds go) w left fs2 step w2 left2
spliced_raises items fs fs2 w w2 left left2 step xs place ds go is g = λ later.
    ap (plug (spec_rules items) fs) (spliced_runs (jobs_of items) w xs place ds go left later
    ∙ ap (λ (o : Option (List Drawn)). run (jobs_of items) (spliced_to o place go) (state w left) later) (sym is)) ∙ g later

-- one symbol more, which has a type
pub typed_more : (w : StageState) (xs : List SymId) (i : ℕ) (d : SymId) (place : Place) (ds ds2 : List Drawn) (found : Option TypeId) (of : TypeId)
    → i < length xs → found ≡ Some of → found ≡ symbol_type w (get_or xs i d)
    → ds2 ≡ ds ++ record { symbol = get_or xs i d; of = of; place = place; named = false } ∷ []
    → typed_symbols w (drop (i + 1) xs) place ds2 ≡ typed_symbols w (drop i xs) place ds
typed_more w xs i d place ds ds2 found of h is has more =
    let x = get_or xs i d in
    let behind : List Drawn → Option (List Drawn) = λ all. typed_symbols w (drop (i + 1) xs) place all in
    ap behind more
    ∙ ap (λ (o : Option TypeId). option_and_then behind (typed_symbol x o place ds)) (sym is ∙ has)
    ∙ sym (at_drop_more (λ us. typed_symbols w us place ds) xs i d h)

-- and one that has none
pub typed_none : (w : StageState) (xs : List SymId) (i : ℕ) (d : SymId) (place : Place) (ds : List Drawn) (found : Option TypeId)
    → i < length xs → found ≡ None → found ≡ symbol_type w (get_or xs i d)
    → None ≡ typed_symbols w (drop i xs) place ds
typed_none w xs i d place ds found h is has =
    let x = get_or xs i d in
    let behind : List Drawn → Option (List Drawn) = λ all. typed_symbols w (drop (i + 1) xs) place all in
    ap (λ (o : Option TypeId). option_and_then behind (typed_symbol x o place ds)) (sym is ∙ has)
    ∙ sym (at_drop_more (λ us. typed_symbols w us place ds) xs i d h)

pub typed_end : (w : StageState) (xs : List SymId) (i : ℕ) (place : Place) (ds : List Drawn)
    → length xs ≤ i → typed_symbols w (drop i xs) place ds ≡ Some ds
typed_end w xs i place ds h = at_drop_all (λ us. typed_symbols w us place ds) xs i h

-- ---- the names of parameters

-- what holds of what is declared behind a name holds of both
declared_by : (f : Job → Course StageState SpecQuestion SpecAnswer End) (named : Bool) (value : Value) (ds : List Drawn) (env : EnvId) (rest : SpecPlan)
    (w : StageState) (left : ℕ) (later : List SpecGiven)
    → ((u : StageState) → run f (declaring_all ds env rest) (state u left) later
    ≡ run f rest (state (with_heap u (with_parameters ds env u.heap)) left) later)
    → run f (if named then declaring env value (declaring_all ds env rest) else declaring_all ds env rest) (state w left) later
    ≡ run f rest (state (with_heap w (with_parameters ds env (if named then declare env value w.heap else w.heap))) left) later
declared_by f true value ds env rest w left later behind = behind (with_heap w (declare env value w.heap))
declared_by f false value ds env rest w left later behind = behind w

declaring_runs : (f : Job → Course StageState SpecQuestion SpecAnswer End) (ds : List Drawn) (env : EnvId) (rest : SpecPlan) (w : StageState) (left : ℕ)
    (later : List SpecGiven)
    → run f (declaring_all ds env rest) (state w left) later
    ≡ run f rest (state (with_heap w (with_parameters ds env w.heap)) left) later
declaring_runs f [] env rest w left later = refl
declaring_runs f (d ∷ ds) env rest w left later =
    declared_by f d.named (values.Symbol d.symbol) ds env rest w left later (λ u. declaring_runs f ds env rest u left later)

pub declaring_all_goes : (items : Items) (fs fs2 : List SpecFrame) (ds : List Drawn) (env : EnvId) (rest : SpecPlan) (w v w2 : StageState)
    (left left2 : ℕ) (step : SpecStep)
    → v ≡ with_heap w (with_parameters ds env w.heap)
    → Goes items fs rest v left fs2 step w2 left2 → Goes items fs (declaring_all ds env rest) w left fs2 step w2 left2
declaring_all_goes items fs fs2 ds env rest w v w2 left left2 step is g = λ later.
    ap (plug (spec_rules items) fs) (declaring_runs (jobs_of items) ds env rest w left later
    ∙ ap (λ (u : StageState). run (jobs_of items) rest (state u left) later) (sym is)) ∙ g later

-- one parameter more
pub parameters_next : (ds : List Drawn) (i : ℕ) (d : Drawn) (env : EnvId) (w v : StageState)
    → i < length ds → v ≡ with_heap w (with_parameter (get_or ds i d) env w.heap)
    → with_heap v (with_parameters (drop (i + 1) ds) env v.heap) ≡ with_heap w (with_parameters (drop i ds) env w.heap)
parameters_next ds i d env w v h made =
    ap (λ (u : StageState). with_heap u (with_parameters (drop (i + 1) ds) env u.heap)) made
    ∙ sym (ap (λ (s : LuaState). with_heap w s) (at_drop_more (λ us. with_parameters us env w.heap) ds i d h))

pub parameters_end : (ds : List Drawn) (i : ℕ) (env : EnvId) (w : StageState)
    → length ds ≤ i → with_heap w (with_parameters (drop i ds) env w.heap) ≡ w
parameters_end ds i env w h = at_drop_all (λ us. with_heap w (with_parameters us env w.heap)) ds i h

-- parameters as they stand in a term
abbrev pub listed_as : Drawn → Parameter
listed_as d = record { symbol = d.symbol; of = d.of; place = d.place }

pub listed_next : (ds : List Drawn) (i : ℕ) (d : Drawn) (ps : List Parameter)
    → i < length ds
    → (ps ++ listed_as (get_or ds i d) ∷ []) ++ parameter_list (drop (i + 1) ds) ≡ ps ++ parameter_list (drop i ds)
listed_next ds i d ps h =
    append_assoc ps (listed_as (get_or ds i d) ∷ []) (parameter_list (drop (i + 1) ds))
    ∙ sym (ap (λ (l : List Parameter). ps ++ l) (at_drop_more (λ us. parameter_list us) ds i d h))

pub listed_end : (ds : List Drawn) (i : ℕ) (ps : List Parameter) → length ds ≤ i → ps ++ parameter_list (drop i ds) ≡ ps
listed_end ds i ps h = at_drop_all (λ us. ps ++ parameter_list us) ds i h ∙ append-nil ps

-- ---- the types of parameters

pub same_next : (ds : List Drawn) (ps : List TypeId) (i : ℕ) (d : Drawn) (p : TypeId)
    → i < length ds → i < length ps → get_or ds i d ≡ d → get_or ps i p ≡ p
    → same_types (drawn_types (drop i ds)) (drop i ps) ≡ (same_type d.of p && same_types (drawn_types (drop (i + 1) ds)) (drop (i + 1) ps))
same_next ds ps i d p h k is are =
    at_drop_more (λ us. same_types (drawn_types us) (drop i ps)) ds i d h
    ∙ at_drop_more (λ qs. same_types (drawn_types (get_or ds i d ∷ drop (i + 1) ds)) qs) ps i p k
    ∙ ap (λ (x : Drawn). same_type x.of (get_or ps i p) && same_types (drawn_types (drop (i + 1) ds)) (drop (i + 1) ps)) is
    ∙ ap (λ (q : TypeId). same_type d.of q && same_types (drawn_types (drop (i + 1) ds)) (drop (i + 1) ps)) are

pub same_end : (ds : List Drawn) (ps : List TypeId) (i : ℕ)
    → length ds ≤ i → length ps ≤ i → same_types (drawn_types (drop i ds)) (drop i ps) ≡ true
same_end ds ps i h k =
    at_drop_all (λ us. same_types (drawn_types us) (drop i ps)) ds i h
    ∙ at_drop_all (λ qs. same_types [] qs) ps i k

pub not_as_many : (ds : List Drawn) (ps : List TypeId) → (length ds ≡ length ps → ⊥) → same_types (drawn_types ds) ps ≡ false
not_as_many [] [] other = absurd (other refl)
not_as_many [] (p ∷ ps) other = refl
not_as_many (d ∷ ds) [] other = refl
not_as_many (d ∷ ds) (p ∷ ps) other = and_false (same_type d.of p) (same_types (drawn_types ds) ps) (not_as_many ds ps (λ e. other (omega arith)))
  where
    and_false : (b c : Bool) → c ≡ false → (b && c) ≡ false
    and_false true c e = e
    and_false false c e = refl

-- ---- a declaration's type

abbrev agreed_to : Option TypeId → Place → (Option TypeId → SpecPlan) → SpecPlan
agreed_to (Some t) place go = go (Some t)
agreed_to None place go = raise place faults.DiffersFromDeclaration

agreed_by : (b : Bool) (t : TypeId) (place : Place) (go : Option TypeId → SpecPlan)
    → (if b then go (Some t) else raise place faults.DiffersFromDeclaration) ≡ agreed_to (if b then Some t else None) place go
agreed_by true t place go = refl
agreed_by false t place go = refl

as_agreed : (form : Option TypeForm) (ds : List Drawn) (result : Option TypeId) (place : Place) (go : Option TypeId → SpecPlan)
    → as_declared form ds result place go ≡ agreed_to (agreed form ds result) place go
as_agreed None ds result place go = refl
as_agreed (Some (forms.Function params declared)) ds result place go =
    agreed_by (same_types (drawn_types ds) params && agrees result declared) declared place go
as_agreed (Some (forms.Integer i)) ds result place go = refl
as_agreed (Some forms.Bool) ds result place go = refl
as_agreed (Some forms.Unit) ds result place go = refl
as_agreed (Some (forms.Pointer t)) ds result place go = refl
as_agreed (Some (forms.Array t n)) ds result place go = refl
as_agreed (Some (forms.Struct n p l)) ds result place go = refl

pub agreed_is : (form : Option TypeForm) (ds : List Drawn) (result : Option TypeId) (place : Place) (go : Option TypeId → SpecPlan) (t : TypeId)
    → Some t ≡ agreed form ds result → as_declared form ds result place go ≡ go (Some t)
agreed_is form ds result place go t is =
    as_agreed form ds result place go ∙ ap (λ (o : Option TypeId). agreed_to o place go) (sym is)

pub differs_is : (form : Option TypeForm) (ds : List Drawn) (result : Option TypeId) (place : Place) (go : Option TypeId → SpecPlan)
    → None ≡ agreed form ds result → as_declared form ds result place go ≡ raise place faults.DiffersFromDeclaration
differs_is form ds result place go is =
    as_agreed form ds result place go ∙ ap (λ (o : Option TypeId). agreed_to o place go) (sym is)
