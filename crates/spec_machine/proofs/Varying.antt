-- `var`: frames that are the same by their fields, what stands in the place of variables, and loops over it.
use Rattle.std.proofs.Common.{◌≡◌, ℕ, ◌+◌, ◌<◌, ◌≤◌, List, [], ◌∷◌, ◌++◌, length, drop, get_or, refl, sym, ap, ◌∙◌, Option, Some, None}
use Rattle.std.proofs.lemmas.List.{at_drop_more, at_drop_all, append_assoc}
use Rattle.tl_base.specs.declared.ids.EnvId.{EnvId}
use Rattle.tl_base.specs.declared.ids.NodeId.{NodeId}
use Rattle.tl_base.specs.declared.ids.SymId.{SymId}
use Rattle.tl_base.specs.declared.ids.TypeId.{TypeId}
use Rattle.tl_base.specs.declared.place.Place.{Place}
use Rattle.tl_base.specs.Layer.{state}
use Rattle.tl_base.specs.Plan.{Course, run}
use Rattle.tl_tree.specs.Code.{Items, place_at}
use Rattle.lua_value.specs.declared.value.Value.TheVariants as values
use Rattle.lua_table.specs.Cells.{declare}
use Rattle.terra_term.specs.declared.lists.VarName.{VarName}
use Rattle.terra_term.specs.declared.term.Statement.TheVariants as s
use Rattle.exotype.specs.World.{StageState, with_heap}
use Rattle.spec_model.specs.declared.wanted.Wanted.{Wanted}
use Rattle.spec_model.specs.Making.{next_symbol, with_symbol, symbol_type}
use Rattle.spec_model.specs.Nodes.{typing_at}
use Rattle.spec_model.specs.Plans.{SpecPlan, join}
use Rattle.spec_model.specs.Statements.{given, wanted, values_if_any, or_own, drawn, drawn_one}
use Rattle.spec_machine.specs.declared.frame.VarFrame.{VarFrame}
use Rattle.spec_machine.specs.Frames.{wanted_from, wanted_of}
use Rattle.spec_machine.specs.Variables.{wanted_at}
use Rattle.spec_machine.specs.Steps.{Gets}
use Rattle.spec_machine.proofs.Reaching.{Passes}

-- ---- frames

abbrev var_from : Items → List NodeId → List NodeId → Place → EnvId → List Wanted → SpecPlan
var_from items ns es place env ws =
    wanted items ns env ws (λ all. values_if_any es env (λ vs. drawn all env [] (λ names. join place (s.Var names vs))))

pub wanted_same : (items : Items) (f g : VarFrame) (ws : List Wanted)
    → g.rest.now ≡ f.rest.now → g.values.now ≡ f.values.now → g.place ≡ f.place → g.env ≡ f.env → g.wanted ≡ ws
    → wanted_from items f f.rest.now ws ≡ wanted_from items g g.rest.now g.wanted
wanted_same items f g ws rest others place env all =
    ap (λ (l : List NodeId). var_from items l f.values.now f.place f.env ws) (sym rest)
    ∙ ap (λ (l : List NodeId). var_from items g.rest.now l f.place f.env ws) (sym others)
    ∙ ap (λ (p : Place). var_from items g.rest.now g.values.now p f.env ws) (sym place)
    ∙ ap (λ (e : EnvId). var_from items g.rest.now g.values.now g.place e ws) (sym env)
    ∙ ap (λ (l : List Wanted). var_from items g.rest.now g.values.now g.place g.env l) (sym all)

pub wanted_is : (items : Items) (n : NodeId) (xs : Option (List SymId)) (of : Option TypeId)
    → wanted_of items n xs of ≡ wanted_at xs of (place_at items (typing_at items n).name)
wanted_is items n (Some xs) of = refl
wanted_is items n None of = refl

-- ---- one turn more, and the end

pub given_next : (xs : List SymId) (i : ℕ) (d x : SymId) (of : Option TypeId) (at : Place) → i < length xs → get_or xs i d ≡ x
    → given (drop i xs) of at ≡ record { symbol = Some x; of = of; place = at } ∷ given (drop (i + 1) xs) of at
given_next xs i d x of at h is =
    at_drop_more (λ us. given us of at) xs i d h ∙ ap (λ (y : SymId). given (y ∷ drop (i + 1) xs) of at) is

pub given_end : (xs : List SymId) (i : ℕ) (of : Option TypeId) (at : Place) → length xs ≤ i → given (drop i xs) of at ≡ []
given_end xs i of at h = at_drop_all (λ us. given us of at) xs i h

pub drawn_next : (vs : List Wanted) (i : ℕ) (d v : Wanted) (env : EnvId) (names : List VarName) (go : List VarName → SpecPlan)
    → i < length vs → get_or vs i d ≡ v
    → drawn (drop i vs) env names go ≡ drawn_one v v.symbol env names (λ more. drawn (drop (i + 1) vs) env more go)
drawn_next vs i d v env names go h is =
    at_drop_more (λ us. drawn us env names go) vs i d h
    ∙ ap (λ (u : Wanted). drawn_one u u.symbol env names (λ more. drawn (drop (i + 1) vs) env more go)) is

pub drawn_end : (vs : List Wanted) (i : ℕ) (env : EnvId) (names : List VarName) (go : List VarName → SpecPlan)
    → length vs ≤ i → drawn (drop i vs) env names go ≡ go names
drawn_end vs i env names go h = at_drop_all (λ us. drawn us env names go) vs i h

-- ---- one name

-- a symbol that an escape gave
pub given_gets : (w : StageState) (v : Wanted) (x : SymId) (env : EnvId) (names : List VarName) (name : VarName)
    → v.symbol ≡ Some x → name ≡ record { symbol = x; of = or_own v.of (symbol_type w x); place = v.place }
    → Gets (λ go. drawn_one v v.symbol env names go) w (names ++ name ∷ []) w
given_gets w v x env names name is name_is = λ f go left later.
    ap (λ (o : Option SymId). run f (drawn_one v o env names go) (state w left) later) is
    ∙ ap (λ (n : VarName). run f (go (names ++ n ∷ [])) (state w left) later) (sym name_is)

-- a symbol that is drawn, and declared
pub drawn_gets : (w u t : StageState) (v : Wanted) (x : SymId) (env : EnvId) (names : List VarName)
    → v.symbol ≡ None → x ≡ next_symbol w → u ≡ with_symbol w v.of → t ≡ with_heap u (declare env (values.Symbol x) u.heap)
    → Gets (λ go. drawn_one v v.symbol env names go) w (names ++ record { symbol = x; of = v.of; place = v.place } ∷ []) t
drawn_gets w u t v x env names is x_is u_is t_is = λ f go left later.
    ap (λ (o : Option SymId). run f (drawn_one v o env names go) (state w left) later) is
    ∙ ap (λ (y : SymId). run f (go (names ++ record { symbol = y; of = v.of; place = v.place } ∷ []))
    (state (with_heap (with_symbol w v.of) (declare env (values.Symbol y) (with_symbol w v.of).heap)) left) later) (sym x_is)
    ∙ ap (λ (z : StageState). run f (go (names ++ record { symbol = x; of = v.of; place = v.place } ∷ []))
    (state (with_heap z (declare env (values.Symbol x) z.heap)) left) later) (sym u_is)
    ∙ ap (λ (z : StageState). run f (go (names ++ record { symbol = x; of = v.of; place = v.place } ∷ [])) (state z left) later) (sym t_is)

-- one turn more of the loop that draws
pub drawn_turn : (vs : List Wanted) (i : ℕ) (d v : Wanted) (env : EnvId) (names : List VarName) (name : VarName) (w u : StageState) (left : ℕ)
    → Gets (λ (go : List VarName → SpecPlan). drawn_one v v.symbol env names go) w (names ++ name ∷ []) u
    → i < length vs → get_or vs i d ≡ v
    → Passes (λ (go : List VarName → SpecPlan). drawn (drop i vs) env names go) w left
    (λ (go : List VarName → SpecPlan). drawn (drop (i + 1) vs) env (names ++ name ∷ []) go) u left
drawn_turn vs i d v env names name w u left got h is = λ f go later.
    ap (λ (p : SpecPlan). run f p (state w left) later) (drawn_next vs i d v env names go h is)
    ∙ got f (λ more. drawn (drop (i + 1) vs) env more go) left later

-- the end of the loop that draws
pub drawn_done : (vs : List Wanted) (i : ℕ) (env : EnvId) (before names : List VarName) (w v : StageState)
    → ((left : ℕ) → Passes (λ (go : List VarName → SpecPlan). drawn vs env [] go) w left
    (λ (go : List VarName → SpecPlan). drawn (drop i vs) env before go) v left)
    → length vs ≤ i → names ≡ before → Gets (λ (go : List VarName → SpecPlan). drawn vs env [] go) w names v
drawn_done vs i env before names w v passes h is = λ f go left later.
    passes left f go later
    ∙ ap (λ (p : SpecPlan). run f p (state v left) later) (drawn_end vs i env before go h)
    ∙ ap (λ (ns : List VarName). run f (go ns) (state v left) later) (sym is)
