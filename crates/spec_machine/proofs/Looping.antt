-- Loops over values, symbols, environments and terms: one turn more, and the end.
use Rattle.std.proofs.Common.{◌≡◌, ℕ, zero, suc, ◌+◌, ◌-◌, ◌<◌, ◌≤◌, List, [], ◌∷◌, ◌++◌, length, drop, get_or, sym, ap, ◌∙◌, arith}
use Rattle.std.proofs.lemmas.List.{at_drop_more, at_drop_all}
use Rattle.tl_base.specs.declared.ids.SymId.{SymId}
use Rattle.tl_base.specs.declared.ids.TermId.{TermId}
use Rattle.tl_base.specs.declared.place.Place.{Place}
use Rattle.lua_value.specs.declared.value.Value.{Value}
use Rattle.lua_value.specs.declared.value.Value.TheVariants as values
use Rattle.lua_table.specs.Pairs.{Pairs, value_at}
use Rattle.terra_term.specs.declared.size.Size.{Size}
use Rattle.terra_term.specs.Sizes.{joined, capped}
use Rattle.exotype.specs.World.{StageState}
use Rattle.exotype.specs.Terms.{term_size, terms_size}
use Rattle.spec_model.specs.Plans.{SpecPlan, values_below, one, each_one}
use Rattle.spec_model.specs.Names.{symbols_in}

-- one value more of a table
pub values_more : (n : ℕ) (pairs : Pairs) → values_below (n + 1) pairs ≡ values_below n pairs ++ value_at pairs (n + 1) ∷ []
values_more n pairs =
    let e : n + 1 ≡ suc n = omega arith in
    ap (λ (m : ℕ). values_below m pairs) e

-- values that each become a term
pub each_next : (vs : List Value) (i : ℕ) (v : Value) (at : Place) (ts : List TermId) (go : List TermId → SpecPlan)
    → i < length vs → get_or vs i values.Nil ≡ v
    → each_one (drop i vs) at ts go ≡ one v at (λ t. each_one (drop (i + 1) vs) at (ts ++ t ∷ []) go)
each_next vs i v at ts go h is =
    at_drop_more (λ us. each_one us at ts go) vs i values.Nil h
    ∙ ap (λ (u : Value). one u at (λ t. each_one (drop (i + 1) vs) at (ts ++ t ∷ []) go)) is

pub each_end : (vs : List Value) (i : ℕ) (at : Place) (ts : List TermId) (go : List TermId → SpecPlan)
    → length vs ≤ i → each_one (drop i vs) at ts go ≡ go ts
each_end vs i at ts go h = at_drop_all (λ us. each_one us at ts go) vs i h

-- values that are symbols
pub symbols_at : (vs : List Value) (i : ℕ) (v : Value) (at : Place) (xs : List SymId) (go : List SymId → SpecPlan)
    → i < length vs → get_or vs i values.Nil ≡ v
    → symbols_in (drop i vs) at xs go ≡ symbols_in (v ∷ drop (i + 1) vs) at xs go
symbols_at vs i v at xs go h is =
    at_drop_more (λ us. symbols_in us at xs go) vs i values.Nil h
    ∙ ap (λ (u : Value). symbols_in (u ∷ drop (i + 1) vs) at xs go) is

pub symbols_end : (vs : List Value) (i : ℕ) (at : Place) (xs : List SymId) (go : List SymId → SpecPlan)
    → length vs ≤ i → symbols_in (drop i vs) at xs go ≡ go xs
symbols_end vs i at xs go h = at_drop_all (λ us. symbols_in us at xs go) vs i h

-- the size of terms with one more before them
pub sizes_next : (w : StageState) (ts : List TermId) (i : ℕ) (d : TermId) → i < length ts
    → terms_size w (drop i ts) ≡ capped (joined (term_size w (get_or ts i d)) (terms_size w (drop (i + 1) ts)))
sizes_next w ts i d h = at_drop_more (λ us. terms_size w us) ts i d h
