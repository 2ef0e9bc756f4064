-- Values as items of a block, by their kinds, and loops over them.
use Rattle.std.proofs.Common.{◌≡◌, ℕ, ◌+◌, ◌<◌, ◌≤◌, List, [], ◌∷◌, ◌++◌, length, drop, get_or, refl, sym, ap, ◌∙◌, Option, Some, None}
use Rattle.std.proofs.lemmas.List.{at_drop_more, at_drop_all}
use Rattle.tl_base.specs.declared.ids.QuoteId.{QuoteId}
use Rattle.tl_base.specs.declared.ids.TableId.{TableId}
use Rattle.tl_base.specs.declared.ids.TermId.{TermId}
use Rattle.tl_base.specs.declared.place.Place.{Place}
use Rattle.tl_base.specs.Plan.{Pay}
use Rattle.lua_value.specs.declared.value.Value.{Value}
use Rattle.lua_value.specs.declared.value.Value.TheVariants as values
use Rattle.terra_term.specs.declared.store.Quote.{Quote}
use Rattle.terra_term.specs.declared.store.Quote.TheVariants as quotes
use Rattle.exotype.specs.World.{StageState}
use Rattle.exotype.specs.Terms.{terms_size}
use Rattle.spec_model.specs.Plans.{SpecPlan}
use Rattle.spec_model.specs.Statements.{performed, quoted, item_of, each_item, spliced, each_spliced}
use Rattle.spec_machine.specs.Splices.{statements_in}

-- what is no quote is performed
pub no_quote_item : (v : Value) (at : Place) (ts : List TermId) (go : List TermId → SpecPlan) → ((q : QuoteId) → v ≡ values.Quote q → ⊥)
    → item_of v at ts go ≡ performed v at ts go
no_quote_item (values.Quote q) at ts go not_quote = absurd (not_quote q refl)
no_quote_item v at ts go not_quote = refl

-- what is no table is one item
pub no_table_spliced : (v : Value) (at : Place) (ts : List TermId) (go : List TermId → SpecPlan) → ((t : TableId) → v ≡ values.Table t → ⊥)
    → spliced v at ts go ≡ item_of v at ts go
no_table_spliced (values.Table t) at ts go not_table = absurd (not_table t refl)
no_table_spliced v at ts go not_table = refl

-- a quote of statements
pub statements_quoted : (w : StageState) (q : Option Quote) (us : List TermId) (v : Value) (at : Place) (ts : List TermId)
    (go : List TermId → SpecPlan)
    → Some us ≡ statements_in q → quoted w q v at ts go ≡ Pay (terms_size w us).nodes (go (ts ++ us))
statements_quoted w None us v at ts go is = absurd cc
statements_quoted w (Some (quotes.Expression t)) us v at ts go is = absurd cc
statements_quoted w (Some (quotes.Statements vs)) us v at ts go is =
    let same : us ≡ vs = cc in
    ap (λ (l : List TermId). Pay (terms_size w l).nodes (go (ts ++ l))) (sym same)
statements_quoted w (Some (quotes.Typed t u)) us v at ts go is = absurd cc

-- and another one
pub no_statements : (w : StageState) (q : Option Quote) (v : Value) (at : Place) (ts : List TermId) (go : List TermId → SpecPlan)
    → None ≡ statements_in q → quoted w q v at ts go ≡ performed v at ts go
no_statements w None v at ts go is = refl
no_statements w (Some (quotes.Expression t)) v at ts go is = refl
no_statements w (Some (quotes.Statements us)) v at ts go is = absurd cc
no_statements w (Some (quotes.Typed t u)) v at ts go is = refl

-- ---- one turn more, and the end

pub items_next : (vs : List Value) (i : ℕ) (d v : Value) (at : Place) (ts : List TermId) (go : List TermId → SpecPlan)
    → i < length vs → get_or vs i d ≡ v
    → each_item (drop i vs) at ts go ≡ item_of v at ts (λ us. each_item (drop (i + 1) vs) at us go)
items_next vs i d v at ts go h is =
    at_drop_more (λ us. each_item us at ts go) vs i d h
    ∙ ap (λ (u : Value). item_of u at ts (λ us. each_item (drop (i + 1) vs) at us go)) is

pub items_end : (vs : List Value) (i : ℕ) (at : Place) (ts : List TermId) (go : List TermId → SpecPlan)
    → length vs ≤ i → each_item (drop i vs) at ts go ≡ go ts
items_end vs i at ts go h = at_drop_all (λ us. each_item us at ts go) vs i h

pub spliced_next : (vs : List Value) (i : ℕ) (d v : Value) (at : Place) (ts : List TermId) (go : List TermId → SpecPlan)
    → i < length vs → get_or vs i d ≡ v
    → each_spliced (drop i vs) at ts go ≡ spliced v at ts (λ us. each_spliced (drop (i + 1) vs) at us go)
spliced_next vs i d v at ts go h is =
    at_drop_more (λ us. each_spliced us at ts go) vs i d h
    ∙ ap (λ (u : Value). spliced u at ts (λ us. each_spliced (drop (i + 1) vs) at us go)) is

pub spliced_end : (vs : List Value) (i : ℕ) (at : Place) (ts : List TermId) (go : List TermId → SpecPlan)
    → length vs ≤ i → each_spliced (drop i vs) at ts go ≡ go ts
spliced_end vs i at ts go h = at_drop_all (λ us. each_spliced us at ts go) vs i h
