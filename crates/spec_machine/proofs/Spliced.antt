-- What comes of values as items of a block.
use Rattle.std.proofs.Common.{◌≡◌, ℕ, ◌+◌, ◌-◌, ◌<◌, ◌≤◌, List, [], ◌∷◌, ◌++◌, length, drop, get_or, refl, sym, ap, subst, ◌∙◌, Option}
use Rattle.std.proofs.Common.{Some, None}
use Rattle.tl_base.specs.declared.ids.QuoteId.{QuoteId}
use Rattle.tl_base.specs.declared.ids.TableId.{TableId}
use Rattle.tl_base.specs.declared.ids.TermId.{TermId}
use Rattle.tl_base.specs.declared.place.Place.{Place}
use Rattle.tl_base.specs.declared.machine.Step.TheVariants.{Spent}
use Rattle.tl_base.specs.Layer.{state}
use Rattle.tl_base.specs.Plan.{Pay, run}
use Rattle.tl_base.proofs.Plans.{paid-enough}
use Rattle.lua_value.specs.declared.value.Value.{Value}
use Rattle.lua_value.specs.declared.value.Value.TheVariants as values
use Rattle.lua_table.specs.Heap.{table_at}
use Rattle.terra_term.specs.declared.term.Statement.TheVariants as s
use Rattle.terra_term.specs.declared.term.Term.TheVariants as terms
use Rattle.exotype.specs.World.{StageState}
use Rattle.exotype.specs.Terms.{terms_size}
use Rattle.spec_model.specs.Making.{next_term, with_term, quote_at}
use Rattle.spec_model.specs.Plans.{SpecPlan, one, node, values_in}
use Rattle.spec_model.specs.Statements.{performed, quoted, item_of, each_item, spliced, each_spliced}
use Rattle.spec_machine.specs.declared.reached.Reached.{Reached}
use Rattle.spec_machine.specs.declared.reached.Reached.TheVariants.{Value as Came, Left}
use Rattle.spec_machine.specs.Splices.{statements_in}
use Rattle.spec_machine.specs.Steps.{SpecStep, Comes}
use Rattle.spec_machine.proofs.Doing.{moved, lacks}
use Rattle.spec_machine.proofs.Entering.{node_gets}
use Rattle.spec_machine.proofs.Reaching.{Passes, passes_same, comes_past}
use Rattle.spec_machine.proofs.Splicing.{no_quote_item, no_table_spliced, statements_quoted, no_statements, items_next, items_end}
use Rattle.spec_machine.proofs.Splicing.{spliced_next, spliced_end}

-- ---- one item

pub performed_comes : (value : Value) (at : Place) (ts all : List TermId) (t id : TermId) (w v u : StageState) (left after : ℕ)
    → Comes (λ (go : TermId → SpecPlan). one value at go) w left (Came t) v after
    → id ≡ next_term v → u ≡ with_term v (terms.Statement at (s.Perform t)) → all ≡ ts ++ id ∷ []
    → Comes (λ (go : List TermId → SpecPlan). performed value at ts go) w left (Came all) u after
performed_comes value at ts all t id w v u left after came id_is world_is all_is = λ f go later.
    came f (λ x. node (terms.Statement at (s.Perform x)) (λ y. go (ts ++ y ∷ []))) later
    ∙ node_gets v u (terms.Statement at (s.Perform t)) id id_is world_is f (λ y. go (ts ++ y ∷ [])) after later
    ∙ ap (λ (l : List TermId). run f (go l) (state u after) later) (sym all_is)

pub performed_left : (value : Value) (at : Place) (ts : List TermId) (step : SpecStep) (w v : StageState) (left after : ℕ)
    → Comes (λ (go : TermId → SpecPlan). one value at go) w left (Left step) v after
    → Comes (λ (go : List TermId → SpecPlan). performed value at ts go) w left (Left step) v after
performed_left value at ts step w v left after came = λ items go.
    came items (λ x. node (terms.Statement at (s.Perform x)) (λ y. go (ts ++ y ∷ [])))

pub quoted_comes : (q : QuoteId) (at : Place) (ts us all : List TermId) (w : StageState) (left after : ℕ)
    → Some us ≡ statements_in (quote_at w q) → (terms_size w us).nodes ≤ left → after ≡ left - (terms_size w us).nodes → all ≡ ts ++ us
    → Comes (λ (go : List TermId → SpecPlan). item_of (values.Quote q) at ts go) w left (Came all) w after
quoted_comes q at ts us all w left after is enough paid all_is = λ f go later.
    let n = (terms_size w us).nodes in
    ap (λ (p : SpecPlan). run f p (state w left) later) (statements_quoted w (quote_at w q) us (values.Quote q) at ts go is)
    ∙ paid-enough n (state w left) (λ st. run f (go (ts ++ us)) st later) enough
    ∙ ap (λ (m : ℕ). run f (go (ts ++ us)) (state w m) later) (sym paid)
    ∙ ap (λ (l : List TermId). run f (go l) (state w after) later) (sym all_is)

pub quoted_short : (q : QuoteId) (at : Place) (ts us : List TermId) (w : StageState) (left : ℕ)
    → Some us ≡ statements_in (quote_at w q) → left < (terms_size w us).nodes
    → Comes (λ (go : List TermId → SpecPlan). item_of (values.Quote q) at ts go) w left (Left Spent) w left
quoted_short q at ts us w left is short = λ items go fs.
    let n = (terms_size w us).nodes in
    moved items fs fs (quoted w (quote_at w q) (values.Quote q) at ts go) (Pay n (go (ts ++ us))) w w w left left Spent
    (statements_quoted w (quote_at w q) us (values.Quote q) at ts go is) refl (lacks items fs n (go (ts ++ us)) w left short)

pub quoted_other : (q : QuoteId) (at : Place) (ts : List TermId) (r : Reached (List TermId)) (w v : StageState) (left after : ℕ)
    → None ≡ statements_in (quote_at w q)
    → Comes (λ (go : List TermId → SpecPlan). performed (values.Quote q) at ts go) w left r v after
    → Comes (λ (go : List TermId → SpecPlan). item_of (values.Quote q) at ts go) w left r v after
quoted_other q at ts r w v left after is came =
    comes_past (λ (go : List TermId → SpecPlan). item_of (values.Quote q) at ts go)
    (λ (go : List TermId → SpecPlan). performed (values.Quote q) at ts go) r w w v left left after
    (λ f go later. ap (λ (p : SpecPlan). run f p (state w left) later) (no_statements w (quote_at w q) (values.Quote q) at ts go is)) came

pub item_other : (value : Value) (at : Place) (ts : List TermId) (r : Reached (List TermId)) (w v : StageState) (left after : ℕ)
    → ((q : QuoteId) → value ≡ values.Quote q → ⊥)
    → Comes (λ (go : List TermId → SpecPlan). performed value at ts go) w left r v after
    → Comes (λ (go : List TermId → SpecPlan). item_of value at ts go) w left r v after
item_other value at ts r w v left after not_quote came =
    comes_past (λ (go : List TermId → SpecPlan). item_of value at ts go) (λ (go : List TermId → SpecPlan). performed value at ts go)
    r w w v left left after
    (passes_same (λ (go : List TermId → SpecPlan). item_of value at ts go) (λ (go : List TermId → SpecPlan). performed value at ts go) w w left
    (λ go. no_quote_item value at ts go not_quote) refl) came

-- ---- list positions

pub table_spliced : (t : TableId) (vs : List Value) (at : Place) (ts : List TermId) (r : Reached (List TermId)) (w v : StageState) (left after : ℕ)
    → vs ≡ values_in (table_at w.heap t)
    → Comes (λ (go : List TermId → SpecPlan). each_item vs at ts go) w left r v after
    → Comes (λ (go : List TermId → SpecPlan). spliced (values.Table t) at ts go) w left r v after
table_spliced t vs at ts r w v left after is came =
    comes_past (λ (go : List TermId → SpecPlan). spliced (values.Table t) at ts go) (λ (go : List TermId → SpecPlan). each_item vs at ts go)
    r w w v left left after
    (λ f go later. ap (λ (us : List Value). run f (each_item us at ts go) (state w left) later) (sym is)) came

pub spliced_other : (value : Value) (at : Place) (ts : List TermId) (r : Reached (List TermId)) (w v : StageState) (left after : ℕ)
    → ((t : TableId) → value ≡ values.Table t → ⊥)
    → Comes (λ (go : List TermId → SpecPlan). item_of value at ts go) w left r v after
    → Comes (λ (go : List TermId → SpecPlan). spliced value at ts go) w left r v after
spliced_other value at ts r w v left after not_table came =
    comes_past (λ (go : List TermId → SpecPlan). spliced value at ts go) (λ (go : List TermId → SpecPlan). item_of value at ts go)
    r w w v left left after
    (passes_same (λ (go : List TermId → SpecPlan). spliced value at ts go) (λ (go : List TermId → SpecPlan). item_of value at ts go) w w left
    (λ go. no_table_spliced value at ts go not_table) refl) came

-- ---- turns of the loops

pub items_turn : (vs : List Value) (i : ℕ) (d value : Value) (at : Place) (ts us : List TermId) (w v : StageState) (left after : ℕ)
    → i < length vs → get_or vs i d ≡ value
    → Comes (λ (go : List TermId → SpecPlan). item_of value at ts go) w left (Came us) v after
    → Passes (λ (go : List TermId → SpecPlan). each_item (drop i vs) at ts go) w left
    (λ (go : List TermId → SpecPlan). each_item (drop (i + 1) vs) at us go) v after
items_turn vs i d value at ts us w v left after h is came = λ f go later.
    ap (λ (p : SpecPlan). run f p (state w left) later) (items_next vs i d value at ts go h is)
    ∙ came f (λ l. each_item (drop (i + 1) vs) at l go) later

pub items_left : (vs : List Value) (i : ℕ) (d value : Value) (at : Place) (ts : List TermId) (step : SpecStep) (w v : StageState) (left after : ℕ)
    → i < length vs → get_or vs i d ≡ value
    → Comes (λ (go : List TermId → SpecPlan). item_of value at ts go) w left (Left step) v after
    → Comes (λ (go : List TermId → SpecPlan). each_item (drop i vs) at ts go) w left (Left step) v after
items_left vs i d value at ts step w v left after h is came = λ items go fs.
    moved items fs fs (each_item (drop i vs) at ts go) (item_of value at ts (λ l. each_item (drop (i + 1) vs) at l go)) w w v left after step
    (items_next vs i d value at ts go h is) refl (came items (λ l. each_item (drop (i + 1) vs) at l go) fs)

pub spliced_turn : (vs : List Value) (i : ℕ) (d value : Value) (at : Place) (ts us : List TermId) (w v : StageState) (left after : ℕ)
    → i < length vs → get_or vs i d ≡ value
    → Comes (λ (go : List TermId → SpecPlan). spliced value at ts go) w left (Came us) v after
    → Passes (λ (go : List TermId → SpecPlan). each_spliced (drop i vs) at ts go) w left
    (λ (go : List TermId → SpecPlan). each_spliced (drop (i + 1) vs) at us go) v after
spliced_turn vs i d value at ts us w v left after h is came = λ f go later.
    ap (λ (p : SpecPlan). run f p (state w left) later) (spliced_next vs i d value at ts go h is)
    ∙ came f (λ l. each_spliced (drop (i + 1) vs) at l go) later

pub spliced_left : (vs : List Value) (i : ℕ) (d value : Value) (at : Place) (ts : List TermId) (step : SpecStep) (w v : StageState) (left after : ℕ)
    → i < length vs → get_or vs i d ≡ value
    → Comes (λ (go : List TermId → SpecPlan). spliced value at ts go) w left (Left step) v after
    → Comes (λ (go : List TermId → SpecPlan). each_spliced (drop i vs) at ts go) w left (Left step) v after
spliced_left vs i d value at ts step w v left after h is came = λ items go fs.
    moved items fs fs (each_spliced (drop i vs) at ts go) (spliced value at ts (λ l. each_spliced (drop (i + 1) vs) at l go)) w w v left after step
    (spliced_next vs i d value at ts go h is) refl (came items (λ l. each_spliced (drop (i + 1) vs) at l go) fs)

-- ---- the nodes of a quote's statements, where the budget refuses them

pub quoted_unpaid : (q : QuoteId) (at : Place) (ts us : List TermId) (w : StageState) (left after : ℕ)
    → Some us ≡ statements_in (quote_at w q) → left < (terms_size w us).nodes → after ≡ left
    → Comes (λ (go : List TermId → SpecPlan). item_of (values.Quote q) at ts go) w left (Left Spent) w after
quoted_unpaid q at ts us w left after is short same =
    subst (λ (m : ℕ). Comes (λ (go : List TermId → SpecPlan). item_of (values.Quote q) at ts go) w left (Left Spent) w m) (sym same)
    (quoted_short q at ts us w left is short)
