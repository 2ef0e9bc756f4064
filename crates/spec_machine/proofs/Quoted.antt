-- Values that are types, tables whose values are read, and quotes whose term is a type.
use Rattle.std.proofs.Common.{◌≡◌, ℕ, Bool, List, [], ◌∷◌, Option, Some, None, refl, sym, ap, ◌∙◌}
use Rattle.std.specs.Prelude.{if◌then◌else◌}
use Rattle.tl_base.specs.declared.ids.QuoteId.{QuoteId}
use Rattle.tl_base.specs.declared.ids.TableId.{TableId}
use Rattle.tl_base.specs.declared.ids.TermId.{TermId}
use Rattle.tl_base.specs.declared.ids.TypeId.{TypeId}
use Rattle.tl_base.specs.declared.place.Place.{Place}
use Rattle.tl_base.specs.Layer.{state}
use Rattle.tl_base.specs.Plan.{Read, Pay, run}
use Rattle.lua_value.specs.declared.value.Value.{Value}
use Rattle.lua_value.specs.declared.value.Value.TheVariants as values
use Rattle.lua_table.specs.Heap.{table_at}
use Rattle.exotype.specs.Types.{is_type}
use Rattle.exotype.specs.World.{StageState}
use Rattle.exotype.specs.declared.fault.Fault.TheVariants as faults
use Rattle.spec_model.specs.Making.{type_at, quote_at}
use Rattle.spec_model.specs.Plans.{SpecPlan, raise, values_in}
use Rattle.spec_model.specs.Types.{type_there, type_in}
use Rattle.spec_model.specs.Expressions.{type_from, or_no_type, spliced_type, quoted_type}
use Rattle.spec_machine.specs.Among.{type_among, expression_in}
use Rattle.spec_machine.proofs.Otherwise.{among_there, type_among_is, quoted_is, quoted_none}
use Rattle.spec_machine.proofs.Reaching.{Passes, passes_same}

-- a plan that reads the values of a table
pub reads_values : {X : Type 0} (plan : List Value → (X → SpecPlan) → SpecPlan) (w : StageState) (left : ℕ) (t : TableId) (vs : List Value)
    → vs ≡ values_in (table_at w.heap t) → Passes (λ (go : X → SpecPlan). Read (λ u. plan (values_in (table_at u.heap t)) go)) w left (plan vs) w left
reads_values {X} plan w left t vs is = λ f go later. ap (λ (us : List Value). run f (plan us go) (state w left) later) (sym is)

-- a type that is there, or not
pub type_tested : (t : TypeId) (at : Place) (c : Bool) (w : StageState) (left : ℕ) → c ≡ is_type w.store.types t
    → Passes (λ go. type_there t at go) w left (λ go. if c then go t else raise at faults.NotAType) w left
type_tested t at c w left is = λ f go later.
    ap (λ (b : Bool). run f (if b then go t else raise at faults.NotAType) (state w left) later) (sym is)

-- the type of a table's values
pub type_found : (vs : List Value) (at : Place) (o : Option TypeId) (w : StageState) (left : ℕ) → o ≡ type_among vs
    → Passes (λ go. type_in vs at go) w left (λ go. among_there o at go) w left
type_found vs at o w left is =
    passes_same (λ go. type_in vs at go) (λ go. among_there o at go) w w left
    (λ go. type_among_is vs at go ∙ ap (λ (p : Option TypeId). among_there p at go) (sym is)) refl

-- the type that a term is
pub type_read : (t : TermId) (at : Place) (o : Option TypeId) (w : StageState) (left : ℕ) → o ≡ type_at w t
    → Passes (λ go. Read (λ u. or_no_type (type_at u t) at go)) w left (λ go. or_no_type o at go) w left
type_read t at o w left is = λ f go later. ap (λ (p : Option TypeId). run f (or_no_type p at go) (state w left) later) (sym is)

-- the type that a quote's term is
pub quoted_type_read : (q : QuoteId) (t : TermId) (at : Place) (o : Option TypeId) (w : StageState) (left : ℕ)
    → expression_in (quote_at w q) ≡ Some t → o ≡ type_at w t
    → Passes (λ go. type_from (values.Quote q) at go) w left (λ go. spliced_type o at go) w left
quoted_type_read q t at o w left there is = λ f go later.
    ap (λ (p : SpecPlan). run f p (state w left) later) (quoted_is (quote_at w q) t at go there)
    ∙ ap (λ (p : Option TypeId). run f (spliced_type p at go) (state w left) later) (sym is)

-- no quote of an expression is no type
pub quoted_type_refused : (q : QuoteId) (at : Place) (w : StageState) (left : ℕ) → expression_in (quote_at w q) ≡ None
    → Passes (λ (go : TypeId → SpecPlan). type_from (values.Quote q) at go) w left (λ (go : TypeId → SpecPlan). raise at faults.NotAType) w left
quoted_type_refused q at w left none = λ f go later.
    ap (λ (p : SpecPlan). run f p (state w left) later) (quoted_none (quote_at w q) at go none)
