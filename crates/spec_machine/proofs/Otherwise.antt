-- Plans that choose by the kind of a value, at a kind that they refuse or pass on.
use Rattle.std.proofs.Common.{◌≡◌, ◌<◌, List, [], ◌∷◌, ◌++◌, length, Option, Some, None, refl, ap, arith}
use Rattle.tl_base.specs.Plan.{Read}
use Rattle.tl_base.specs.declared.ids.QuoteId.{QuoteId}
use Rattle.tl_base.specs.declared.ids.SymId.{SymId}
use Rattle.tl_base.specs.declared.ids.TableId.{TableId}
use Rattle.tl_base.specs.declared.ids.TermId.{TermId}
use Rattle.tl_base.specs.declared.ids.TextId.{TextId}
use Rattle.tl_base.specs.declared.ids.TypeId.{TypeId}
use Rattle.tl_base.specs.declared.place.Place.{Place}
use Rattle.lua_value.specs.declared.value.Value.{Value}
use Rattle.lua_value.specs.declared.value.Value.TheVariants as values
use Rattle.lua_value.specs.Values.{kind_of}
use Rattle.exotype.specs.declared.fault.Fault.TheVariants as faults
use Rattle.spec_model.specs.Plans.{SpecPlan, raise, one, listed}
use Rattle.spec_model.specs.Names.{text_in, symbols_in, symbols_of, symbol_of}
use Rattle.spec_model.specs.Types.{type_there, as_type, type_in}
use Rattle.spec_model.specs.Expressions.{type_from, quoted_type, spliced_type}
use Rattle.spec_model.specs.Making.{type_at}
use Rattle.terra_term.specs.declared.store.Quote.{Quote}
use Rattle.terra_term.specs.declared.store.Quote.TheVariants as quotes
use Rattle.spec_machine.specs.Among.{type_of_value, type_among, expression_in}

pub no_text : (v : Value) (place : Place) (go : TextId → SpecPlan) → ((t : TextId) → v ≡ values.Text t → ⊥)
    → text_in v place go ≡ raise place (faults.InTerraCode (kind_of v))
no_text (values.Text t) place go not_text = absurd (not_text t refl)
no_text v place go not_text = refl

pub no_symbol : (v : Value) (place : Place) (go : SymId → SpecPlan) → ((x : SymId) → v ≡ values.Symbol x → ⊥)
    → symbol_of v place go ≡ raise place (faults.InTerraCode (kind_of v))
no_symbol (values.Symbol x) place go not_symbol = absurd (not_symbol x refl)
no_symbol v place go not_symbol = refl

pub no_symbols : (v : Value) (place : Place) (go : List SymId → SpecPlan)
    → ((x : SymId) → v ≡ values.Symbol x → ⊥) → ((t : TableId) → v ≡ values.Table t → ⊥)
    → symbols_of v place go ≡ raise place (faults.InTerraCode (kind_of v))
no_symbols (values.Symbol x) place go not_symbol not_table = absurd (not_symbol x refl)
no_symbols (values.Table t) place go not_symbol not_table = absurd (not_table t refl)
no_symbols v place go not_symbol not_table = refl

pub none_in : (v : Value) (vs : List Value) (place : Place) (xs : List SymId) (go : List SymId → SpecPlan)
    → ((x : SymId) → v ≡ values.Symbol x → ⊥)
    → symbols_in (v ∷ vs) place xs go ≡ raise place (faults.InTerraCode (kind_of v))
none_in (values.Symbol x) vs place xs go not_symbol = absurd (not_symbol x refl)
none_in v vs place xs go not_symbol = refl

pub no_type : (v : Value) (place : Place) (go : TypeId → SpecPlan)
    → ((t : TypeId) → v ≡ values.TerraType t → ⊥) → ((t : TableId) → v ≡ values.Table t → ⊥)
    → as_type v place go ≡ raise place faults.NotAType
no_type (values.TerraType t) place go not_type not_table = absurd (not_type t refl)
no_type (values.Table t) place go not_type not_table = absurd (not_table t refl)
no_type v place go not_type not_table = refl

pub no_quote : (v : Value) (place : Place) (go : TypeId → SpecPlan) → ((q : QuoteId) → v ≡ values.Quote q → ⊥)
    → type_from v place go ≡ as_type v place go
no_quote (values.Quote q) place go not_quote = absurd (not_quote q refl)
no_quote v place go not_quote = refl

pub no_list : (v : Value) (place : Place) (ts : List TermId) (go : List TermId → SpecPlan) → ((t : TableId) → v ≡ values.Table t → ⊥)
    → listed v place ts go ≡ one v place (λ t. go (ts ++ t ∷ []))
no_list (values.Table t) place ts go not_table = absurd (not_table t refl)
no_list v place ts go not_table = refl

-- ---- types among values, and in quotes

-- a type among values, where it is there
abbrev pub among_there : Option TypeId → Place → (TypeId → SpecPlan) → SpecPlan
among_there (Some t) place go = type_there t place go
among_there None place go = raise place faults.NotAType

pub type_among_is : (vs : List Value) (place : Place) (go : TypeId → SpecPlan)
    → type_in vs place go ≡ among_there (type_among vs) place go
type_among_is [] place go = refl
type_among_is (values.TerraType t ∷ []) place go = refl
type_among_is (v ∷ []) place go = refl
type_among_is (values.TerraType t ∷ u ∷ vs) place go = refl
type_among_is (v ∷ u ∷ vs) place go = refl

pub among_one : (v : Value) (vs : List Value) → length vs ≡ 0 → type_among (v ∷ vs) ≡ type_of_value v
among_one v [] none = refl
among_one v (u ∷ vs) none = absurd (omega arith)

pub among_more : (v : Value) (vs : List Value) → 0 < length vs → type_among (v ∷ vs) ≡ None
among_more v [] some = absurd (omega arith)
among_more v (u ∷ vs) some = refl

pub quoted_is : (q : Option Quote) (t : TermId) (place : Place) (go : TypeId → SpecPlan) → expression_in q ≡ Some t
    → quoted_type q place go ≡ Read (λ w. spliced_type (type_at w t) place go)
quoted_is (Some (quotes.Expression u)) t place go is =
    let same : u ≡ t = cc in
    ap (λ (x : TermId). Read (λ w. spliced_type (type_at w x) place go)) same
quoted_is (Some (quotes.Statements ts)) t place go is = absurd (cc is)
quoted_is (Some (quotes.Typed source made)) t place go is = absurd (cc is)
quoted_is None t place go is = absurd (cc is)

pub quoted_none : (q : Option Quote) (place : Place) (go : TypeId → SpecPlan) → expression_in q ≡ None
    → quoted_type q place go ≡ raise place faults.NotAType
quoted_none (Some (quotes.Expression u)) place go is = absurd (cc is)
quoted_none (Some (quotes.Statements ts)) place go is = refl
quoted_none (Some (quotes.Typed source made)) place go is = refl
quoted_none None place go is = refl

pub none_there : (o : Option TermId) → ((t : TermId) → o ≡ Some t → ⊥) → o ≡ None
none_there None no_term = refl
none_there (Some t) no_term = absurd (no_term t refl)
