-- Which type values are, and which term a quote has. What has none answers none.
use Rattle.std.specs.Prelude.{List, [], ◌∷◌, Option, Some, None}
use Rattle.tl_base.specs.declared.ids.TermId.{TermId}
use Rattle.tl_base.specs.declared.ids.TypeId.{TypeId}
use Rattle.lua_value.specs.declared.value.Value.{Value}
use Rattle.terra_types.specs.Opening.{unit}
use Rattle.terra_term.specs.declared.store.Quote.{Quote}
use Rattle.terra_term.specs.declared.store.Quote.TheVariants as quotes
pub use Rattle.lua_value.specs.Values.{type_in as type_of_value}

-- the type of a table's values: none is the unit type, and one type is that type
abbrev pub type_among : List Value → Option TypeId
type_among [] = Some unit
type_among (v ∷ []) = type_of_value v
type_among (v ∷ u ∷ vs) = None

-- the term of a quote of an expression
abbrev pub expression_in : Option Quote → Option TermId
expression_in (Some (quotes.Expression t)) = Some t
expression_in _ = None
