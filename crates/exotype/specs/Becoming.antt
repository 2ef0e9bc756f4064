-- Which term a Lua value becomes where one term is wanted.
use Rattle.std.specs.Prelude.{ℕ, ◌==◌, ℤ, pos, negsuc, Bool, true, false, not, ◌&&◌, int_le, List, Option, Some, None, slice_get}
use Rattle.std.specs.Prelude.{if◌then◌else◌}
use Rattle.std.specs.Int.{cast_unsigned}
use Rattle.std.specs.Int.{w64}
use Rattle.tl_base.specs.declared.place.Place.{Place}
use Rattle.tl_base.specs.declared.ids.ConstantId.{ConstantId}
use Rattle.tl_base.specs.declared.ids.QuoteId.{QuoteId}
use Rattle.tl_base.specs.declared.ids.TermId.{TermId}
use Rattle.tl_base.specs.declared.ids.TypeId.{TypeId}
use Rattle.lua_value.specs.declared.kind.Kind.TheVariants as kinds
use Rattle.lua_value.specs.declared.library.LibFn.{LibFn}
use Rattle.lua_value.specs.declared.library.LibFn.TheVariants as library
use Rattle.lua_value.specs.declared.value.Value.{Value}
use Rattle.lua_value.specs.declared.value.Value.TheVariants as values
use Rattle.lua_table.specs.Heap.{text_at}
use Rattle.terra_types.specs.Opening.{int32, boolean}
use Rattle.terra_term.specs.Held.{Held, ended, placed_text, with_text, with_term, next_term}
use Rattle.terra_term.specs.declared.store.Quote.{Quote}
use Rattle.terra_term.specs.declared.store.Quote.TheVariants as quotes
use Rattle.terra_term.specs.declared.store.TerraConstant.{TerraConstant}
use Rattle.terra_term.specs.declared.term.Expression.{Expression}
use Rattle.terra_term.specs.declared.term.Expression.TheVariants as expressions
use Rattle.terra_term.specs.declared.term.Term.TheVariants as terms
use Rattle.exotype.specs.declared.fault.Fault.{Fault}
use Rattle.exotype.specs.declared.fault.Fault.TheVariants as faults
use Rattle.exotype.specs.declared.became.Became.{Became}
use Rattle.exotype.specs.declared.became.Became.TheVariants as became
use Rattle.exotype.specs.World.{StageState, with_store}
use Rattle.exotype.specs.Terms.{term_size, typed_size}
use Rattle.exotype.specs.Types.{is_type}

-- What a value becomes: a new leaf; the address of a text's bytes, which are a static from then on; the term of a quote; a new leaf with
-- the term and the typed term of a typed quote; or no term.
pub data Becoming : Type 0 where
  Leaf : (leaf : Expression) → Becoming
  Text : (bytes : List ℕ) → Becoming
  Spliced : (term : TermId) → Becoming
  Again : (source made : TermId) → Becoming
  Not : (fault : Fault) → Becoming

abbrev pub fits_int32 : ℤ → Bool
fits_int32 z = int_le (negsuc 2147483647) z && int_le z (pos 2147483647)

-- a number is an int32, with its sign in all 64 bits
abbrev pub number : ℤ → Becoming
number z = if fits_int32 z then Leaf (expressions.Number (cast_unsigned w64 z) int32) else Not faults.NumberOutOfInt32

-- of the library's functions `sizeof` alone is a term
abbrev pub library_function : LibFn → Becoming
library_function library.SizeOf = Leaf expressions.SizeOf
library_function _ = Not (faults.InTerraCode kinds.Function)

abbrev pub quoted : Quote → Becoming
quoted (quotes.Expression t) = Spliced t
quoted (quotes.Statements ts) = Not faults.StatementsForExpression
quoted (quotes.Typed source made) = Again source made

-- the constant of type bool is a truth, and any other a number
abbrev pub constant_leaf : TerraConstant → Expression
constant_leaf c = if c.of.0 == boolean.0 then expressions.Truth (not (c.value == 0)) else expressions.Number c.value c.of

-- A value of Lua names what is there: no Lua code can make another. So the last cases of these three are met in no staging.

abbrev pub type_found : TypeId → Bool → Becoming
type_found t true = Leaf (expressions.Type t)
type_found t false = Not (faults.InTerraCode kinds.TerraType)

abbrev pub quote_found : Option Quote → Becoming
quote_found (Some q) = quoted q
quote_found None = Not (faults.InTerraCode kinds.Quote)

abbrev pub constant_found : Option TerraConstant → Becoming
constant_found (Some c) = Leaf (constant_leaf c)
constant_found None = Not (faults.InTerraCode kinds.Constant)

abbrev pub becoming : StageState → Value → Becoming
becoming w values.Nil = Not (faults.InTerraCode kinds.Nil)
becoming w (values.Boolean b) = Leaf (expressions.Truth b)
becoming w (values.Number z) = number z
becoming w (values.Text t) = Text (text_at w.heap t)
becoming w (values.Table t) = Not faults.ListForOneTerm
becoming w (values.Closure f) = Not (faults.InTerraCode kinds.Function)
becoming w (values.Library f) = library_function f
becoming w (values.TerraFunction f) = Leaf (expressions.Function f)
becoming w (values.TerraType t) = type_found t (is_type w.store.types t)
becoming w (values.Quote q) = quote_found (slice_get w.store.quotes q.0)
becoming w (values.Symbol x) = Leaf (expressions.Variable x)
becoming w (values.Macro m) = Leaf (expressions.Macro m)
becoming w (values.Global g) = Leaf (expressions.Global g)
becoming w (values.Constant c) = constant_found (slice_get w.store.constants c.0)
becoming w (values.Primitive p) = Leaf (expressions.Primitive p)

-- ---- what the call that makes a value a term answers, and the world that it leaves

abbrev leaf_of : Held → Place → Expression → Held
leaf_of s at leaf = with_term s (terms.Expression at leaf)

abbrev text_became : Held → Option ℕ → Became
text_became s (Some address) = became.Term (next_term s)
text_became s None = became.Refused faults.StaticsFull

-- the leaf of a text's address
abbrev text_leaf : Held → Place → Option ℕ → Held
text_leaf s at (Some address) = leaf_of s at (expressions.Static address)
text_leaf s at None = s

-- the store in which a text is a static, if there is room for it
abbrev with_static : Held → ℕ → List ℕ → Held
with_static s memory bytes = with_text s memory (ended bytes)

abbrev address_of : Held → ℕ → List ℕ → Option ℕ
address_of s memory bytes = placed_text memory s.statics (ended bytes)

abbrev pub became_in : Held → ℕ → Becoming → Became
became_in s memory (Leaf leaf) = became.Term (next_term s)
became_in s memory (Text bytes) = text_became s (address_of s memory bytes)
became_in s memory (Spliced t) = became.Term t
became_in s memory (Again source made) = became.Term (next_term s)
became_in s memory (Not fault) = became.Refused fault

-- a leaf has the place of what put it there, and a quote's term keeps its places
abbrev pub store_after : Held → ℕ → Place → Becoming → Held
store_after s memory at (Leaf leaf) = leaf_of s at leaf
store_after s memory at (Text bytes) = text_leaf (with_static s memory bytes) at (address_of s memory bytes)
store_after s memory at (Spliced t) = s
store_after s memory at (Again source made) = leaf_of s at (expressions.Typed source made)
store_after s memory at (Not fault) = s

abbrev pub became_of : StageState → Becoming → Became
became_of w b = became_in w.store w.memory b

abbrev pub after : StageState → Place → Becoming → StageState
after w at b = with_store w (store_after w.store w.memory at b)

abbrev pub term_of : StageState → Value → Became
term_of w v = became_of w (becoming w v)

abbrev pub with_term_of : StageState → Value → Place → StageState
with_term_of w v at = after w at (becoming w v)

-- ---- what a splice pays for

-- how many nodes the term of a quote has, and none where there is no such quote of an expression
abbrev pub quote_nodes : StageState → Option Quote → ℕ
quote_nodes w (Some (quotes.Expression t)) = (term_size w t).nodes
quote_nodes w (Some (quotes.Typed source made)) = (typed_size w made).nodes
quote_nodes w _ = 0

-- how many nodes are spliced where a value becomes a term
abbrev pub spliced_nodes : StageState → Value → ℕ
spliced_nodes w (values.Quote q) = quote_nodes w (slice_get w.store.quotes q.0)
spliced_nodes w _ = 0
