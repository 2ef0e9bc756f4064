-- What specialising reads and makes of Terra's store in the world. What isn't there has no type and no declaration, and isn't defined.
use Rattle.std.specs.Prelude.{Bool, true, false, ◌&&◌, nat_lt, List, ◌∷◌, [], ◌++◌, length, Option, Some, None, slice_get}
use Rattle.tl_base.specs.declared.place.Place.{Place}
use Rattle.tl_base.specs.declared.ids.FnId.{FnId}
use Rattle.tl_base.specs.declared.ids.QuoteId.{QuoteId}
use Rattle.tl_base.specs.declared.ids.SymId.{SymId}
use Rattle.tl_base.specs.declared.ids.TermId.{TermId}
use Rattle.tl_base.specs.declared.ids.TextId.{TextId}
use Rattle.tl_base.specs.declared.ids.TypeId.{TypeId}
use Rattle.lua_table.specs.Heap.{text_at}
use Rattle.terra_types.specs.declared.types.TypeForm.{TypeForm}
use Rattle.terra_types.specs.declared.types.TypeForm.TheVariants as forms
use Rattle.terra_term.specs.Held as stores
use Rattle.terra_term.specs.declared.store.Function.{Function}
use Rattle.terra_term.specs.declared.store.FunctionState.{FunctionState}
use Rattle.terra_term.specs.declared.store.FunctionState.TheVariants as states
use Rattle.terra_term.specs.declared.store.Quote.{Quote}
use Rattle.terra_term.specs.declared.store.Symbol.{Symbol}
use Rattle.terra_term.specs.declared.term.Term.{Term}
use Rattle.terra_term.specs.declared.term.Term.TheVariants as terms
use Rattle.terra_term.specs.declared.term.Expression.TheVariants as e
use Rattle.exotype.specs.World.{StageState, with_store}

-- ---- nodes

abbrev pub next_term : StageState → TermId
next_term w = stores.next_term w.store

abbrev pub with_term : StageState → Term → StageState
with_term w term = with_store w (stores.with_term w.store term)

abbrev pub type_in : Option Term → Option TypeId
type_in (Some (terms.Expression place (e.Type t))) = Some t
type_in _ = None

-- the type that a term is, if it is one
abbrev pub type_at : StageState → TermId → Option TypeId
type_at w t = type_in (slice_get w.store.terms t.0)

-- ---- symbols

abbrev pub next_symbol : StageState → SymId
next_symbol w = stores.next_symbol w.store

abbrev pub with_symbol : StageState → Option TypeId → StageState
with_symbol w of = with_store w (stores.with_symbol w.store of)

abbrev pub type_of_symbol : Option Symbol → Option TypeId
type_of_symbol (Some x) = x.of
type_of_symbol None = None

abbrev pub symbol_type : StageState → SymId → Option TypeId
symbol_type w x = type_of_symbol (slice_get w.store.symbols x.0)

-- ---- functions

abbrev pub next_function : StageState → FnId
next_function w = stores.next_function w.store

-- a new function, which isn't defined, with its type where it is declared
abbrev pub with_function : StageState → Place → Option TypeId → StageState
with_function w place declared = with_store w (stores.with_function w.store declared place)

abbrev pub declaration : Option Function → Option TypeId
declaration (Some f) = f.declared
declaration None = None

abbrev pub declared_type : StageState → FnId → Option TypeId
declared_type w f = declaration (slice_get w.store.functions f.0)

abbrev pub undefined_state : FunctionState → Bool
undefined_state states.Undefined = true
undefined_state _ = false

abbrev pub is_undefined : StageState → FnId → Bool
is_undefined w f = undefined_state (stores.state_of w.store f)

-- whether a definition may give this function its term: it is there and isn't defined
abbrev pub may_be_defined : StageState → FnId → Bool
may_be_defined w f = nat_lt f.0 (length w.store.functions) && is_undefined w f

-- a function once it is defined, with its place and its term
abbrev pub with_defined : StageState → FnId → Place → TermId → StageState
with_defined w f place term = with_store w (stores.with_defined w.store f term place)

-- ---- quotes

abbrev pub next_quote : StageState → QuoteId
next_quote w = stores.next_quote w.store

abbrev pub with_quote : StageState → Quote → StageState
with_quote w q = with_store w (stores.with_quote w.store q)

abbrev pub quote_at : StageState → QuoteId → Option Quote
quote_at w q = slice_get w.store.quotes q.0

-- ---- types and names

abbrev pub form_at : StageState → TypeId → Option TypeForm
form_at w t = slice_get w.store.types t.0

-- the store keeps the bytes of a name
abbrev pub with_name : StageState → TextId → StageState
with_name w text = with_store w (stores.with_name w.store text (text_at w.heap text))
