-- The symbols of an image's exports.
use Rattle.std.specs.Prelude.{ℕ, nat_eq, if◌then◌else◌, List, [], ◌∷◌, Option, Some, None}
use Rattle.tl_base.specs.declared.ids.FnId.{FnId}
use Rattle.tl_base.specs.declared.ids.TypeId.{TypeId}
use Rattle.elf_image.specs.declared.image.Symbol.{Symbol}
use Rattle.terra_types.specs.Opening.{unit}
use Rattle.terra_term.specs.declared.store.Export.{Export}
use Rattle.terra_term.specs.declared.lists.TypedName.{TypedName}
use Rattle.terra_term.specs.Stores.{Callable, Contents, callable_of}
use Rattle.terra_meaning.specs.Values.{form_at}
use Rattle.back_end.specs.Codes.{codes_of, type_code}

-- where a function begins, by the first that has its number
abbrev pub start_among : (ids : List FnId) → (starts : List ℕ) → FnId → ℕ
start_among (g ∷ gs) (s ∷ ss) f = if nat_eq g.0 f.0 then s else start_among gs ss f
start_among _ _ f = 0

abbrev pub parameters_in : Option Callable → List TypedName
parameters_in None = []
parameters_in (Some k) = k.body.parameters

abbrev pub result_in : Option Callable → TypeId
result_in None = unit
result_in (Some k) = k.body.result

-- an export's symbol, where its function begins at an address
abbrev pub symbol_of : Contents → (at : ℕ) → Export → Symbol
symbol_of store at e = record {
  name = e.name;
  address = at;
  params = codes_of store.types (parameters_in (callable_of store e.function));
  result = type_code (form_at store.types (result_in (callable_of store e.function)));
}

abbrev pub symbols_of : Contents → (ids : List FnId) → (starts : List ℕ) → List Export → List Symbol
symbols_of store ids starts [] = []
symbols_of store ids starts (e ∷ es) = symbol_of store (start_among ids starts e.function) e ∷ symbols_of store ids starts es
