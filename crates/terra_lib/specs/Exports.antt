-- What may be exported, and what an export leaves.
use Rattle.std.specs.Prelude.{ℕ, Bool, true, false, not, ◌==◌, ◌&&◌, ◌||◌, List, [], ◌∷◌, length, nat_le, nat_lt, bytes_eq}
use Rattle.std.specs.Prelude.{Option, Some, None, slice_get}
use Rattle.std.specs.List.{list_all, list_any}
use Rattle.tl_base.specs.declared.ids.FnId.{FnId}
use Rattle.tl_base.specs.declared.ids.TermId.{TermId}
use Rattle.tl_base.specs.declared.ids.TextId.{TextId}
use Rattle.tl_base.specs.declared.ids.TypeId.{TypeId}
use Rattle.tl_base.specs.declared.limits.TheConstants.{MAX_NAME_BYTES, MAX_PARAMETERS}
use Rattle.tl_base.specs.declared.limits.TheConstants.Limits.{MAX_BUDGET}
use Rattle.lua_value.specs.declared.value.Value.{Value}
use Rattle.lua_value.specs.declared.value.Value.TheVariants as values
use Rattle.lua_table.specs.Heap.{text_at}
use Rattle.terra_types.specs.declared.types.TypeForm.{TypeForm}
use Rattle.terra_types.specs.declared.types.TypeForm.TheVariants as forms
use Rattle.terra_term.specs.declared.lists.Parameter.{Parameter}
use Rattle.terra_term.specs.declared.store.Export.{Export}
use Rattle.terra_term.specs.declared.term.Term.{Term}
use Rattle.terra_term.specs.declared.term.Term.TheVariants as terms
use Rattle.terra_term.specs.Held.{state_of, term_in}
use Rattle.exotype.specs.World.{StageState, with_export, with_saved}
use Rattle.spec_model.specs.Making.{form_at, is_undefined}
use Rattle.terra_lib.specs.Symbols.{is_scalar}
-- the result type of a function's term, where it is written
pub use Rattle.terra_term.specs.Held.{written_in as result_in}

-- ---- signatures

abbrev pub term_found : StageState → Option TermId → Option Term
term_found w None = None
term_found w (Some t) = slice_get w.store.terms t.0

-- the term of a function, once it is defined
abbrev pub term_of_function : StageState → FnId → Option Term
term_of_function w f = term_found w (term_in (state_of w.store f))

abbrev pub parameters_in : Option Term → List Parameter
parameters_in (Some (terms.Function params result body)) = params
parameters_in _ = []

abbrev pub all_scalar : List TypeForm → List Parameter → Bool
all_scalar types [] = true
all_scalar types (p ∷ ps) = is_scalar (slice_get types p.of.0) && all_scalar types ps

-- at most eight parameters, all scalar
abbrev pub are_scalars : List TypeForm → List Parameter → Bool
are_scalars types ps = nat_le (length ps) MAX_PARAMETERS && all_scalar types ps

abbrev pub takes_scalars : StageState → List Parameter → Bool
takes_scalars w ps = are_scalars w.store.types ps

abbrev pub is_unit : Option TypeForm → Bool
is_unit (Some forms.Unit) = true
is_unit _ = false

-- a scalar result or a unit one; one that isn't written is found by a check
abbrev pub gives_scalar : StageState → Option TypeId → Bool
gives_scalar w (Some t) = is_scalar (form_at w t) || is_unit (form_at w t)
gives_scalar w None = true

-- ---- names

-- 1 to 255 bytes without a zero byte
abbrev pub is_name : List ℕ → Bool
is_name name = nat_le 1 (length name) && nat_le (length name) MAX_NAME_BYTES && list_all (λ b. not (b == 0)) name

abbrev pub is_used : List Export → List ℕ → Bool
is_used exports name = list_any (λ (e : Export). bytes_eq e.name name) exports

-- the most exports that there may be; a budget of units buys no more, since each export pays for a check
abbrev pub most_exports : ℕ
most_exports = MAX_BUDGET

-- a name that may be that of a new export; that there are fewer than the most exports is so in each staging
abbrev pub is_free : StageState → List ℕ → Bool
is_free w name = is_name name && not (is_used w.exports.list name) && nat_lt (length w.exports.list) most_exports

-- ---- what a table has

abbrev pub is_text : Value → Bool
is_text (values.Text t) = true
is_text v = false

-- a function that is defined, and has at most eight parameters, all scalar
abbrev pub may_be_exported : StageState → Value → Bool
may_be_exported w (values.TerraFunction f) = not (is_undefined w f) && takes_scalars w (parameters_in (term_of_function w f))
may_be_exported w v = false

-- ---- the world behind an export, and behind the first call of `saveobj`

abbrev pub with_exported : StageState → TextId → FnId → StageState
with_exported w key f = record w { exports = with_export w.exports (record { name = text_at w.heap key; function = f }) }

abbrev pub marked : StageState → StageState
marked w = record w { exports = with_saved w.exports }
