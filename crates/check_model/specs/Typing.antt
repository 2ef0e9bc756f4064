-- What typing reads of the world: types, nodes, and the variables in scope.
use Rattle.std.specs.Prelude.{ℕ, Bool, true, false, ◌==◌, if◌then◌else◌, List, [], ◌∷◌, ◌++◌, take, drop, Option, Some, None, slice_get}
use Rattle.std.specs.Prelude.{unwrap_or}
use Rattle.tl_base.specs.declared.place.Place.{Place}
use Rattle.tl_base.specs.declared.ids.FnId.{FnId}
use Rattle.tl_base.specs.declared.ids.SymId.{SymId}
use Rattle.tl_base.specs.declared.ids.TermId.{TermId}
use Rattle.tl_base.specs.declared.ids.TypeId.{TypeId}
use Rattle.terra_types.specs.declared.types.TypeForm.{TypeForm}
use Rattle.terra_types.specs.declared.types.TypeForm.TheVariants as forms
use Rattle.terra_types.specs.Sizes.{size_of}
use Rattle.terra_types.specs.Opening.{rawstring}
use Rattle.terra_term.specs.declared.store.Function.{Function}
use Rattle.terra_term.specs.declared.lists.TypedName.{TypedName}
use Rattle.terra_term.specs.declared.term.Term.{Term}
use Rattle.terra_term.specs.declared.term.Term.TheVariants as kinds
use Rattle.terra_term.specs.declared.term.Expression.{Expression}
use Rattle.terra_term.specs.declared.term.Expression.TheVariants as e
use Rattle.terra_term.specs.declared.typed.Typed.{Typed}
use Rattle.terra_term.specs.declared.typed.Typed.TheVariants as typed_kinds
use Rattle.terra_term.specs.declared.typed.TypedExpression.{TypedExpression}
use Rattle.terra_term.specs.declared.typed.TypedExpression.TheVariants as te
use Rattle.terra_term.specs.declared.operators.Constant.TheVariants as constants
use Rattle.terra_term.specs.Planted.{nowhere}
use Rattle.terra_term.specs.WellTyped.{struct_form}
use Rattle.check_cast.specs.Conversions.{form_of}
use Rattle.exotype.specs.World.{StageState}
use Rattle.check_model.specs.declared.made.Made.{Made}

-- the world of a staging, and the variables that are in scope in the bodies being typed, the innermost last
pub record TypingState : Type 0 where
  pub stage : StageState
  pub variables : List TypedName

-- ---- types

abbrev pub form_in : StageState → TypeId → TypeForm
form_in w t = form_of w.store.types t

abbrev pub is_aggregate_form : TypeForm → Bool
is_aggregate_form (forms.Struct number place layout) = true
is_aggregate_form (forms.Array t n) = true
is_aggregate_form _ = false

-- the number of bytes of a type whose layout is settled
abbrev pub bytes_in : StageState → TypeId → ℕ
bytes_in w t = unwrap_or (size_of w.store.types t) 0

-- the struct that a type is, or to which it points
abbrev pub struct_if : StageState → TypeId → Option TypeId
struct_if w t = if struct_form (form_in w t) then Some t else None

abbrev pub struct_behind : StageState → TypeId → TypeForm → Option TypeId
struct_behind w t (forms.Pointer u) = struct_if w u
struct_behind w t form = struct_if w t

abbrev pub struct_of : StageState → TypeId → Option TypeId
struct_of w t = struct_behind w t (form_in w t)

-- ---- nodes

abbrev pub expression_in : Option Term → Expression
expression_in (Some (kinds.Expression at x)) = x
expression_in _ = e.Nil

abbrev pub expression_at : StageState → TermId → Expression
expression_at w t = expression_in (slice_get w.store.terms t.0)

abbrev pub place_in : Option Term → Place
place_in (Some (kinds.Expression at x)) = at
place_in (Some (kinds.Statement at x)) = at
place_in _ = nowhere

abbrev pub place_of : StageState → TermId → Place
place_of w t = place_in (slice_get w.store.terms t.0)

abbrev pub is_nil_term : Option Term → Bool
is_nil_term (Some (kinds.Expression at e.Nil)) = true
is_nil_term _ = false

-- What was typed from the term `nil` takes the type that a rule gives it. A cast of it is another term.
abbrev pub is_nil_made : StageState → Made → Bool
is_nil_made w m = is_nil_term (slice_get w.store.terms m.source.0)

-- which expressions are places
abbrev pub is_place_form : TypedExpression → Bool
is_place_form (te.Variable x) = true
is_place_form (te.Global address) = true
is_place_form (te.Dereference p) = true
is_place_form (te.Select offset x) = true
is_place_form (te.Follow offset p) = true
is_place_form (te.Element a i) = true
is_place_form (te.Index p i) = true
is_place_form _ = false

-- a typed expression by its node and the term from which it was typed
abbrev pub made_of : (id source : TermId) → Place → TypeId → TypedExpression → Made
made_of id source at of form = record { id = id; source = source; at = at; of = of; is_place = is_place_form form }

abbrev pub made_in : Option Typed → TermId → TermId → Made
made_in (Some (typed_kinds.Expression at of form)) id source = made_of id source at of form
made_in _ id source = made_of id source nowhere rawstring (te.Constant constants.Nil)

abbrev pub made_at : StageState → (id source : TermId) → Made
made_at w id source = made_in (slice_get w.store.typed id.0) id source

-- ---- functions

abbrev pub function_at : StageState → FnId → Option Function
function_at w f = slice_get w.store.functions f.0

-- ---- variables

abbrev pub found_in : SymId → List TypedName → Option TypeId → Option TypeId
found_in x [] found = found
found_in x (v ∷ vs) found = found_in x vs (if x.0 == v.symbol.0 then Some v.of else found)

-- the type of a symbol whose declaration is in scope, where so many variables stand before those of the body
abbrev pub variable_at : TypingState → ℕ → SymId → Option TypeId
variable_at w base x = found_in x (drop base w.variables) None

abbrev pub with_variable : TypingState → SymId → TypeId → TypingState
with_variable w x t = record w { variables = w.variables ++ record { symbol = x; of = t } ∷ [] }

abbrev pub with_variables : TypingState → List TypedName → TypingState
with_variables w vs = record w { variables = w.variables ++ vs }

-- with the first so many alone
abbrev pub cut_to : TypingState → ℕ → TypingState
cut_to w n = record w { variables = take n w.variables }
