-- What the language itself calls where Lua code works on a Terra value: fields, `&T`, `T[n]` and `A -> R`.
use Rattle.std.specs.Prelude.{ℕ, pos, List, [], ◌∷◌, ◌++◌, codes, bytes_eq, Option, Some, None, if◌then◌else◌}
use Rattle.tl_base.specs.declared.ids.TypeId.{TypeId}
use Rattle.tl_base.specs.declared.place.Place.{Place}
use Rattle.tl_base.specs.Layer.{State}
use Rattle.lua_value.specs.declared.library.LibFn.{LibFn}
use Rattle.lua_value.specs.declared.library.LibFn.TheVariants as library
use Rattle.lua_value.specs.declared.value.Value.{Value}
use Rattle.lua_value.specs.declared.value.Value.TheVariants as values
use Rattle.lua_table.specs.Heap.{text_at, table_at}
use Rattle.lua_model.specs.Plans.{whole}
use Rattle.lua_base.specs.Arguments.{argument}
use Rattle.terra_types.specs.declared.types.TypeForm.{TypeForm}
use Rattle.terra_types.specs.declared.types.TypeForm.TheVariants as forms
use Rattle.terra_types.specs.Opening.{unit}
use Rattle.exotype.specs.declared.fault.Fault.TheVariants as faults
use Rattle.exotype.specs.declared.kept.StructTables.{StructTables}
use Rattle.exotype.specs.World.{StageState}
use Rattle.exotype.specs.Types.{function_id, with_function, tables_of}
use Rattle.spec_model.specs.Making.{form_at, symbol_type}
use Rattle.spec_model.specs.Plans.{values_in}
use Rattle.terra_lib.specs.Answers.{Turned, raised, gives_one}
use Rattle.terra_lib.specs.Types.{pointer_of, array_of}

-- ---- fields

-- what stands under a name in a list of names and values
abbrev pub Fields : Type 0
Fields = List (List ℕ × Value)

abbrev pub field_in : Fields → List ℕ → Value
field_in [] name = values.Nil
field_in (f ∷ fs) name = if bytes_eq f.0 name then f.1 else field_in fs name

abbrev pub method : List ℕ → LibFn → List ℕ × Value
method name f = (name, values.Library f)

-- the methods of every type
unfoldable pub struct_methods : Fields
struct_methods = method (codes "isstruct") library.IsStruct ∷ []

unfoldable pub shape_methods : Fields
shape_methods = method (codes "ispointer") library.IsPointer ∷ method (codes "isarray") library.IsArray ∷ struct_methods

unfoldable pub type_methods : Fields
type_methods = method (codes "isintegral") library.IsIntegral ∷ method (codes "islogical") library.IsLogical ∷ shape_methods

-- and of every Terra function
unfoldable pub state_methods : Fields
state_methods = method (codes "isdefined") library.IsDefined ∷ []

unfoldable pub function_methods : Fields
function_methods = method (codes "compile") library.Compile ∷ method (codes "gettype") library.GetType ∷ state_methods

abbrev pub quote_methods : Fields
quote_methods = method (codes "gettype") library.GetType ∷ []

unfoldable pub metamethods_field : StructTables → Fields
metamethods_field tables = (codes "metamethods", values.Table tables.metamethods) ∷ type_methods

unfoldable pub struct_fields : StructTables → Fields
struct_fields tables =
    (codes "entries", values.Table tables.entries) ∷ (codes "methods", values.Table tables.methods) ∷ metamethods_field tables

abbrev pub type_fields : StageState → TypeId → Option TypeForm → Fields
type_fields w t (Some (forms.Pointer of)) = (codes "type", values.TerraType of) ∷ type_methods
type_fields w t (Some (forms.Array of n)) = (codes "type", values.TerraType of) ∷ (codes "N", whole n) ∷ type_methods
type_fields w t (Some (forms.Struct number place layout)) = struct_fields (tables_of w t)
type_fields w t form = type_methods

abbrev pub type_or_nil : Option TypeId → Value
type_or_nil (Some t) = values.TerraType t
type_or_nil None = values.Nil

-- the fields of a Terra value
abbrev pub fields_of : StageState → Value → Fields
fields_of w (values.TerraType t) = type_fields w t (form_at w t)
fields_of w (values.TerraFunction f) = function_methods
fields_of w (values.Primitive p) = function_methods
fields_of w (values.Quote q) = quote_methods
fields_of w (values.Symbol x) = (codes "type", type_or_nil (symbol_type w x)) ∷ []
fields_of w v = []

-- under a key that is no text stands nothing
abbrev pub field_under : StageState → Value → Value → Value
field_under w object (values.Text t) = field_in (fields_of w object) (text_at w.heap t)
field_under w object key = values.Nil

abbrev pub field_turned : State StageState → List Value → Turned
field_turned s vs = gives_one s s.world (field_under s.world (argument vs 0) (argument vs 1))

-- ---- types made by operators

-- `&T`
abbrev pub pointer_type : State StageState → Value → Place → Turned
pointer_type s (values.TerraType t) place = pointer_of s t
pointer_type s v place = raised s place faults.NotAType

-- `T[n]`, of a number from 0 up
abbrev pub array_type : State StageState → Value → Value → Place → Turned
array_type s (values.TerraType t) (values.Number (pos n)) place = array_of s t n place
array_type s v key place = raised s place faults.NotAType

-- types, and behind them those that values are, where all are types
abbrev pub types_from : List TypeId → List Value → Option (List TypeId)
types_from ts [] = Some ts
types_from ts (values.TerraType t ∷ vs) = types_from (ts ++ t ∷ []) vs
types_from ts (v ∷ vs) = None

abbrev pub types_in : List Value → Option (List TypeId)
types_in vs = types_from [] vs

-- the parameters of a function type: a type, or a table of types
abbrev pub parameters_in : StageState → Value → Option (List TypeId)
parameters_in w (values.TerraType t) = Some (t ∷ [])
parameters_in w (values.Table t) = types_in (values_in (table_at w.heap t))
parameters_in w v = None

abbrev pub result_of : List TypeId → Option TypeId
result_of [] = Some unit
result_of (t ∷ []) = Some t
result_of ts = None

abbrev pub result_if : Option (List TypeId) → Option TypeId
result_if (Some ts) = result_of ts
result_if None = None

-- its result: a type, or a table of at most one type, where no type is the unit type
abbrev pub result_in : StageState → Value → Option TypeId
result_in w v = result_if (parameters_in w v)

abbrev pub function_of : State StageState → Option (List TypeId) → Option TypeId → Place → Turned
function_of s (Some params) (Some result) place =
    gives_one s (with_function s.world params result) (values.TerraType (function_id s.world params result))
function_of s params result place = raised s place faults.NotAType

-- `A -> R`
abbrev pub function_type : State StageState → Value → Value → Place → Turned
function_type s params result place = function_of s (parameters_in s.world params) (result_in s.world result) place
