-- Parameters: the declared type with which they agree, and their declarations; and initialisers.
use Rattle.std.specs.Prelude.{Bool, true, false, ◌==◌, List, [], ◌∷◌, ◌++◌, length, ◌&&◌, Option, Some, None}
use Rattle.std.specs.Prelude.{option_and_then, if◌then◌else◌}
use Rattle.tl_base.specs.declared.ids.EnvId.{EnvId}
use Rattle.tl_base.specs.declared.ids.NodeId.{NodeId}
use Rattle.tl_base.specs.declared.ids.SymId.{SymId}
use Rattle.tl_base.specs.declared.place.Place.{Place}
use Rattle.tl_base.specs.declared.ids.TypeId.{TypeId}
use Rattle.tl_base.specs.declared.ids.FnId.{FnId}
use Rattle.exotype.specs.World.{StageState}
use Rattle.lua_value.specs.declared.value.Value.{Value}
use Rattle.lua_value.specs.declared.value.Value.TheVariants as values
use Rattle.spec_model.specs.Making.{may_be_defined, symbol_type}
use Rattle.lua_table.specs.LuaState.{LuaState}
use Rattle.lua_table.specs.Cells.{declare}
use Rattle.terra_types.specs.declared.types.TypeForm.{TypeForm}
use Rattle.terra_types.specs.declared.types.TypeForm.TheVariants as forms
use Rattle.terra_types.specs.Making.{same_types}
use Rattle.spec_model.specs.declared.wanted.Drawn.{Drawn}
use Rattle.spec_model.specs.Definitions.{drawn_types, agrees}
use Rattle.spec_model.specs.Nodes.{Initial}
use Rattle.spec_machine.specs.declared.code.Initial.{Initial as InitialCode}
use Rattle.spec_machine.specs.declared.frame.EntryFrame.{EntryFrame}

-- the declared result type, where the declaration's types are these
abbrev pub agreed : Option TypeForm → List Drawn → Option TypeId → Option TypeId
agreed (Some (forms.Function params declared)) ds result =
    if same_types (drawn_types ds) params && agrees result declared then Some declared else None
agreed form ds result = None

-- symbols as parameters behind others, where each has a type
abbrev pub typed_symbol : SymId → Option TypeId → Place → List Drawn → Option (List Drawn)
typed_symbol x (Some of) place ds = Some (ds ++ record { symbol = x; of = of; place = place; named = false } ∷ [])
typed_symbol x None place ds = None

abbrev pub typed_symbols : StageState → List SymId → Place → List Drawn → Option (List Drawn)
typed_symbols w [] place ds = Some ds
typed_symbols w (x ∷ xs) place ds =
    option_and_then (λ more. typed_symbols w xs place more) (typed_symbol x (symbol_type w x) place ds)

-- the heap with the name of a parameter that has one
abbrev pub with_parameter : Drawn → EnvId → LuaState → LuaState
with_parameter d env s = if d.named then declare env (values.Symbol d.symbol) s else s

-- the heap with the names of these parameters
abbrev pub with_parameters : List Drawn → EnvId → LuaState → LuaState
with_parameters [] env s = s
with_parameters (d ∷ ds) env s = with_parameters ds env (with_parameter d env s)

-- no name stands behind one in a path
abbrev pub is_last : List NodeId → Option NodeId → Bool
is_last ns (Some method) = false
is_last ns None = length ns == 0

-- an initialiser of the code
abbrev pub initial_in : Option InitialCode → Option Initial
initial_in (Some i) = Some (record { name = i.name; value = i.value })
initial_in None = None

-- the function that a value is, if it is there and isn't defined
abbrev pub standing_in : StageState → Value → Option FnId
standing_in w (values.TerraFunction f) = if may_be_defined w f then Some f else None
standing_in w v = None

-- what a struct's definition gives
abbrev pub struct_made : EntryFrame → Value
struct_made f = if f.anonymous then values.TerraType f.of else values.Nil
