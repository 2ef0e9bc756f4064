-- Declarations and definitions of Terra functions.
use Rattle.std.specs.Prelude.{ℕ, Bool, true, false, ◌&&◌, List, [], ◌∷◌, ◌++◌, length, Option, Some, None, if◌then◌else◌}
use Rattle.tl_base.specs.declared.ids.EnvId.{EnvId}
use Rattle.tl_base.specs.declared.ids.FnId.{FnId}
use Rattle.tl_base.specs.declared.ids.NodeId.{NodeId}
use Rattle.tl_base.specs.declared.ids.SymId.{SymId}
use Rattle.tl_base.specs.declared.ids.TermId.{TermId}
use Rattle.tl_base.specs.declared.ids.TextId.{TextId}
use Rattle.tl_base.specs.declared.ids.TypeId.{TypeId}
use Rattle.tl_base.specs.declared.place.Place.{Place}
use Rattle.tl_base.specs.Plan.{Give, Read, Write, Pay}
use Rattle.lua_value.specs.declared.value.Value.{Value}
use Rattle.lua_value.specs.declared.value.Value.TheVariants as values
use Rattle.lua_value.specs.Values.{kind_of}
use Rattle.lua_table.specs.LuaState.{LuaState}
use Rattle.lua_table.specs.Pairs.{value_in}
use Rattle.lua_table.specs.Heap.{next_cell, cell_at, with_set, table_at, with_stored}
use Rattle.tl_tree.specs.Code.{Items, name_at, place_at, path_at, names_method, statements_at}
use Rattle.tl_tree.specs.Scopes.{Found as Declared, binder}
use Rattle.lua_table.specs.Cells.{local_cell}
use Rattle.lua_model.specs.Fields.{globals}
use Rattle.terra_types.specs.declared.types.TypeForm.{TypeForm}
use Rattle.terra_types.specs.declared.types.TypeForm.TheVariants as forms
use Rattle.terra_term.specs.declared.lists.Parameter.{Parameter}
use Rattle.terra_term.specs.declared.term.Term.TheVariants as terms
use Rattle.terra_types.specs.Making.{same_type, same_types}
use Rattle.exotype.specs.declared.fault.Fault.TheVariants as faults
use Rattle.exotype.specs.World.{StageState, with_heap}
use Rattle.exotype.specs.Types.{pointer_id, with_pointer, is_struct, tables_of}
use Rattle.exotype.specs.Terms.{function_size}
use Rattle.spec_model.specs.Making.{next_symbol, with_symbol, symbol_type, next_function, with_function, declared_type, is_undefined}
use Rattle.spec_model.specs.Making.{may_be_defined}
use Rattle.spec_model.specs.Making.{with_defined, form_at}
use Rattle.spec_model.specs.declared.end.End.TheVariants.{Gave}
use Rattle.spec_model.specs.declared.target.Target.{Target}
use Rattle.spec_model.specs.declared.target.Target.TheVariants as targets
use Rattle.spec_model.specs.declared.wanted.Drawn.{Drawn}
use Rattle.spec_model.specs.Nodes.{escaped_at, Typing, typing_at, TerraParts, terra_parts_at}
use Rattle.spec_model.specs.Plans.{SpecPlan, with_text_of, raise, eval, index, node, block, entering, declaring}
use Rattle.spec_model.specs.Names.{symbols_of}
use Rattle.spec_model.specs.Types.{type_of, type_if_any}
use Rattle.spec_model.specs.Expressions.{named_value}
use Rattle.spec_model.specs.Quotes.{limited}

-- a statement gives nil
abbrev pub over : SpecPlan
over = Give (Gave values.Nil)

-- ---- where a definition is stored

abbrev pub held_in : LuaState → Target → Value
held_in heap (targets.Cell cell) = cell_at heap cell
held_in heap (targets.Key table key) = value_in (table_at heap table) (values.Text key)

abbrev pub with_held : LuaState → Target → Value → LuaState
with_held heap (targets.Cell cell) v = with_set heap cell v
with_held heap (targets.Key table key) v = with_stored heap table (values.Text key) v

-- a raw store
abbrev pub storing : Target → Value → SpecPlan → SpecPlan
storing target v rest = Read (λ w. Write (with_heap w (with_held w.heap target v)) rest)

-- the struct whose method is defined, if one is
abbrev pub Go : Type 0
Go = Target → Option TypeId → SpecPlan

abbrev pub key : TextId → Value → Place → Go → SpecPlan
key name (values.Table t) place go = go (targets.Key t name) None
key name v place go = raise place (faults.Index (kind_of v))

abbrev pub method_key : TextId → Value → Place → Go → SpecPlan
method_key name (values.TerraType t) place go =
    Read (λ w.
    if is_struct w t then go (targets.Key (tables_of w t).methods name) (Some t)
    else raise place (faults.Index (kind_of (values.TerraType t))))
method_key name v place go = raise place (faults.Index (kind_of v))

-- the names behind the first one: those before the last are read, and behind the `:` of a method its struct's methods take the last
abbrev pub steps : Items → Bool → List NodeId → Value → Go → SpecPlan
steps items method [] object go = raise (record { line = 0; word = 0 }) (faults.Index (kind_of object))
steps items method (n ∷ []) object go =
    with_text_of (name_at items n) (λ name.
    if method then method_key name object (place_at items n) go else key name object (place_at items n) go)
steps items method (n ∷ m ∷ ns) object go = index object (name_at items n) (place_at items n) (λ next. steps items method (m ∷ ns) next go)

abbrev pub only_name : Option Declared → List ℕ → EnvId → Go → SpecPlan
only_name (Some declared) name env go = Read (λ w. go (targets.Cell (local_cell w.heap env declared.depth declared.position)) None)
only_name None name env go = with_text_of name (λ text. go (targets.Key globals text) None)

abbrev pub targeted : Items → List NodeId → Bool → EnvId → Go → SpecPlan
targeted items [] method env go = over
targeted items (n ∷ []) method env go = only_name (binder items n) (name_at items n) env go
targeted items (n ∷ m ∷ ns) method env go =
    named_value (binder items n) (name_at items n) (place_at items n) env (λ object. steps items method (m ∷ ns) object go)

-- the target of a path, whose first name pays
abbrev pub target : Items → NodeId → EnvId → Go → SpecPlan
target items path env go = Pay 1 (targeted items (path_at items path) (names_method items path) env go)

-- ---- parameters

-- draws a symbol of a type
abbrev pub draw : TypeId → (SymId → SpecPlan) → SpecPlan
draw of go = Read (λ w. Write (with_symbol w (Some of)) (go (next_symbol w)))

abbrev pub spliced_one : SymId → Option TypeId → Place → List Drawn → (List Drawn → SpecPlan) → SpecPlan
spliced_one x (Some of) place ds go = go (ds ++ record { symbol = x; of = of; place = place; named = false } ∷ [])
spliced_one x None place ds go = raise place faults.SymbolWithoutType

-- symbols that an escape gave, which must have types
abbrev pub spliced : List SymId → Place → List Drawn → (List Drawn → SpecPlan) → SpecPlan
spliced [] place ds go = go ds
spliced (x ∷ xs) place ds go = Read (λ w. spliced_one x (symbol_type w x) place ds (λ more. spliced xs place more go))

abbrev pub named_parameter : Items → Typing → Option NodeId → EnvId → List Drawn → (List Drawn → SpecPlan) → SpecPlan
named_parameter items p (Some type) env ds go =
    type_of items type env (λ of. draw of (λ x.
    go (ds ++ record { symbol = x; of = of; place = place_at items p.name; named = true } ∷ [])))
named_parameter items p None env ds go = go ds

abbrev pub parameter : Items → Typing → Option NodeId → EnvId → List Drawn → (List Drawn → SpecPlan) → SpecPlan
parameter items p (Some e) env ds go =
    eval e env (λ v. symbols_of v (place_at items p.name) (λ xs. spliced xs (place_at items p.name) ds go))
parameter items p None env ds go = named_parameter items p p.type env ds go

-- Each parameter pays for itself. A type lies outside of the function's scope.
abbrev pub parameters : Items → List NodeId → EnvId → List Drawn → (List Drawn → SpecPlan) → SpecPlan
parameters items [] env ds go = go ds
parameters items (n ∷ ns) env ds go =
    Pay 1 (parameter items (typing_at items n) (escaped_at items (typing_at items n).name) env ds (λ more. parameters items ns env more go))

-- the implicit first parameter of a method
abbrev pub self : Option TypeId → Place → (List Drawn → SpecPlan) → SpecPlan
self None place go = go []
self (Some struct) place go =
    Read (λ w. Write (with_pointer w struct) (draw (pointer_id w struct) (λ x.
    go (record { symbol = x; of = pointer_id w struct; place = place; named = true } ∷ []))))

abbrev pub parameter_list : List Drawn → List Parameter
parameter_list [] = []
parameter_list (d ∷ ds) = record { symbol = d.symbol; of = d.of; place = d.place } ∷ parameter_list ds

abbrev pub drawn_types : List Drawn → List TypeId
drawn_types [] = []
drawn_types (d ∷ ds) = d.of ∷ drawn_types ds

-- declares the names of parameters
abbrev pub declaring_all : List Drawn → EnvId → SpecPlan → SpecPlan
declaring_all [] env rest = rest
declaring_all (d ∷ ds) env rest =
    if d.named then declaring env (values.Symbol d.symbol) (declaring_all ds env rest) else declaring_all ds env rest

-- ---- a declaration's type

abbrev pub agrees : Option TypeId → TypeId → Bool
agrees (Some t) result = same_type t result
agrees None result = true

abbrev pub as_declared : Option TypeForm → List Drawn → Option TypeId → Place → (Option TypeId → SpecPlan) → SpecPlan
as_declared (Some (forms.Function params declared)) ds result place go =
    if same_types (drawn_types ds) params && agrees result declared then go (Some declared) else raise place faults.DiffersFromDeclaration
as_declared form ds result place go = raise place faults.DiffersFromDeclaration

-- the result type: the declared one, with which what is written must agree, or the written one
abbrev pub result_type : StageState → Option TypeId → List Drawn → Option TypeId → Place → (Option TypeId → SpecPlan) → SpecPlan
result_type w None ds result place go = go result
result_type w (Some t) ds result place go = as_declared (form_at w t) ds result place go

-- ---- definitions

-- the function takes its term, if it has none yet
abbrev pub finish : FnId → List Drawn → Option TypeId → List TermId → Place → SpecPlan → SpecPlan
finish f ds result ts place rest =
    Read (λ w.
    limited (function_size w (length ds) ts) place
    (if is_undefined w f then node (terms.Function (parameter_list ds) result ts) (λ t. Read (λ v. Write (with_defined v f place t) rest))
    else raise place faults.AlreadyDefined))

-- Specialises a function's body, and defines the function. The environment belongs to the owner.
abbrev pub define : Items → FnId → TerraParts → NodeId → Option TypeId → Place → EnvId → SpecPlan → SpecPlan
define items f parts owner struct place env rest =
    Pay 1 (self struct place (λ first. parameters items parts.parameters env first (λ ds. type_if_any items parts.result env (λ written.
    Read (λ w. result_type w (declared_type w f) ds written place (λ result.
    entering owner env (λ inner. declaring_all ds inner
    (block (statements_at items parts.block) inner [] (λ ts. finish f ds result ts place rest)))))))))

-- a new function that isn't defined
abbrev pub new_function : Place → Option TypeId → (FnId → SpecPlan) → SpecPlan
new_function place declared go = Read (λ w. Write (with_function w place declared) (go (next_function w)))

abbrev pub made : Target → Place → (FnId → SpecPlan) → SpecPlan
made t place go = new_function place None (λ f. storing t (values.TerraFunction f) (go f))

-- The function that stands there and isn't defined, or a new one, which is stored there. A value of Lua names a function that is there: no
-- Lua code can make another. So no staging finds that one isn't.
abbrev pub standing : StageState → Value → Target → Place → (FnId → SpecPlan) → SpecPlan
standing w (values.TerraFunction f) t place go = if may_be_defined w f then go f else made t place go
standing w v t place go = made t place go

abbrev pub terra_plan : Items → NodeId → NodeId → NodeId → Place → EnvId → SpecPlan
terra_plan items path body n place env =
    target items path env (λ t struct. Read (λ w. standing w (held_in w.heap t) t place (λ f.
    define items f (terra_parts_at items body) n struct place env over)))

-- a local function is declared before it is defined, and its body sees it
abbrev pub local_terra_plan : Items → NodeId → Place → EnvId → SpecPlan
local_terra_plan items body place env =
    new_function place None (λ f. declaring env (values.TerraFunction f)
    (define items f (terra_parts_at items body) body None place env over))

abbrev pub anonymous_plan : Items → NodeId → Place → EnvId → SpecPlan
anonymous_plan items body place env =
    new_function place None (λ f. define items f (terra_parts_at items body) body None place env (Give (Gave (values.TerraFunction f))))

-- ---- declarations

abbrev pub function_form : Option TypeForm → Bool
function_form (Some (forms.Function params result)) = true
function_form _ = false

-- the type behind `::`, which must be one of functions
abbrev pub function_type : Items → NodeId → EnvId → (TypeId → SpecPlan) → SpecPlan
function_type items n env go =
    type_of items n env (λ t. Read (λ w. if function_form (form_at w t) then go t else raise (place_at items n) faults.NotAType))

abbrev pub declare_plan : Items → NodeId → NodeId → Place → EnvId → SpecPlan
declare_plan items path type place env =
    target items path env (λ t struct. function_type items type env (λ of.
    new_function place (Some of) (λ f. storing t (values.TerraFunction f) over)))

-- the local is there, and nil, while its type is evaluated
abbrev pub local_declare_plan : Items → NodeId → Place → EnvId → SpecPlan
local_declare_plan items type place env =
    Read (λ w. declaring env values.Nil (function_type items type env (λ of.
    new_function place (Some of) (λ f. storing (targets.Cell (next_cell w.heap)) (values.TerraFunction f) over))))
