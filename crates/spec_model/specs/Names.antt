-- Names of fields and methods, and symbols in the place of declared names.
use Rattle.std.specs.Prelude.{List, [], ◌∷◌, ◌++◌, Option, Some, None}
use Rattle.tl_base.specs.declared.ids.EnvId.{EnvId}
use Rattle.tl_base.specs.declared.ids.NodeId.{NodeId}
use Rattle.tl_base.specs.declared.ids.SymId.{SymId}
use Rattle.tl_base.specs.declared.ids.TextId.{TextId}
use Rattle.tl_base.specs.declared.place.Place.{Place}
use Rattle.tl_base.specs.Plan.{Read, Write}
use Rattle.lua_value.specs.declared.value.Value.{Value}
use Rattle.lua_value.specs.declared.value.Value.TheVariants as values
use Rattle.lua_value.specs.Values.{kind_of}
use Rattle.lua_table.specs.Heap.{table_at}
use Rattle.tl_tree.specs.Code.{Items, name_at, place_at}
use Rattle.exotype.specs.declared.fault.Fault.TheVariants as faults
use Rattle.spec_model.specs.Making.{with_name}
use Rattle.spec_model.specs.Nodes.{escaped_at}
use Rattle.spec_model.specs.Plans.{SpecPlan, with_text_of, raise, eval, values_in}

-- ---- behind `.` and `:`

abbrev pub text_in : Value → Place → (TextId → SpecPlan) → SpecPlan
text_in (values.Text text) place go = go text
text_in v place go = raise place (faults.InTerraCode (kind_of v))

abbrev pub member_of : Items → Option NodeId → NodeId → EnvId → (TextId → SpecPlan) → SpecPlan
member_of items (Some e) n env go = eval e env (λ v. text_in v (place_at items n) go)
member_of items None n env go = with_text_of (name_at items n) go

-- a name, or an escape in its place, which gives a text
abbrev pub member : Items → NodeId → EnvId → (TextId → SpecPlan) → SpecPlan
member items n env go = member_of items (escaped_at items n) n env go

-- the store knows the name's bytes before a term has it
abbrev pub naming : TextId → SpecPlan → SpecPlan
naming text rest = Read (λ w. Write (with_name w text) rest)

-- ---- in the place of a declared name

abbrev pub symbols_in : List Value → Place → List SymId → (List SymId → SpecPlan) → SpecPlan
symbols_in [] place xs go = go xs
symbols_in (values.Symbol x ∷ vs) place xs go = symbols_in vs place (xs ++ x ∷ []) go
symbols_in (v ∷ vs) place xs go = raise place (faults.InTerraCode (kind_of v))

-- a symbol, or a table of symbols
abbrev pub symbols_of : Value → Place → (List SymId → SpecPlan) → SpecPlan
symbols_of (values.Symbol x) place go = go (x ∷ [])
symbols_of (values.Table t) place go = Read (λ w. symbols_in (values_in (table_at w.heap t)) place [] go)
symbols_of v place go = raise place (faults.InTerraCode (kind_of v))

-- one symbol
abbrev pub symbol_of : Value → Place → (SymId → SpecPlan) → SpecPlan
symbol_of (values.Symbol x) place go = go x
symbol_of v place go = raise place (faults.InTerraCode (kind_of v))
