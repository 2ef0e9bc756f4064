-- Names by the paths of their declarations.
use Rattle.std.proofs.Common.{◌≡◌, ℕ, List, refl, sym, ap, ◌∙◌, Option, Some, None}
use Rattle.tl_base.specs.declared.place.Place.{Place}
use Rattle.tl_base.specs.Plan.{Read}
use Rattle.tl_tree.specs.Scopes.{Found}
use Rattle.lua_value.specs.declared.value.Value.{Value}
use Rattle.lua_value.specs.declared.value.Value.TheVariants as values
use Rattle.lua_table.specs.Cells.{local_value}
use Rattle.lua_model.specs.declared.scope.Scope.{Scope}
use Rattle.lua_model.specs.Plans.{LuaPlan, give, with_text_of}
use Rattle.lua_model.specs.Fields.{read, globals}
use Rattle.lua_model.specs.Expressions.{name_plan}
use Rattle.lua_model.specs.Assignments.{store_name}
use Rattle.lua_eval.specs.Slots.{path_of}
use Rattle.lua_eval.specs.Stores.{store_by_path}

abbrev pub name_by : Option (ℕ × ℕ) → List ℕ → Place → Scope → LuaPlan
name_by (Some path) text place scope = Read (λ s. give (local_value s scope.env path.0 path.1))
name_by None text place scope = with_text_of text (λ key. read (values.Table globals) key place scope.call give)

pub named_by_path : (b : Option Found) (text : List ℕ) (place : Place) (scope : Scope)
    → name_plan b text place scope ≡ name_by (path_of b) text place scope
named_by_path (Some found) text place scope = refl
named_by_path None text place scope = refl

pub stored_by_path : (b : Option Found) (text : List ℕ) (place : Place) (scope : Scope) (v : Value) (rest : LuaPlan)
    → store_name b text place scope v rest ≡ store_by_path (path_of b) text place scope v rest
stored_by_path (Some found) text place scope v rest = refl
stored_by_path None text place scope v rest = refl

-- the same, where the path is known by an equation
pub name_known : (b : Option Found) (path : Option (ℕ × ℕ)) (text : List ℕ) (place : Place) (scope : Scope)
    → path ≡ path_of b → name_plan b text place scope ≡ name_by path text place scope
name_known b path text place scope e =
    named_by_path b text place scope ∙ ap (λ (p : Option (ℕ × ℕ)). name_by p text place scope) (sym e)

pub store_known : (b : Option Found) (path : Option (ℕ × ℕ)) (text : List ℕ) (place : Place) (scope : Scope) (v : Value) (rest : LuaPlan)
    → path ≡ path_of b → store_name b text place scope v rest ≡ store_by_path path text place scope v rest
store_known b path text place scope v rest e =
    stored_by_path b text place scope v rest ∙ ap (λ (p : Option (ℕ × ℕ)). store_by_path p text place scope v rest) (sym e)
