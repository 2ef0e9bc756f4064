-- The text that `terms` writes: a line for each export in order, and then a line with the term of each exported function, once, in order of
-- first export.
use Rattle.std.specs.Prelude.{ℕ, suc, Bool, not, ◌==◌, List, [], ◌∷◌, ◌++◌, codes, decimal, if◌then◌else◌}
use Rattle.std.specs.List.{list_any}
use Rattle.tl_base.specs.declared.ids.FnId.{FnId}
use Rattle.terra_term.specs.declared.store.Export.{Export}
use Rattle.terra_term.specs.Held.{Held}
use Rattle.terra_term.specs.TermText.{function_name, term_text}

abbrev pub export_line : Export → List ℕ
export_line e = codes "export " ++ e.name ++ codes " = " ++ function_name e.function ++ codes "\n"

abbrev pub export_lines : List Export → List ℕ
export_lines [] = []
export_lines (e ∷ es) = export_line e ++ export_lines es

-- whether a function is exported
abbrev pub is_exported : List Export → FnId → Bool
is_exported exports f = list_any (λ (e : Export). e.function.0 == f.0) exports

-- the term of a function, but where it was exported before
abbrev pub term_line : Held → List Export → FnId → List ℕ
term_line store before f = if is_exported before f then [] else term_text store f ++ codes "\n"

abbrev pub term_lines : Held → (before exports : List Export) → List ℕ
term_lines store before [] = []
term_lines store before (e ∷ es) =
    term_line store before e.function ++ term_lines store (before ++ e ∷ []) es

abbrev pub terms_text : Held → List Export → List ℕ
terms_text store exports = export_lines exports ++ term_lines store [] exports
