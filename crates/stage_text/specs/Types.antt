-- The text of a type as parts that are still to be written.
use Rattle.std.specs.Prelude.{ℕ, List, [], ◌∷◌, ◌++◌, codes, decimal, take}
use Rattle.tl_base.specs.declared.ids.TypeId.{TypeId}
use Rattle.terra_types.specs.declared.types.TypeForm.{TypeForm}
use Rattle.terra_types.specs.declared.types.TypeForm.TheVariants as forms
use Rattle.terra_term.specs.TermText.{type_texts, integer_text, made}
use Rattle.stage_text.specs.declared.types.Part.{Part}
use Rattle.stage_text.specs.declared.types.Part.TheVariants as parts

-- the text of a part that is still to be written; a type is among those before a number
abbrev pub part_text : List TypeForm → Part → List ℕ
part_text types (parts.Integer i) = integer_text i
part_text types parts.Bool = codes "bool"
part_text types parts.Unit = codes "{}"
part_text types parts.Pointer = codes "&"
part_text types (parts.Count n) = codes "[" ++ decimal n ++ codes "]"
part_text types parts.Open = codes "{"
part_text types parts.Comma = codes ", "
part_text types parts.Arrow = codes "} -> "
part_text types (parts.Struct n) = codes "struct " ++ decimal n
part_text types (parts.OfType t below) = made (take below (type_texts types)) t

abbrev pub text_in : List TypeForm → List Part → List ℕ
text_in types [] = []
text_in types (p ∷ ps) = part_text types p ++ text_in types ps

abbrev pub comma_types : ℕ → List TypeId → List Part
comma_types below [] = []
comma_types below (t ∷ ts) = parts.Comma ∷ parts.OfType t below ∷ comma_types below ts

abbrev pub listed_types : ℕ → List TypeId → List Part
listed_types below [] = []
listed_types below (t ∷ ts) = parts.OfType t below ∷ comma_types below ts

-- the parts of a type that is made of types before a number
abbrev pub type_parts : ℕ → TypeForm → List Part
type_parts below (forms.Integer i) = parts.Integer i ∷ []
type_parts below forms.Bool = parts.Bool ∷ []
type_parts below forms.Unit = parts.Unit ∷ []
type_parts below (forms.Pointer t) = parts.Pointer ∷ parts.OfType t below ∷ []
type_parts below (forms.Array t n) = parts.OfType t below ∷ parts.Count n ∷ []
type_parts below (forms.Function ps r) = parts.Open ∷ listed_types below ps ++ parts.Arrow ∷ parts.OfType r below ∷ []
type_parts below (forms.Struct number place layout) = parts.Struct number ∷ []
