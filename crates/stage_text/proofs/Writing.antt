-- Parts of a type's text are that text.
use Rattle.std.proofs.Common.{◌≡◌, ℕ, ◌<◌, ◌≤◌, ◌+◌, List, [], ◌∷◌, ◌++◌, length, drop, take, get_or, Option, Some, None, refl, sym, ◌∙◌}
use Rattle.std.proofs.Common.{ap, arith, append_assoc, append-nil, add-one}
use Rattle.std.proofs.Math.Seq.{drop-cons}
use Rattle.std.proofs.lemmas.List.{take_all}
use Rattle.terra_types.proofs.Growing.{length-grown}
use Rattle.std.specs.Prelude.{option_map, unwrap_or, slice_get, codes, decimal}
use Rattle.tl_base.specs.declared.ids.TypeId.{TypeId}
use Rattle.terra_types.specs.declared.types.TypeForm.{TypeForm}
use Rattle.terra_types.specs.declared.types.TypeForm.TheVariants as forms
use Rattle.terra_term.specs.TermText.{type_text, type_texts, type_made, integer_text, made, all_made, behind_commas, between_commas}
use Rattle.terra_term.proofs.Trees.{type-text-at, get-take, get-past}
use Rattle.stage_text.specs.Types.{part_text, text_in, type_parts, listed_types, comma_types}
use Rattle.stage_text.specs.declared.types.Part.{Part}
use Rattle.stage_text.specs.declared.types.Part.TheVariants as parts

pub text_append : (types : List TypeForm) (ps qs : List Part) → text_in types (ps ++ qs) ≡ text_in types ps ++ text_in types qs
text_append types [] qs = refl
text_append types (p ∷ ps) qs = rw (text_append types ps qs) (sym (append_assoc (part_text types p) (text_in types ps) (text_in types qs)))

commas_text : (types : List TypeForm) (below : ℕ) (ts : List TypeId)
    → text_in types (comma_types below ts) ≡ behind_commas (all_made (take below (type_texts types)) ts)
commas_text types below [] = refl
commas_text types below (t ∷ ts) = rw (commas_text types below ts) refl

listed_text : (types : List TypeForm) (below : ℕ) (ts : List TypeId)
    → text_in types (listed_types below ts) ≡ between_commas (all_made (take below (type_texts types)) ts)
listed_text types below [] = refl
listed_text types below (t ∷ ts) = rw (commas_text types below ts) refl

parts_text : (types : List TypeForm) (below : ℕ) (form : TypeForm)
    → text_in types (type_parts below form) ≡ type_made (take below (type_texts types)) form
parts_text types below (forms.Integer i) = append-nil (integer_text i)
parts_text types below forms.Bool = refl
parts_text types below forms.Unit = refl
parts_text types below (forms.Pointer t) = ap (λ (bs : List ℕ). codes "&" ++ bs) (append-nil (made (take below (type_texts types)) t))
parts_text types below (forms.Array t n) = simp (append_assoc, append-nil)
parts_text types below (forms.Function ps r) =
    rw (text_append types (listed_types below ps) (parts.Arrow ∷ parts.OfType r below ∷ []), listed_text types below ps)
    (simp (append_assoc, append-nil))
parts_text types below (forms.Struct number place layout) = append-nil (codes "struct " ++ decimal number)

-- a type that is there
pub found_text : (types : List TypeForm) (t : TypeId) (form : TypeForm) → Some form ≡ slice_get types t.0
    → text_in types (type_parts t.0 form) ≡ type_text types t
found_text types t form there =
    parts_text types t.0 form
    ∙ ap (λ (b : Option (List ℕ)). unwrap_or b [])
    (sym (type-text-at types t.0 ∙ ap (λ (f : Option TypeForm). option_map (type_made (take t.0 (type_texts types))) f) (sym there)))

-- one that isn't
pub absent_text : (types : List TypeForm) (t : TypeId) → None ≡ slice_get types t.0 → type_text types t ≡ []
absent_text types t there =
    ap (λ (b : Option (List ℕ)). unwrap_or b [])
    (type-text-at types t.0 ∙ ap (λ (f : Option TypeForm). option_map (type_made (take t.0 (type_texts types))) f) (sym there))

-- the parts of a type in its place
pub put_text : (types : List TypeForm) (new ps work : List Part) (text : List ℕ) → new ≡ ps ++ work → text_in types ps ≡ text
    → text_in types new ≡ text ++ text_in types work
put_text types new ps work text moved same = rw (moved, text_append types ps work, same) refl

-- a type among those before a number
pub before_text : (types : List TypeForm) (t : TypeId) (below : ℕ) → t.0 < below → type_text types t ≡ part_text types (parts.OfType t below)
before_text types t below within =
    ap (λ (b : Option (List ℕ)). unwrap_or b []) (sym (get-take (type_texts types) below t.0 within))

pub past_text : (types : List TypeForm) (t : TypeId) (below : ℕ) → below ≤ t.0 → part_text types (parts.OfType t below) ≡ []
past_text types t below past = ap (λ (b : Option (List ℕ)). unwrap_or b []) (get-past (type_texts types) below t.0 past)

pub types_step : (below : ℕ) (front : List Part) (ts : List TypeId) (i : ℕ) (d : TypeId) → i < length ts
    → ((front ++ parts.Comma ∷ []) ++ parts.OfType (get_or ts i d) below ∷ []) ++ comma_types below (drop (i + 1) ts)
    ≡ front ++ comma_types below (drop i ts)
types_step below front ts i d h = rw (add-one, drop-cons ts i d) (simp append_assoc)

-- no parts are written of a type that isn't there
pub none_text : (types : List TypeForm) (t : TypeId) (work : List Part) → None ≡ slice_get types t.0
    → text_in types work ≡ type_text types t ++ text_in types work
none_text types t work there = ap (λ (bs : List ℕ). bs ++ text_in types work) (sym (absent_text types t there))

-- a type in place of which its parts stand
pub put_step : (types : List TypeForm) (out text part : List ℕ) (new work : List Part)
    → text_in types new ≡ text ++ text_in types work → text ≡ part
    → out ++ text_in types new ≡ (out ++ part) ++ text_in types work
put_step types out text part new work put same =
    rw (put, same) (sym (append_assoc out part (text_in types work)))

-- and one that isn't among those before a number
pub past_step : (types : List TypeForm) (out : List ℕ) (part : Part) (work : List Part) → part_text types part ≡ []
    → out ++ text_in types work ≡ (out ++ part_text types part) ++ text_in types work
past_step types out part work none = rw (none, append-nil out) refl

-- a type that is made of types that are there
pub made_text : (types : List TypeForm) (form : TypeForm) → text_in types (type_parts (length types) form) ≡ type_made (type_texts types) form
made_text types form =
    parts_text types (length types) form
    ∙ ap (λ (bs : List (List ℕ)). type_made bs form)
    (take_all (length types) (type_texts types) (omega (arith, length-grown type_made [] types)))

pub written_text : (types : List TypeForm) (out : List ℕ) (ps : List Part) (below : ℕ) (form : TypeForm) → below ≡ length types
    → ps ≡ type_parts below form → out ++ text_in types ps ≡ out ++ type_made (type_texts types) form
written_text types out ps below form all same =
    ap (λ (bs : List ℕ). out ++ bs)
    (ap (λ (qs : List Part). text_in types qs) (same ∙ ap (λ (k : ℕ). type_parts k form) all) ∙ made_text types form)
