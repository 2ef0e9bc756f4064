-- Steps of the loops that write lists of pieces.
use Rattle.std.proofs.Common.{◌≤◌, arith, ◌≡◌, refl, ℕ, ◌+◌, ◌<◌, List, [], ◌∷◌, ◌++◌, drop, length, get_or, append_assoc, add-one}
use Rattle.std.proofs.Common.{drop-cons}
use Rattle.std.proofs.lemmas.List.{drop_all}
use Rattle.tl_base.specs.declared.ids.TermId.{TermId}
use Rattle.terra_term.specs.declared.piece.Piece.{Piece}
use Rattle.terra_term.specs.declared.piece.PartKind.{PartKind}
use Rattle.tl_base.specs.declared.ids.TextId.{TextId}
use Rattle.terra_term.specs.declared.lists.VarName.{VarName}
use Rattle.terra_term.specs.declared.lists.Parameter.{Parameter}
use Rattle.terra_term.specs.Pieces.{space, part_of, spaced_parts, spaced_terms, name_pieces, spaced_names, parameter_pieces}
use Rattle.terra_term.specs.Pieces.{spaced_parameters, named_value, named_values, comma_types}
use Rattle.tl_base.specs.declared.ids.TypeId.{TypeId}
use Rattle.terra_term.specs.declared.piece.Word.TheVariants as words
use Rattle.terra_term.specs.declared.piece.Piece.TheVariants as pieces

pub parts-step : (kind : PartKind) (below : ℕ) (front : List Piece) (ids : List TermId) (i : ℕ) (d : TermId) → i < length ids → ((front ++ space ∷ []) ++ part_of kind below (get_or ids i d) ∷ []) ++ spaced_parts kind below (drop (i + 1) ids) ≡ front ++ spaced_parts kind below (drop i ids)
parts-step kind below front ids i d h = rw (add-one, drop-cons ids i d) (simp append_assoc)

pub names-step : (front : List Piece) (names : List VarName) (i : ℕ) (d : VarName) → i < length names → ((front ++ space ∷ []) ++ name_pieces (get_or names i d)) ++ spaced_names (drop (i + 1) names) ≡ front ++ spaced_names (drop i names)
names-step front names i d h = rw (add-one, drop-cons names i d) (simp append_assoc)

pub parameters-step : (front : List Piece) (ps : List Parameter) (i : ℕ) (d : Parameter) → i < length ps → ((front ++ space ∷ []) ++ parameter_pieces (get_or ps i d)) ++ spaced_parameters (drop (i + 1) ps) ≡ front ++ spaced_parameters (drop i ps)
parameters-step front ps i d h = rw (add-one, drop-cons ps i d) (simp append_assoc)

pub named-step : (below : ℕ) (front : List Piece) (fields : List TextId) (values : List TermId) (i : ℕ) (d : TextId) (v : TermId) → i < length fields → i < length values → (front ++ named_value below (get_or fields i d) (get_or values i v)) ++ named_values below (drop (i + 1) fields) (drop (i + 1) values) ≡ front ++ named_values below (drop i fields) (drop i values)
named-step below front fields values i d v h k = rw (add-one, drop-cons fields i d, drop-cons values i v) (simp append_assoc)

pub named-stop : (below : ℕ) (fields : List TextId) (values : List TermId) (i : ℕ) (d : TextId) → i < length fields → length values ≤ i → named_values below (drop i fields) (drop i values) ≡ []
named-stop below fields values i d h k = rw (drop-cons fields i d, drop_all i values k) refl

pub named-end : (below : ℕ) (fields : List TextId) (values : List TermId) → named_values below (drop (length fields) fields) (drop (length fields) values) ≡ spaced_terms below (drop (length fields) values)
named-end below fields values = rw (drop_all (length fields) fields (omega arith)) refl

pub types-step : (below : ℕ) (front : List Piece) (ts : List TypeId) (i : ℕ) (d : TypeId) → i < length ts → ((front ++ pieces.Word words.Comma ∷ []) ++ pieces.TypeBefore (get_or ts i d) below ∷ []) ++ comma_types below (drop (i + 1) ts) ≡ front ++ comma_types below (drop i ts)
types-step below front ts i d h = rw (add-one, drop-cons ts i d) (simp append_assoc)
