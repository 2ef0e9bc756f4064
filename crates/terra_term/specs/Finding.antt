-- What a store keeps to find texts and names by hashing.
use Rattle.std.specs.Prelude.{◌≡◌, ℕ, List, [], ◌∷◌, map, Vec, if◌then◌else◌}
use Rattle.terra_term.specs.declared.store.Static.{Static}
use Rattle.terra_term.specs.declared.store.TextBytes.{TextBytes}

-- the texts among statics, in their order, each with its address
abbrev pub texts_in : List Static → List (List ℕ × ℕ)
texts_in [] = []
texts_in (s ∷ ss) = if s.is_text then (s.bytes, s.address) ∷ texts_in ss else texts_in ss

-- the entries of the map that finds them
abbrev pub found_texts : {Z : Type 0} → List (Vec ℕ Z × ℕ) → List (List ℕ × ℕ)
found_texts {Z} entries = map (λ (e : Vec ℕ Z × ℕ). (e.0.items, e.1)) entries

-- the ids of names
abbrev pub ids_of : List TextBytes → List ℕ
ids_of names = map (λ (n : TextBytes). n.text.0) names

-- the map has just the texts, and the set just the names, in their orders
pub record AreFound (statics : List Static) (texts : List (List ℕ × ℕ)) (names : List TextBytes) (ids : List ℕ) : Type 0 where
  pub same_texts : texts ≡ texts_in statics
  pub same_ids : ids ≡ ids_of names
