-- Lists that are made of others, one item after another.
use Rattle.std.proofs.Common.{◌≡◌, ℕ, ◌+◌, ◌<◌, ◌≤◌, List, [], ◌∷◌, ◌++◌, length, drop, get_or, sym, ap, ◌∙◌}
use Rattle.std.proofs.lemmas.List.{append-nil, append_assoc, at_drop_more, at_drop_all}

-- an item more, where the others are a list
pub item_more : {X Y : Type 0} (make : List X → List Y) (one : X → Y) (each : (x : X) (xs : List X) → make (x ∷ xs) ≡ one x ∷ make xs)
    (made all : List Y) (xs rest : List X) (x : X)
    → xs ≡ x ∷ rest → made ++ make xs ≡ all → (made ++ one x ∷ []) ++ make rest ≡ all
item_more {X} {Y} make one each made all xs rest x is so_far =
    append_assoc made (one x ∷ []) (make rest)
    ∙ ap (λ (ys : List Y). made ++ ys) (sym (ap make is ∙ each x rest)) ∙ so_far

-- no item is left
pub items_end : {X Y : Type 0} (make : List X → List Y) (none : make [] ≡ []) (made all : List Y) (xs : List X)
    → xs ≡ [] → made ++ make xs ≡ all → made ≡ all
items_end {X} {Y} make none made all xs is so_far =
    sym (append-nil made) ∙ ap (λ (ys : List Y). made ++ ys) (sym (ap make is ∙ none)) ∙ so_far

-- the same over the places of a list
pub place_more : {X Y : Type 0} (make : List X → List Y) (one : X → Y) (each : (x : X) (xs : List X) → make (x ∷ xs) ≡ one x ∷ make xs)
    (made all : List Y) (xs : List X) (i : ℕ) (d : X)
    → i < length xs → made ++ make (drop i xs) ≡ all → (made ++ one (get_or xs i d) ∷ []) ++ make (drop (i + 1) xs) ≡ all
place_more {X} {Y} make one each made all xs i d within so_far =
    item_more make one each made all (drop i xs) (drop (i + 1) xs) (get_or xs i d)
    (at_drop_more (λ ys. ys) xs i d within) so_far

pub places_end : {X Y : Type 0} (make : List X → List Y) (none : make [] ≡ []) (made all : List Y) (xs : List X) (i : ℕ)
    → length xs ≤ i → made ++ make (drop i xs) ≡ all → made ≡ all
places_end {X} {Y} make none made all xs i past so_far =
    items_end make none made all (drop i xs) (at_drop_all (λ ys. ys) xs i past) so_far
