-- A node's tree is made of those of the nodes before it.
use Rattle.std.proofs.Common.{◌≡◌, refl, ℕ, zero, suc, ◌<◌, ◌≤◌, List, [], ◌∷◌, ◌++◌, ◌∙◌, ap, sym, arith, take, append_assoc, append-nil}
use Rattle.std.proofs.Common.{Some, None, slice_get}
use Rattle.std.specs.Prelude.{option_map}
use Rattle.terra_term.specs.declared.term.Term as nodes
use Rattle.terra_types.specs.Grown.{grown}
use Rattle.terra_types.specs.declared.types.TypeForm.{TypeForm}
use Rattle.terra_term.specs.TermText.{type_texts, type_made}
use Rattle.terra_term.specs.Planted.{planted, trees}

-- what a list that grows gets behind what was there
later : {A B : Type 0} → (List A → B → A) → List A → List B → List A
later make before [] = []
later make before (x ∷ xs) = make before x ∷ later make (before ++ make before x ∷ []) xs

grown-later : {A B : Type 0} (make : List A → B → A) (before : List A) (xs : List B) → grown make before xs ≡ before ++ later make before xs
unfolding later
grown-later make before [] = sym (append-nil before)
grown-later make before (x ∷ xs) = grown-later make (before ++ make before x ∷ []) xs ∙ append_assoc before (make before x ∷ []) (later make (before ++ make before x ∷ []) xs)

-- the element at a place is made of those before it
get-later : {A B : Type 0} (make : List A → B → A) (before : List A) (xs : List B) (i : ℕ) → slice_get (later make before xs) i ≡ option_map (make (before ++ take i (later make before xs))) (slice_get xs i)
unfolding later
get-later make before [] i = refl
get-later make before (x ∷ xs) zero = ap (λ (l : List _). Some (make l x)) (sym (append-nil before))
get-later make before (x ∷ xs) (suc i) =
    get-later make (before ++ make before x ∷ []) xs i ∙
    ap (λ (l : List _). option_map (make l) (slice_get xs i)) (append_assoc before (make before x ∷ []) (take i (later make (before ++ make before x ∷ []) xs)))

pub grown-get : {A B : Type 0} (make : List A → B → A) (xs : List B) (i : ℕ) → slice_get (grown make [] xs) i ≡ option_map (make (take i (grown make [] xs))) (slice_get xs i)
grown-get make xs i =
    let same : grown make [] xs ≡ later make [] xs = grown-later make [] xs in
    rw same (get-later make [] xs i)

pub tree-at : (ns : List nodes.Term) (i : ℕ) → slice_get (trees ns) i ≡ option_map (planted (take i (trees ns))) (slice_get ns i)
tree-at ns i = grown-get planted ns i

pub type-text-at : (types : List TypeForm) (i : ℕ) → slice_get (type_texts types) i ≡ option_map (type_made (take i (type_texts types))) (slice_get types i)
type-text-at types i = grown-get type_made types i

pub get-take : {A : Type 0} (xs : List A) (n i : ℕ) → i < n → slice_get (take n xs) i ≡ slice_get xs i
get-take xs zero i h = absurd (omega (arith, h))
get-take [] (suc n) i h = refl
get-take (x ∷ xs) (suc n) zero h = refl
get-take (x ∷ xs) (suc n) (suc i) h = get-take xs n i (omega (arith, h))

pub get-past : {A : Type 0} (xs : List A) (n i : ℕ) → n ≤ i → slice_get (take n xs) i ≡ None
get-past xs zero i h = refl
get-past [] (suc n) i h = refl
get-past (x ∷ xs) (suc n) zero h = absurd (omega (arith, h))
get-past (x ∷ xs) (suc n) (suc i) h = get-past xs n i (omega (arith, h))
