-- Reserved words by their length.
use Rattle.std.proofs.Common.{◌≡◌, ◌≢◌, ℕ, ◌<◌, Bool, true, false, cond, eqb, List, [], ◌∷◌, length, get_or, refl, sym, ap, ◌∙◌, arith, filter}
use Rattle.std.specs.Prelude.{bytes_eq, ◌||◌, ◌&&◌, nat_eq}
use Rattle.std.proofs.lemmas.Bool.{eqb-false, ne_eqb}
use Rattle.tl_lex.specs.Words.{is_one_of, is_reserved, reserved_words}

and_none : (a : Bool) → (a && false) ≡ false
and_none true = refl
and_none false = refl

bytes_eq-length : (a b : List ℕ) → (length b ≡ length a → ⊥) → bytes_eq a b ≡ false
bytes_eq-length [] [] h = absurd (h refl)
bytes_eq-length [] (y ∷ ys) h = refl
bytes_eq-length (x ∷ xs) [] h = refl
bytes_eq-length (x ∷ xs) (y ∷ ys) h =
    ap (λ t. nat_eq x y && t) (bytes_eq-length xs ys (λ e. h (omega arith))) ∙ and_none (nat_eq x y)

abbrev of_length : ℕ → List (List ℕ) → List (List ℕ)
of_length n words = filter (λ w. eqb (length w) n) words

-- a word is one of the words that are as long as it
one_of_length : (w : List ℕ) (words : List (List ℕ)) → is_one_of w words ≡ is_one_of w (of_length (length w) words)
one_of_length w [] = refl
one_of_length w (v ∷ words) = go (eqb (length v) (length w)) refl (one_of_length w words)
  where
    go : (b : Bool) → eqb (length v) (length w) ≡ b → is_one_of w words ≡ is_one_of w (of_length (length w) words) → (bytes_eq w v || is_one_of w words) ≡ is_one_of w (cond b (v ∷ of_length (length w) words) (of_length (length w) words))
    go true e ih = ap (λ t. bytes_eq w v || t) ih
    go false e ih = ap (λ t. t || is_one_of w words) (bytes_eq-length w v (eqb-false (length v) (length w) e)) ∙ ih

pub reserved_of_length : (w : List ℕ) (n : ℕ) → length w ≡ n → is_reserved w ≡ is_one_of w (of_length n reserved_words)
unfolding is_reserved
reserved_of_length w n e = one_of_length w reserved_words ∙ ap (λ m. is_one_of w (of_length m reserved_words)) e

none_of_length : (n : ℕ) → n ≢ 2 → n ≢ 3 → n ≢ 4 → n ≢ 5 → n ≢ 6 → n ≢ 8 → of_length n reserved_words ≡ []
none_of_length n h2 h3 h4 h5 h6 h8 =
    let e2 : eqb 2 n ≡ false = ne_eqb 2 n (λ e. h2 (sym e)) in
    let e3 : eqb 3 n ≡ false = ne_eqb 3 n (λ e. h3 (sym e)) in
    let e4 : eqb 4 n ≡ false = ne_eqb 4 n (λ e. h4 (sym e)) in
    let e5 : eqb 5 n ≡ false = ne_eqb 5 n (λ e. h5 (sym e)) in
    let e6 : eqb 6 n ≡ false = ne_eqb 6 n (λ e. h6 (sym e)) in
    let e8 : eqb 8 n ≡ false = ne_eqb 8 n (λ e. h8 (sym e)) in
    rw (e2, e3, e4, e5, e6, e8)

pub reserved_of_no_length : (w : List ℕ) → length w ≢ 2 → length w ≢ 3 → length w ≢ 4 → length w ≢ 5 → length w ≢ 6 → length w ≢ 8 → is_reserved w ≡ false
reserved_of_no_length w h2 h3 h4 h5 h6 h8 =
    reserved_of_length w (length w) refl ∙ ap (λ words. is_one_of w words) (none_of_length (length w) h2 h3 h4 h5 h6 h8)

-- texts whose first bytes differ
pub first_differs : (a b : List ℕ) → 0 < length a → 0 < length b → (get_or a 0 0 ≡ get_or b 0 0 → ⊥) → bytes_eq a b ≡ false
first_differs [] b p q h = absurd (omega arith)
first_differs (x ∷ xs) [] p q h = absurd (omega arith)
first_differs (x ∷ xs) (y ∷ ys) p q h = ap (λ (c : Bool). c && bytes_eq xs ys) (ne_eqb x y h)
