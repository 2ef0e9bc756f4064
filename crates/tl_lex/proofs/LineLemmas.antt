-- Line ends of two texts one behind the other.
use Rattle.std.proofs.Common.{◌≡◌, ℕ, suc, ◌+◌, ◌-◌, ◌<◌, ◌≤◌, Bool, true, false, cond, eqb, ◌&&◌, not, List, [], ◌∷◌, ◌++◌, length, get_or}
use Rattle.std.proofs.Common.{count_by, ◌⊎◌, inl, inr, refl, sym, ap, ◌∙◌, arith}
use Rattle.std.proofs.lemmas.List.Sums.{sum_by-cons, sum_by-append, count_by-le-length}
use Rattle.tl_lex.specs.Bytes.{is_line_end}
use Rattle.tl_lex.specs.LineEnds.{is_pair, unified, with_line_feeds, line_ends}
use Rattle.tl_lex.proofs.LineEndLemmas.{no_feed, is_feed, feed_count}

and_none : (a : Bool) → (a && false) ≡ false
and_none true = refl
and_none false = refl

-- bytes that are no line ends
pub no_line_ends : (bytes : List ℕ) → ((k : ℕ) → k < length bytes → is_line_end (get_or bytes k 0) ≡ false) → line_ends bytes ≡ 0
no_line_ends [] h = refl
no_line_ends (x ∷ []) h =
    let e : is_line_end x ≡ false = h 0 (omega arith) in
    ap (λ b. count_by is_feed (cond b 10 x ∷ [])) e ∙ ap (λ (b : Bool). 0 + cond b 1 0) (no_feed x e)
no_line_ends (x ∷ y ∷ r) h =
    let e : is_line_end x ≡ false = h 0 (omega arith) in
    let ih = no_line_ends (y ∷ r) (λ k lt. h (suc k) (omega arith)) in
    ap (λ b. count_by is_feed (cond (b && (is_line_end y && not (eqb x y))) (10 ∷ with_line_feeds r) (cond b 10 x ∷ with_line_feeds (y ∷ r)))) e
    ∙ sum_by-cons feed_count x (with_line_feeds (y ∷ r))
    ∙ ap (λ b. cond b 1 0 + line_ends (y ∷ r)) (no_feed x e)
    ∙ omega (arith, ih)

-- no more bytes when each line end is one LF
pub feeds_shorter : (bytes : List ℕ) → length (with_line_feeds bytes) ≤ length bytes
feeds_shorter [] = omega arith
feeds_shorter (x ∷ []) = omega arith
feeds_shorter (x ∷ y ∷ r) = go (is_pair x y) (feeds_shorter r) (feeds_shorter (y ∷ r))
  where
    go : (b : Bool) → length (with_line_feeds r) ≤ length r → length (with_line_feeds (y ∷ r)) ≤ length (y ∷ r) → length (cond b (10 ∷ with_line_feeds r) (unified x ∷ with_line_feeds (y ∷ r))) ≤ length (x ∷ y ∷ r)
    go true p q = omega arith
    go false p q = omega arith

pub line_ends_few : (bytes : List ℕ) → line_ends bytes ≤ length bytes
line_ends_few bytes = omega (arith, count_by-le-length is_feed (with_line_feeds bytes), feeds_shorter bytes)

abbrev pub last_of : List ℕ → ℕ
last_of [] = 0
last_of (x ∷ []) = x
last_of (x ∷ y ∷ r) = last_of (y ∷ r)

abbrev pub first_of : List ℕ → ℕ
first_of [] = 0
first_of (x ∷ r) = x

-- no line end goes over the seam of two texts
pub record Apart (xs ys : List ℕ) : Type 0 where
  pub apart : (is_line_end (last_of xs) ≡ false) ⊎ (is_line_end (first_of ys) ≡ false)

no_pair : (x y : ℕ) → (is_line_end x ≡ false) ⊎ (is_line_end y ≡ false) → is_pair x y ≡ false
no_pair x y (inl e) = ap (λ b. b && (is_line_end y && not (eqb x y))) e
no_pair x y (inr e) = ap (λ b. is_line_end x && (b && not (eqb x y))) e ∙ and_none (is_line_end x)

apart_tail : (x y : ℕ) (r ys : List ℕ) → Apart (x ∷ y ∷ r) ys → Apart r ys
apart_tail x y [] ys a = record { apart = inl refl }
apart_tail x y (z ∷ r) ys a = record { apart = a.apart }

pub feeds-append : (xs ys : List ℕ) → Apart xs ys → with_line_feeds (xs ++ ys) ≡ with_line_feeds xs ++ with_line_feeds ys
feeds-append [] ys a = refl
feeds-append (x ∷ []) [] a = refl
feeds-append (x ∷ []) (y ∷ ys) a = ap (λ b. cond b (10 ∷ with_line_feeds ys) (unified x ∷ with_line_feeds (y ∷ ys))) (no_pair x y a.apart)
feeds-append (x ∷ y ∷ r) ys a = go (is_pair x y) (feeds-append r ys (apart_tail x y r ys a)) (feeds-append (y ∷ r) ys (record { apart = a.apart }))
  where
    go : (b : Bool) → with_line_feeds (r ++ ys) ≡ with_line_feeds r ++ with_line_feeds ys → with_line_feeds (y ∷ (r ++ ys)) ≡ with_line_feeds (y ∷ r) ++ with_line_feeds ys → cond b (10 ∷ with_line_feeds (r ++ ys)) (unified x ∷ with_line_feeds (y ∷ (r ++ ys))) ≡ cond b (10 ∷ with_line_feeds r) (unified x ∷ with_line_feeds (y ∷ r)) ++ with_line_feeds ys
    go true p q = ap (λ l. 10 ∷ l) p
    go false p q = ap (λ l. unified x ∷ l) q

pub line_ends-append : (xs ys : List ℕ) → Apart xs ys → line_ends (xs ++ ys) ≡ line_ends xs + line_ends ys
line_ends-append xs ys a = ap (λ l. count_by is_feed l) (feeds-append xs ys a) ∙ sum_by-append feed_count (with_line_feeds xs) (with_line_feeds ys)

pub last_of-append : (xs : List ℕ) (y : ℕ) (ys : List ℕ) → last_of (xs ++ y ∷ ys) ≡ last_of (y ∷ ys)
last_of-append [] y ys = refl
last_of-append (x ∷ []) y ys = refl
last_of-append (x ∷ z ∷ r) y ys = last_of-append (z ∷ r) y ys

pub last_of-is : (xs : List ℕ) → 0 < length xs → last_of xs ≡ get_or xs (length xs - 1) 0
last_of-is [] p = absurd (omega arith)
last_of-is (x ∷ []) p = refl
last_of-is (x ∷ y ∷ r) p =
    let e : length (x ∷ y ∷ r) - 1 ≡ suc (length (y ∷ r) - 1) = omega arith in
    last_of-is (y ∷ r) (omega arith) ∙ sym (ap (λ k. get_or (x ∷ y ∷ r) k 0) e)

pub first_of-is : (xs : List ℕ) → first_of xs ≡ get_or xs 0 0
first_of-is [] = refl
first_of-is (x ∷ r) = refl
