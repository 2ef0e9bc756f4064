-- No name of a text has the prefix that is taken, and new names are names.
use Rattle.std.proofs.Common.{◌≡◌, ℕ, zero, suc, pred, ◌+◌, ◌<◌, ◌≤◌, ◌^◌, Bool, true, false, cond, eqb, not, List, [], ◌∷◌, ◌++◌, length, take, drop, map}
use Rattle.std.proofs.Common.{refl, sym, ap, ◌∙◌, inl, inr, ◌⊎◌, arith, length-append}
use Rattle.std.specs.Prelude.{nat_lt, ◌||◌, bytes_eq}
use Rattle.std.specs.List.{prefix_len, list_all, list_any}
use Rattle.std.specs.Fmt.{decimal}
use Rattle.std.proofs.lemmas.Bool.{false≢true, and_from, and_parts, eq-eqb, ne_eqb}
use Rattle.std.proofs.lemmas.List.{length-map, length-replicate}
use Rattle.std.proofs.lemmas.Fmt.{length-decimal-le}
use Rattle.std.proofs.lemmas.Map.Steps.{le-length_from_below}
use Rattle.tl_lex.specs.Bytes.{begins_name, is_name_byte}
use Rattle.tl_lex.specs.Words.{is_one_of, reserved_words, is_reserved}
use Rattle.tl_lex.proofs.FrontLemmas.{any_is, bytes_same}
use Rattle.tl_lex.proofs.SwapLemmas.{BeginsName}
use Rattle.tl_lex.proofs.NewNameLemmas.{IsName}
use Rattle.tl_tree.specs.Item.{Item}
use Rattle.tl_tree.specs.Item as kept
use Rattle.tl_tree.specs.Code.{Items}
use Rattle.tl_renaming.specs.Renamed.{is_digit, are_digits, prefix, has_prefix, item_has_prefix, is_taken, free_from, letters, new_name}
use Rattle.renaming_alike.proofs.Numbering.{decimal_digits, decimal_some}

-- ---- a name has one prefix at most

abbrev is_v : ℕ → Bool
is_v c = eqb c 118

digit_no_v : (c : ℕ) → is_digit c ≡ true → eqb c 118 ≡ false
digit_no_v c h = ne_eqb c 118 (λ e. absurd (false≢true (ap is_digit (sym e) ∙ h)))

prefix_is : (count : ℕ) (name : List ℕ) → has_prefix count name ≡ true → prefix_len is_v name ≡ count
prefix_is zero [] h = refl
prefix_is zero (c ∷ name) h =
    let ds = (and_parts (nat_lt 0 (length (c ∷ name))) (list_all is_digit (c ∷ name)) h).1 in
    ap (λ (b : Bool). cond b (1 + prefix_len is_v name) 0) (digit_no_v c (and_parts (is_digit c) (list_all is_digit name) ds).0)
prefix_is (suc count) [] h = absurd (false≢true h)
prefix_is (suc count) (c ∷ name) h =
    let both = and_parts (bytes_eq (take (suc count) (c ∷ name)) (prefix (suc count))) (are_digits (drop (suc count) (c ∷ name))) h in
    let first = and_parts (eqb c 118) (bytes_eq (take count name) (prefix count)) both.0 in
    let ih = prefix_is count name (and_from (bytes_eq (take count name) (prefix count)) (are_digits (drop count name)) first.1 both.1) in
    let one : prefix_len is_v (c ∷ name) ≡ 1 + prefix_len is_v name = ap (λ (b : Bool). cond b (1 + prefix_len is_v name) 0) first.0 in
    omega (arith, one, ih)

-- ---- some number of letters is free

abbrev letters_of : Item → ℕ
letters_of (kept.Name place offset text) = pred (prefix_len is_v text)
letters_of _ = 0

taken_counts : (items : Items) (q : ℕ) → is_taken items (suc q) ≡ true → list_any (eqb q) (map letters_of items) ≡ true
taken_counts [] q h = absurd (false≢true h)
taken_counts (i ∷ items) q h = go (item_has_prefix (suc q) i) refl h (taken_counts items q)
  where
    here : (i : Item) → item_has_prefix (suc q) i ≡ true → eqb q (letters_of i) ≡ true
    here (kept.Name place offset text) k = eq-eqb q (pred (prefix_len is_v text)) (sym (ap pred (prefix_is (suc q) text k)))
    here (kept.Numeral place text) k = absurd (false≢true k)
    here (kept.Literal place text) k = absurd (false≢true k)
    here (kept.Expression place x) k = absurd (false≢true k)
    here (kept.Statement place x) k = absurd (false≢true k)
    here (kept.TerraExpression place x) k = absurd (false≢true k)
    here (kept.TerraStatement place x) k = absurd (false≢true k)
    here (kept.Piece x) k = absurd (false≢true k)

    or_true : (a b : Bool) → b ≡ true → (a || b) ≡ true
    or_true true b e = refl
    or_true false b e = e

    go : (b : Bool) → item_has_prefix (suc q) i ≡ b → (b || is_taken items (suc q)) ≡ true
        → (is_taken items (suc q) ≡ true → list_any (eqb q) (map letters_of items) ≡ true)
        → (eqb q (letters_of i) || list_any (eqb q) (map letters_of items)) ≡ true
    go true e k ih = ap (λ (b : Bool). b || list_any (eqb q) (map letters_of items)) (here i e)
    go false e k ih = or_true (eqb q (letters_of i)) (list_any (eqb q) (map letters_of items)) (ih k)

-- where the last that is tried is taken, so are all
all_taken : (items : Items) (k count : ℕ) → is_taken items (free_from items k count) ≡ true → (q : ℕ) → q ≤ k → is_taken items (count + q) ≡ true
all_taken items zero count h q le =
    let e : count + q ≡ count = omega (arith, le) in ap (is_taken items) e ∙ h
all_taken items (suc k) count h q le = go (is_taken items count) refl h q le (all_taken items k (count + 1))
  where
    go : (b : Bool) → is_taken items count ≡ b → is_taken items (cond b (free_from items k (count + 1)) count) ≡ true → (q : ℕ) → q ≤ suc k
        → (is_taken items (free_from items k (count + 1)) ≡ true → (r : ℕ) → r ≤ k → is_taken items (count + 1 + r) ≡ true)
        → is_taken items (count + q) ≡ true
    go true e h zero le ih = let z : count + 0 ≡ count = omega arith in ap (is_taken items) z ∙ e
    go true e h (suc q) le ih = let s : count + suc q ≡ count + 1 + q = omega arith in ap (is_taken items) s ∙ ih h q (omega (arith, le))
    go false e h q le ih = absurd (false≢true (sym e ∙ h))

pub letters_free : (items : Items) → is_taken items (letters items) ≡ false
letters_free items = go (is_taken items (letters items)) refl
  where
    many : is_taken items (letters items) ≡ true → length items + 1 ≤ length (map letters_of items)
    many h =
        le-length_from_below (map letters_of items) (length items + 1)
        (λ q lt. let s : 1 + q ≡ suc q = omega arith in
        taken_counts items q (sym (ap (is_taken items) s) ∙ all_taken items (length items) 1 h q (omega (arith, lt))))

    go : (b : Bool) → is_taken items (letters items) ≡ b → is_taken items (letters items) ≡ false
    go true h = absurd (omega (arith, many h, length-map items letters_of))
    go false h = h

-- the number before is taken, if it isn't the first
before_taken : (items : Items) (k count : ℕ) → (free_from items k count ≡ count) ⊎ (is_taken items (pred (free_from items k count)) ≡ true)
before_taken items zero count = inl refl
before_taken items (suc k) count = go (is_taken items count) refl (before_taken items k (count + 1))
  where
    go : (b : Bool) → is_taken items count ≡ b → (free_from items k (count + 1) ≡ count + 1) ⊎ (is_taken items (pred (free_from items k (count + 1))) ≡ true)
        → (cond b (free_from items k (count + 1)) count ≡ count) ⊎ (is_taken items (pred (cond b (free_from items k (count + 1)) count)) ≡ true)
    go true e (inl f) =
        let p : pred (free_from items k (count + 1)) ≡ count = omega (arith, f) in inr (ap (is_taken items) p ∙ e)
    go true e (inr f) = inr f
    go false e h = inl refl

at_least : (items : Items) (k count : ℕ) → count ≤ free_from items k count
at_least items zero count = omega arith
at_least items (suc k) count = go (is_taken items count) (at_least items k (count + 1))
  where
    go : (b : Bool) → count + 1 ≤ free_from items k (count + 1) → count ≤ cond b (free_from items k (count + 1)) count
    go true h = omega (arith, h)
    go false h = omega arith

pub some_letter : (items : Items) → 0 < letters items
some_letter items = at_least items (length items) 1

-- a name with the prefix is longer
prefix_short : (count : ℕ) (name : List ℕ) → has_prefix count name ≡ true → count < length name
prefix_short zero [] h = absurd (false≢true h)
prefix_short zero (c ∷ name) h = omega arith
prefix_short (suc count) [] h = absurd (false≢true h)
prefix_short (suc count) (c ∷ name) h =
    let both = and_parts (bytes_eq (take (suc count) (c ∷ name)) (prefix (suc count))) (are_digits (drop (suc count) (c ∷ name))) h in
    let first = and_parts (eqb c 118) (bytes_eq (take count name) (prefix count)) both.0 in
    let ih = prefix_short count name (and_from (bytes_eq (take count name) (prefix count)) (are_digits (drop count name)) first.1 both.1) in
    omega (arith, ih)

-- so many bytes has each name at most
abbrev pub AllShort : ℕ → List Item → Type 0
AllShort n [] = Unit {0}
AllShort n (kept.Name place offset text ∷ items) = (length text ≤ n) × AllShort n items
AllShort n (_ ∷ items) = AllShort n items

taken_short : (n : ℕ) (items : Items) (count : ℕ) → AllShort n items → is_taken items count ≡ true → count < n
taken_short n [] count a h = absurd (false≢true h)
taken_short n (kept.Name place offset text ∷ items) count a h = go (has_prefix count text) refl h (taken_short n items count a.1)
  where
    go : (b : Bool) → has_prefix count text ≡ b → (b || is_taken items count) ≡ true → (is_taken items count ≡ true → count < n) → count < n
    go true e k ih = omega (arith, prefix_short count text e, a.0)
    go false e k ih = ih k
taken_short n (kept.Numeral place text ∷ items) count a h = taken_short n items count a h
taken_short n (kept.Literal place text ∷ items) count a h = taken_short n items count a h
taken_short n (kept.Expression place x ∷ items) count a h = taken_short n items count a h
taken_short n (kept.Statement place x ∷ items) count a h = taken_short n items count a h
taken_short n (kept.TerraExpression place x ∷ items) count a h = taken_short n items count a h
taken_short n (kept.TerraStatement place x ∷ items) count a h = taken_short n items count a h
taken_short n (kept.Piece x ∷ items) count a h = taken_short n items count a h

pub letters_short : (n : ℕ) (items : Items) → 0 < n → AllShort n items → letters items ≤ n
letters_short n items some a = go (before_taken items (length items) 1)
  where
    go : (letters items ≡ 1) ⊎ (is_taken items (pred (letters items)) ≡ true) → letters items ≤ n
    go (inl e) = omega (arith, e, some)
    go (inr t) = omega (arith, taken_short n items (pred (letters items)) a t)

-- ---- new names are names

digit_is_byte : (c : ℕ) → is_digit c ≡ true → is_name_byte c ≡ true
digit_is_byte c h = or_last (begins_name c) h
  where
    or_last : (a : Bool) {b : Bool} → b ≡ true → (a || b) ≡ true
    or_last true e = refl
    or_last false e = e

digits_are_bytes : (ds : List ℕ) → list_all is_digit ds ≡ true → list_all is_name_byte ds ≡ true
digits_are_bytes [] h = refl
digits_are_bytes (d ∷ ds) h =
    let both = and_parts (is_digit d) (list_all is_digit ds) h in
    and_from (is_name_byte d) (list_all is_name_byte ds) (digit_is_byte d both.0) (digits_are_bytes ds both.1)

prefixed_bytes : (l : ℕ) (ds : List ℕ) → list_all is_name_byte ds ≡ true → list_all is_name_byte (prefix l ++ ds) ≡ true
prefixed_bytes zero ds h = h
prefixed_bytes (suc l) ds h = prefixed_bytes l ds h

-- a word whose last byte is a digit is not reserved
abbrev ends_in_digit : List ℕ → Bool
ends_in_digit [] = false
ends_in_digit (c ∷ []) = is_digit c
ends_in_digit (c ∷ d ∷ rest) = ends_in_digit (d ∷ rest)

ends_cons : (c : ℕ) (xs : List ℕ) → 0 < length xs → ends_in_digit (c ∷ xs) ≡ ends_in_digit xs
ends_cons c [] h = absurd (omega (arith, h))
ends_cons c (x ∷ xs) h = refl

ends_digits : (ds : List ℕ) → 0 < length ds → list_all is_digit ds ≡ true → ends_in_digit ds ≡ true
ends_digits [] some h = absurd (omega (arith, some))
ends_digits (d ∷ []) some h = (and_parts (is_digit d) true h).0
ends_digits (d ∷ e ∷ ds) some h = ends_digits (e ∷ ds) (omega arith) (and_parts (is_digit d) (list_all is_digit (e ∷ ds)) h).1

ends_prefixed : (l : ℕ) (ds : List ℕ) → 0 < length ds → ends_in_digit ds ≡ true → ends_in_digit (prefix l ++ ds) ≡ true
ends_prefixed zero ds some h = h
ends_prefixed (suc l) ds some h =
    ends_cons 118 (prefix l ++ ds) (omega (arith, length-append (prefix l) ds, some)) ∙ ends_prefixed l ds some h

not_reserved : (w : List ℕ) → ends_in_digit w ≡ true → is_reserved w ≡ false
unfolding is_reserved
not_reserved w h = go (is_one_of w reserved_words) refl
  where
    go : (b : Bool) → is_one_of w reserved_words ≡ b → b ≡ false
    go false e = refl
    go true e =
        absurd (false≢true (sym (ap not h) ∙ any_is bytes_eq bytes_same (λ v. not (ends_in_digit v)) w reserved_words e refl))

begins_prefixed : (l : ℕ) (ds : List ℕ) → 0 < l → BeginsName (prefix l ++ ds)
begins_prefixed zero ds some = absurd (omega (arith, some))
begins_prefixed (suc l) ds some = refl

pub new_is_name : (l k : ℕ) → 0 < l → l ≤ 248 → k < 10 ^ 7 → k < 2 ^ 64 → IsName (new_name l k)
new_is_name l k some le few small =
    let ds = decimal_digits k small in
    let n = decimal_some k small in
    let short = length-decimal-le 7 k (omega arith) few small in (
      begins_prefixed l (decimal k) some,
      prefixed_bytes l (decimal k) (digits_are_bytes (decimal k) ds),
      not_reserved (new_name l k) (ends_prefixed l (decimal k) n (ends_digits (decimal k) n ds)),
      omega (arith, length-append (prefix l) (decimal k), length-replicate {A = ℕ} l 118, le, short),
    )
