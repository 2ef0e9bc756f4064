-- The token at the front of a text is a token by itself.
use Rattle.std.proofs.Common.{◌≡◌, ℕ, suc, ◌+◌, ◌-◌, ◌*◌, Bool, true, false, cond, eqb, not, ◌&&◌, ◌||◌, List, [], ◌∷◌, length, take, drop}
use Rattle.std.proofs.Common.{Option, Some, None, refl, sym, ap, ◌∙◌, subst, arith, codes}
use Rattle.std.specs.Prelude.{bytes_eq, nat_eq, nat_lt, nat_le, option_map}
use Rattle.std.specs.List.{prefix_len, list_all}
use Rattle.std.proofs.lemmas.Bool.{true≢false, false≢true, eqb-true, eq-eqb, and_from, le-leb, ltb-false, not-false}
use Rattle.std.proofs.lemmas.List.{length-take, length-take-le, length-drop, drop-take}
use Rattle.tl_lex.specs.Bytes.{is_white, is_digit, begins_name, is_name_byte, is_numeral_byte, is_quote}
use Rattle.tl_lex.specs.Words.{longest_name, is_one_of, is_reserved, word_front}
use Rattle.tl_lex.specs.Numerals.{is_numeral, numeral_front}
use Rattle.tl_lex.specs.Signs.{is_single_sign, is_double_sign, is_triple_sign, sign_len, is_point_and_digit, sign_front}
use Rattle.tl_lex.specs.Brackets.{begins_with, bracket_level, closing_place, inside_at}
use Rattle.tl_lex.specs.Quoted.{characters, source_len, has_bad_escape}
use Rattle.tl_lex.specs.Values.{long_value}
use Rattle.tl_lex.specs.Fronts.{longest_value, quoted_front, bracketed_len, long_by, long_front, comment_front, begins_comment}
use Rattle.tl_lex.specs.Fronts.{bracket_or_sign_front, front_of}
use Rattle.tl_lex.specs.Tokens.{is_word, signs, is_quoted, ends_at, is_long_at, is_token}
use Rattle.tl_lex.specs.declared.TokenKind.{TokenKind}
use Rattle.tl_lex.specs.declared.TokenKind.TheVariants as kinds
use Rattle.tl_lex.specs.declared.front.Front.{Front}
use Rattle.tl_lex.specs.declared.front.Front.TheVariants as fronts
use Rattle.tl_lex.proofs.BracketLemmas.{closing_bounds}
use Rattle.tl_lex.proofs.FrontLemmas.{any_is, bytes_same}
use Rattle.tl_lex.proofs.LocalLemmas.{run_all, bracket_of_front, closing_of_front, characters_of_front}
use Rattle.tl_lex.proofs.MunchLemmas.{comment_no_lexeme}

-- what a front says of the bytes that it takes
abbrev pub Spelt : List ℕ → Front → Type 0
Spelt bytes (fronts.Lexeme kind len) = is_token kind (take len bytes) ≡ true
Spelt bytes (fronts.Blank len) = Unit {0}
Spelt bytes (fronts.Refusal w) = Unit {0}
Spelt bytes fronts.End = Unit {0}

pick : (b : Bool) (bytes : List ℕ) (x y : Front) → (b ≡ true → Spelt bytes x) → (b ≡ false → Spelt bytes y) → Spelt bytes (cond b x y)
pick true bytes x y p q = p refl
pick false bytes x y p q = q refl

same_true : (a : Bool) → (a && true) ≡ a
same_true true = refl
same_true false = refl

bytes_eq_same : (a b : List ℕ) → a ≡ b → bytes_eq a b ≡ true
bytes_eq_same [] [] e = refl
bytes_eq_same [] (y ∷ ys) e = absurd cc
bytes_eq_same (x ∷ xs) [] e = absurd cc
bytes_eq_same (x ∷ xs) (y ∷ ys) e =
    let h : x ≡ y = cc in
    let t : xs ≡ ys = cc in
    and_from (nat_eq x y) (bytes_eq xs ys) (eq-eqb x y h) (bytes_eq_same xs ys t)

-- names and reserved words
word_is : (c : ℕ) (rest : List ℕ) → begins_name c ≡ true → is_word (take (prefix_len is_name_byte (c ∷ rest)) (c ∷ rest)) ≡ true
word_is c rest e = go (is_digit c) (prefix_len is_name_byte (c ∷ rest)) (ap (λ (b : Bool). cond (b || is_digit c) (1 + prefix_len is_name_byte rest) 0) e)
  where
    go : (d : Bool) (n : ℕ) → n ≡ 1 + prefix_len is_name_byte rest → is_word (take n (c ∷ rest)) ≡ true
    go d n f =
        let s : n ≡ suc (prefix_len is_name_byte rest) = omega arith in
        ap (λ k. is_word (take k (c ∷ rest))) s
        ∙ and_from (begins_name c) (list_all is_name_byte (take (prefix_len is_name_byte rest) rest)) e (run_all is_name_byte rest)

word_spelt : (c : ℕ) (rest : List ℕ) → begins_name c ≡ true → Spelt (c ∷ rest) (word_front (c ∷ rest))
unfolding word_front is_token
word_spelt c rest e =
    pick (nat_lt longest_name (prefix_len is_name_byte (c ∷ rest))) (c ∷ rest) _ _ (λ _. tt)
    (λ small. go (is_reserved (take (prefix_len is_name_byte (c ∷ rest)) (c ∷ rest))) refl small)
  where
    short : nat_lt longest_name (prefix_len is_name_byte (c ∷ rest)) ≡ false → nat_le (length (take (prefix_len is_name_byte (c ∷ rest)) (c ∷ rest))) longest_name ≡ true
    short small =
        let l = ltb-false longest_name (prefix_len is_name_byte (c ∷ rest)) small in
        le-leb (length (take (prefix_len is_name_byte (c ∷ rest)) (c ∷ rest))) longest_name (omega (arith, length-take (prefix_len is_name_byte (c ∷ rest)) (c ∷ rest)))

    go : (b : Bool) → is_reserved (take (prefix_len is_name_byte (c ∷ rest)) (c ∷ rest)) ≡ b → nat_lt longest_name (prefix_len is_name_byte (c ∷ rest)) ≡ false → is_token (cond b kinds.Reserved kinds.Name) (take (prefix_len is_name_byte (c ∷ rest)) (c ∷ rest)) ≡ true
    go true r small = r
    go false r small =
        and_from (is_word (take (prefix_len is_name_byte (c ∷ rest)) (c ∷ rest))) _ (word_is c rest e)
        (and_from (not (is_reserved (take (prefix_len is_name_byte (c ∷ rest)) (c ∷ rest)))) _ (ap not r) (short small))

-- numerals
numeral_spelt : (bytes : List ℕ) → Spelt bytes (numeral_front bytes)
unfolding numeral_front is_token
numeral_spelt bytes = pick (is_numeral (take (prefix_len is_numeral_byte bytes) bytes)) bytes _ _ (λ h. h) (λ _. tt)

-- signs
single_sign : (c : ℕ) → is_single_sign c ≡ true → is_one_of (c ∷ []) signs ≡ true
single_sign c e = any_is nat_eq (λ x y h. eqb-true x y h) (λ x. is_one_of (x ∷ []) signs) c (codes "+-*/%^#<>=(){}[];:,.@&`") e refl

double_sign : (c d : ℕ) → is_double_sign c d ≡ true → is_one_of (c ∷ d ∷ []) signs ≡ true
double_sign c d e =
    any_is bytes_eq bytes_same (λ s. is_one_of s signs) (c ∷ d ∷ []) (codes "==" ∷ codes "~=" ∷ codes "<=" ∷ codes ">=" ∷ codes "::" ∷ codes ".." ∷ codes "->" ∷ codes "<<" ∷ codes ">>" ∷ []) e refl

triple_sign : (c d f : ℕ) → is_triple_sign c d f ≡ true → is_one_of (c ∷ d ∷ f ∷ []) signs ≡ true
triple_sign c d f e = ap (λ s. is_one_of s signs) (bytes_same (c ∷ d ∷ f ∷ []) (codes "...") e)

abbrev Signed : List ℕ → ℕ → Type 0
Signed bytes n = is_one_of (take n bytes) signs ≡ true

sign_choice : (b : Bool) (bytes : List ℕ) (x y : ℕ) → (b ≡ true → Signed bytes x) → ((y ≡ 0 → ⊥) → Signed bytes y) → (cond b x y ≡ 0 → ⊥) → Signed bytes (cond b x y)
sign_choice true bytes x y p q z = p refl
sign_choice false bytes x y p q z = q z

nothing : (bytes : List ℕ) (n : ℕ) → n ≡ 0 → (n ≡ 0 → ⊥) → Signed bytes n
nothing bytes n e z = absurd (z e)

sign_signed : (bytes : List ℕ) → (sign_len bytes ≡ 0 → ⊥) → Signed bytes (sign_len bytes)
unfolding sign_len
sign_signed [] z = absurd (z refl)
sign_signed (c ∷ []) z = sign_choice (is_single_sign c) (c ∷ []) 1 0 (single_sign c) (nothing (c ∷ []) 0 refl) z
sign_signed (c ∷ d ∷ []) z =
    sign_choice (is_double_sign c d) (c ∷ d ∷ []) 2 (cond (is_single_sign c) 1 0) (double_sign c d)
    (sign_choice (is_single_sign c) (c ∷ d ∷ []) 1 0 (single_sign c) (nothing (c ∷ d ∷ []) 0 refl)) z
sign_signed (c ∷ d ∷ f ∷ rest) z =
    let bs = c ∷ d ∷ f ∷ rest in
    sign_choice (is_triple_sign c d f) bs 3 (cond (is_double_sign c d) 2 (cond (is_single_sign c) 1 0)) (triple_sign c d f)
    (sign_choice (is_double_sign c d) bs 2 (cond (is_single_sign c) 1 0) (double_sign c d)
    (sign_choice (is_single_sign c) bs 1 0 (single_sign c) (nothing bs 0 refl))) z

sign_spelt : (bytes : List ℕ) → Spelt bytes (sign_front bytes)
unfolding sign_front is_token
sign_spelt bytes =
    pick (eqb (sign_len bytes) 0) bytes _ _ (λ _. tt)
    (λ z. pick (eqb (sign_len bytes) 1 && is_point_and_digit bytes) bytes _ _ (λ _. tt) (λ _. sign_signed bytes (λ e. true≢false (sym (eq-eqb (sign_len bytes) 0 e) ∙ z))))

-- literals in quotes
one_taken : (c : ℕ) (bytes : List ℕ) → begins_with c bytes ≡ true → take 1 bytes ≡ c ∷ []
one_taken c [] e = absurd (false≢true e)
one_taken c (x ∷ r) e = ap (λ y. y ∷ []) (eqb-true x c e)

quoted_is : (c : ℕ) (rest : List ℕ) → is_quote c ≡ true → begins_with c (drop (source_len (characters c rest)) rest) ≡ true → is_quoted (c ∷ take (source_len (characters c rest) + 1) rest) ≡ true
quoted_is c rest q b =
    let s = source_len (characters c rest) in
    let same = characters_of_front (s + 1) c (s + 1) rest (omega arith) q (omega arith) b in
    let d : drop s (take (s + 1) rest) ≡ c ∷ [] = drop-take s 1 rest ∙ one_taken c (drop s rest) b in
    and_from (is_quote c) (bytes_eq (drop (source_len (characters c (take (s + 1) rest))) (take (s + 1) rest)) (c ∷ [])) q
    (bytes_eq_same _ _ (ap (λ cs. drop (source_len cs) (take (s + 1) rest)) same ∙ d))

or_first : (a b : Bool) → a ≡ true → (a || b) ≡ true
or_first true b e = refl
or_first false b e = absurd (false≢true e)

or_second : (a b : Bool) → b ≡ true → (a || b) ≡ true
or_second true b e = refl
or_second false b e = e

quoted_spelt : (c : ℕ) (rest : List ℕ) → is_quote c ≡ true → Spelt (c ∷ rest) (quoted_front c (c ∷ rest))
unfolding quoted_front is_token
quoted_spelt c rest q =
    let cs = characters c rest in
    pick (not (begins_with c (drop (1 + source_len cs) (c ∷ rest)))) (c ∷ rest) _ _ (λ _. tt)
    (λ b. pick (has_bad_escape cs) (c ∷ rest) _ _ (λ _. tt)
    (λ _. pick (nat_lt longest_value (length cs)) (c ∷ rest) _ _ (λ _. tt)
    (λ _. whole b)))
  where
    whole : not (begins_with c (drop (1 + source_len (characters c rest)) (c ∷ rest))) ≡ false → (is_quoted (take (source_len (characters c rest) + 2) (c ∷ rest)) || is_long_at (bracket_level 91 (take (source_len (characters c rest) + 2) (c ∷ rest))) (take (source_len (characters c rest) + 2) (c ∷ rest))) ≡ true
    whole b =
        let s = source_len (characters c rest) in
        let k : 1 + s ≡ suc s = omega arith in
        let n : s + 2 ≡ suc (s + 1) = omega arith in
        let e : begins_with c (drop s rest) ≡ true = ap (λ m. begins_with c (drop m (c ∷ rest))) (sym k) ∙ not-false _ b in
        or_first (is_quoted (take (s + 2) (c ∷ rest))) _ (ap (λ m. is_quoted (take m (c ∷ rest))) n ∙ quoted_is c rest q e)

-- literals in long brackets
long_is : (level : ℕ) (bytes inside : List ℕ) → bracket_level 91 bytes ≡ Some level → inside_at level bytes ≡ Some inside → is_long_at (bracket_level 91 (take (bracketed_len level inside) bytes)) (take (bracketed_len level inside) bytes) ≡ true
long_is level bytes inside o e = go (closing_place level (drop (level + 2) bytes)) refl e
  where
    go : (x : Option ℕ) → closing_place level (drop (level + 2) bytes) ≡ x → option_map (λ n. take n (drop (level + 2) bytes)) x ≡ Some inside → is_long_at (bracket_level 91 (take (bracketed_len level inside) bytes)) (take (bracketed_len level inside) bytes) ≡ true
    go None q f = absurd cc
    go (Some p) q f =
        let k = level + 2 in
        let len = bracketed_len level inside in
        let b = closing_bounds level (drop k bytes) p q in
        let d = length-drop k bytes in
        let t : take p (drop k bytes) ≡ inside = cc in
        let n = length-take-le p (drop k bytes) (omega (arith, b.0)) in
        let size : length inside ≡ p = ap length (sym t) ∙ n in
        let w = take len bytes in
        let wl = length-take-le len bytes (omega (arith, b.0)) in
        let m : len ≡ k + (len - k) = omega arith in
        let r : drop k w ≡ take (len - k) (drop k bytes) = ap (λ j. drop k (take j bytes)) m ∙ drop-take k (len - k) bytes in
        let place : closing_place level (drop k w) ≡ Some p = ap (closing_place level) r ∙ closing_of_front level (len - k) (drop k bytes) p (omega arith) q in
        let open_at = bracket_of_front 91 bytes len level (omega arith) o in
        ap (λ x. is_long_at x w) open_at
        ∙ ap (λ x. ends_at x (length w - 2 * (level + 2))) place
        ∙ eq-eqb p (length w - 2 * (level + 2)) (omega arith)

long_spelt : (level : ℕ) (bytes : List ℕ) → bracket_level 91 bytes ≡ Some level → Spelt bytes (long_front level bytes)
unfolding long_front is_token
long_spelt level bytes o = go (inside_at level bytes) refl
  where
    go : (x : Option (List ℕ)) → inside_at level bytes ≡ x → Spelt bytes (long_by level x)
    go None e = tt
    go (Some inside) e =
        pick (nat_lt longest_value (length (long_value inside))) bytes _ _ (λ _. tt)
        (λ _. or_second (is_quoted (take (bracketed_len level inside) bytes)) _ (long_is level bytes inside o e))

bracket_or_sign_spelt : (o : Option ℕ) (bytes : List ℕ) → bracket_level 91 bytes ≡ o → Spelt bytes (bracket_or_sign_front o bytes)
bracket_or_sign_spelt None bytes e = sign_spelt bytes
bracket_or_sign_spelt (Some level) bytes e = long_spelt level bytes e

comment_spelt : (bytes : List ℕ) (f : Front) → comment_front bytes ≡ f → Spelt bytes f
comment_spelt bytes fronts.End e = tt
comment_spelt bytes (fronts.Blank n) e = tt
comment_spelt bytes (fronts.Refusal w) e = tt
comment_spelt bytes (fronts.Lexeme kind len) e = absurd (comment_no_lexeme bytes kind len e)

front_spelt : (bytes : List ℕ) → Spelt bytes (front_of bytes)
unfolding front_of
front_spelt [] = tt
front_spelt (c ∷ rest) =
    let bs = c ∷ rest in
    pick (is_white c) bs _ _ (λ _. tt)
    (λ _. pick (begins_name c) bs _ _ (word_spelt c rest)
    (λ _. pick (is_digit c) bs _ _ (λ _. numeral_spelt bs)
    (λ _. pick (is_quote c) bs _ _ (quoted_spelt c rest)
    (λ _. pick (begins_comment bs) bs _ _ (λ _. comment_spelt bs (comment_front bs) refl)
    (λ _. bracket_or_sign_spelt (bracket_level 91 bs) bs refl)))))

pub token_spelt : (bytes : List ℕ) (kind : TokenKind) (len : ℕ) → front_of bytes ≡ fronts.Lexeme kind len → is_token kind (take len bytes) ≡ true
token_spelt bytes kind len e = subst (λ (f : Front). Spelt bytes f) e (front_spelt bytes)
