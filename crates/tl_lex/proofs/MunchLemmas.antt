-- No longer front of a text is a token.
use Rattle.std.proofs.Common.{◌≡◌, ℕ, zero, suc, ◌+◌, ◌≤◌, Bool, true, false, cond, eqb, not, ◌&&◌, ◌||◌, List, [], ◌∷◌, length, take, drop}
use Rattle.std.proofs.Common.{Option, Some, None, inl, inr, refl, sym, ap, ◌∙◌, arith, codes}
use Rattle.std.specs.Prelude.{bytes_eq, nat_lt}
use Rattle.std.specs.List.{prefix_len, list_all}
use Rattle.std.proofs.lemmas.Bool.{false≢true, eqb-true, and_parts, and_from, or_cases, not-true}
use Rattle.std.proofs.lemmas.Bool.Decides.{nat_tests}
use Rattle.tl_lex.specs.Bytes.{is_white, is_digit, is_hex_digit, begins_name, is_name_byte, is_numeral_byte, is_quote}
use Rattle.tl_lex.specs.Words.{longest_name, is_one_of, reserved_words, is_reserved, word_kind, word_front}
use Rattle.tl_lex.specs.Numerals.{is_suffix, is_digits, is_hexadecimal, is_numeral, numeral_front}
use Rattle.tl_lex.specs.Signs.{is_single_sign, is_double_sign, is_triple_sign, sign_len, is_point_and_digit, sign_front}
use Rattle.tl_lex.specs.Brackets.{begins_with, bracket_level, inside_at}
use Rattle.tl_lex.specs.Quoted.{characters, source_len, has_bad_escape}
use Rattle.tl_lex.specs.Values.{long_value}
use Rattle.tl_lex.specs.Fronts.{longest_value, quoted_front, bracketed_len, long_by, long_front, long_comment_by, comment_by, comment_front}
use Rattle.tl_lex.specs.Fronts.{begins_comment, bracket_or_sign_front, front_of}
use Rattle.tl_lex.specs.Tokens.{is_word, signs}
use Rattle.tl_lex.specs.declared.TokenKind.{TokenKind}
use Rattle.tl_lex.specs.declared.TokenKind.TheVariants as kinds
use Rattle.tl_lex.specs.declared.SyntaxKind.TheVariants as why
use Rattle.tl_lex.specs.declared.front.Front.{Front}
use Rattle.tl_lex.specs.declared.front.Front.TheVariants as fronts
use Rattle.tl_lex.proofs.FrontLemmas.{any_is, bytes_same}

-- ---- the first byte of a token

pub name_reserved : (w : List ℕ) → is_reserved w ≡ true → is_word w ≡ true
unfolding is_reserved
name_reserved w e = any_is bytes_eq bytes_same is_word w reserved_words e refl

pub word_all : (w : List ℕ) → is_word w ≡ true → list_all is_name_byte w ≡ true
word_all [] e = refl
word_all (c ∷ t) e =
    let parts = and_parts (begins_name c) (list_all is_name_byte t) e in
    and_from (is_name_byte c) (list_all is_name_byte t) (named c parts.0) parts.1
  where
    named : (c : ℕ) → begins_name c ≡ true → is_name_byte c ≡ true
    named c h = grind (arith, nat_tests)

pub word_first : (c : ℕ) (t : List ℕ) → is_word (c ∷ t) ≡ true → begins_name c ≡ true
word_first c t e = (and_parts (begins_name c) (list_all is_name_byte t) e).0

suffix_all : (class : ℕ → Bool) → ((c : ℕ) → class c ≡ true → is_numeral_byte c ≡ true) → (w : List ℕ) → is_suffix (drop (prefix_len class w) w) ≡ true → list_all is_numeral_byte w ≡ true
suffix_all class within [] e = refl
suffix_all class within (x ∷ r) e = go (class x) refl e (suffix_all class within r)
  where
    whole : (w : List ℕ) → is_suffix w ≡ true → list_all is_numeral_byte w ≡ true
    whole w h = elim (or_cases (bytes_eq w []) (bytes_eq w (codes "LL") || bytes_eq w (codes "ULL")) h) [
      | inl p ↦ ap (list_all is_numeral_byte) (bytes_same w [] p)
      | inr q ↦ elim (or_cases (bytes_eq w (codes "LL")) (bytes_eq w (codes "ULL")) q) [
        | inl p ↦ ap (list_all is_numeral_byte) (bytes_same w (codes "LL") p)
        | inr p ↦ ap (list_all is_numeral_byte) (bytes_same w (codes "ULL") p)
      ]
    ]

    go : (b : Bool) → class x ≡ b → is_suffix (drop (cond b (1 + prefix_len class r) 0) (x ∷ r)) ≡ true → (is_suffix (drop (prefix_len class r) r) ≡ true → list_all is_numeral_byte r ≡ true) → list_all is_numeral_byte (x ∷ r) ≡ true
    go false c h ih = whole (x ∷ r) h
    go true c h ih =
        let s : 1 + prefix_len class r ≡ suc (prefix_len class r) = omega arith in
        and_from (is_numeral_byte x) (list_all is_numeral_byte r) (within x c) (ih (ap (λ k. is_suffix (drop k (x ∷ r))) (sym s) ∙ h))

pub digit_byte : (c : ℕ) → is_digit c ≡ true → is_numeral_byte c ≡ true
digit_byte c e = grind (arith, nat_tests)

hex_byte : (c : ℕ) → is_hex_digit c ≡ true → is_numeral_byte c ≡ true
hex_byte c e = grind (arith, nat_tests)

-- a numeral begins with a digit, and has bytes of numerals alone
pub numeral_run : (c : ℕ) (t : List ℕ) → is_numeral (c ∷ t) ≡ true → (is_digit c ≡ true) × (list_all is_numeral_byte (c ∷ t) ≡ true)
unfolding is_numeral
numeral_run c t e = elim (or_cases (is_digits is_digit (c ∷ t)) (is_hexadecimal (c ∷ t)) e) [
  | inl h ↦ let parts = and_parts (nat_lt 0 (prefix_len is_digit (c ∷ t))) (is_suffix (drop (prefix_len is_digit (c ∷ t)) (c ∷ t))) h in (first (is_digit c) parts.0, suffix_all is_digit digit_byte (c ∷ t) parts.1)
  | inr h ↦ hexadecimal t h
]
  where
    first : (b : Bool) → nat_lt 0 (cond b (1 + prefix_len is_digit t) 0) ≡ true → b ≡ true
    first true h = refl
    first false h = absurd (false≢true h)

    hexadecimal : (t : List ℕ) → is_hexadecimal (c ∷ t) ≡ true → (is_digit c ≡ true) × (list_all is_numeral_byte (c ∷ t) ≡ true)
    hexadecimal [] h = absurd (false≢true h)
    hexadecimal (x ∷ r) h =
        let parts = and_parts (eqb c 48 && (eqb x 120 || eqb x 88)) (is_digits is_hex_digit r) h in
        let zx = and_parts (eqb c 48) (eqb x 120 || eqb x 88) parts.0 in
        let z = eqb-true c 48 zx.0 in
        let s = and_parts (nat_lt 0 (prefix_len is_hex_digit r)) (is_suffix (drop (prefix_len is_hex_digit r) r)) parts.1 in
        let bx : is_numeral_byte x ≡ true = elim (or_cases (eqb x 120) (eqb x 88) zx.1) [ inl p ↦ ap is_numeral_byte (eqb-true x 120 p) | inr p ↦ ap is_numeral_byte (eqb-true x 88 p) ] in (
          ap is_digit z,
          and_from (is_numeral_byte c) (list_all is_numeral_byte (x ∷ r)) (ap is_numeral_byte z)
              (and_from (is_numeral_byte x) (list_all is_numeral_byte r) bx (suffix_all is_hex_digit hex_byte r s.1)),
        )

-- ---- signs by their length

abbrev pub is_sign_of : List ℕ → Bool
is_sign_of [] = false
is_sign_of (c ∷ []) = is_single_sign c
is_sign_of (c ∷ d ∷ []) = is_double_sign c d
is_sign_of (c ∷ d ∷ e ∷ []) = is_triple_sign c d e
is_sign_of _ = false

pub sign_shape : (w : List ℕ) → is_one_of w signs ≡ true → is_sign_of w ≡ true
sign_shape w e = any_is bytes_eq bytes_same is_sign_of w signs e refl

abbrev pub begins_sign : List ℕ → Bool
begins_sign [] = false
begins_sign (c ∷ t) = not (begins_name c) && (not (is_digit c) && (not (is_quote c) && not (is_white c)))

pub sign_first : (w : List ℕ) → is_one_of w signs ≡ true → begins_sign w ≡ true
sign_first w e = any_is bytes_eq bytes_same begins_sign w signs e refl

pub record Sign_byte (c : ℕ) : Type 0 where
  pub no_white : is_white c ≡ false
  pub no_name : begins_name c ≡ false
  pub no_digit : is_digit c ≡ false
  pub no_quote : is_quote c ≡ false

pub sign_byte : (c : ℕ) (t : List ℕ) → begins_sign (c ∷ t) ≡ true → Sign_byte c
sign_byte c t e =
    let a = and_parts (not (begins_name c)) (not (is_digit c) && (not (is_quote c) && not (is_white c))) e in
    let b = and_parts (not (is_digit c)) (not (is_quote c) && not (is_white c)) a.1 in
    let d = and_parts (not (is_quote c)) (not (is_white c)) b.1 in
    record { no_white = not-true (is_white c) d.1; no_name = not-true (begins_name c) a.0; no_digit = not-true (is_digit c) b.0; no_quote = not-true (is_quote c) d.0 }

-- the longest sign is at least as long as each
pub sign_longest : (n : ℕ) (bytes : List ℕ) → n ≤ length bytes → is_sign_of (take n bytes) ≡ true → n ≤ sign_len bytes
unfolding sign_len
sign_longest zero bytes le e = omega arith
sign_longest (suc n) [] le e = absurd (omega arith)
sign_longest (suc zero) (c ∷ []) le e = go (is_single_sign c) e
  where
    go : (s : Bool) → s ≡ true → 1 ≤ cond s 1 0
    go true h = omega arith
    go false h = absurd (false≢true h)
sign_longest (suc zero) (c ∷ d ∷ []) le e = go (is_double_sign c d) (is_single_sign c) e
  where
    go : (b s : Bool) → s ≡ true → 1 ≤ cond b 2 (cond s 1 0)
    go true s h = omega arith
    go false true h = omega arith
    go false false h = absurd (false≢true h)
sign_longest (suc zero) (c ∷ d ∷ f ∷ r) le e = go (is_triple_sign c d f) (is_double_sign c d) (is_single_sign c) e
  where
    go : (t b s : Bool) → s ≡ true → 1 ≤ cond t 3 (cond b 2 (cond s 1 0))
    go true b s h = omega arith
    go false true s h = omega arith
    go false false true h = omega arith
    go false false false h = absurd (false≢true h)
sign_longest (suc (suc n)) (c ∷ []) le e = absurd (omega arith)
sign_longest (suc (suc zero)) (c ∷ d ∷ []) le e = go (is_double_sign c d) e
  where
    go : (b : Bool) → b ≡ true → 2 ≤ cond b 2 (cond (is_single_sign c) 1 0)
    go true h = omega arith
    go false h = absurd (false≢true h)
sign_longest (suc (suc zero)) (c ∷ d ∷ f ∷ r) le e = go (is_triple_sign c d f) (is_double_sign c d) e
  where
    go : (t b : Bool) → b ≡ true → 2 ≤ cond t 3 (cond b 2 (cond (is_single_sign c) 1 0))
    go true b h = omega arith
    go false true h = omega arith
    go false false h = absurd (false≢true h)
sign_longest (suc (suc (suc n))) (c ∷ d ∷ []) le e = absurd (omega arith)
sign_longest (suc (suc (suc zero))) (c ∷ d ∷ f ∷ r) le e = go (is_triple_sign c d f) e
  where
    go : (t : Bool) → t ≡ true → 3 ≤ cond t 3 (cond (is_double_sign c d) 2 (cond (is_single_sign c) 1 0))
    go true h = omega arith
    go false h = absurd (false≢true h)
sign_longest (suc (suc (suc (suc n)))) (c ∷ d ∷ f ∷ []) le e = absurd (omega arith)
sign_longest (suc (suc (suc (suc n)))) (c ∷ d ∷ f ∷ g ∷ r) le e = absurd (false≢true e)

pub sign_short : (w : List ℕ) → is_sign_of w ≡ true → length w ≤ 3
sign_short [] e = omega arith
sign_short (c ∷ []) e = omega arith
sign_short (c ∷ d ∷ []) e = omega arith
sign_short (c ∷ d ∷ f ∷ []) e = omega arith
sign_short (c ∷ d ∷ f ∷ g ∷ r) e = absurd (false≢true e)

-- ---- the front by the first byte

name_no_white : (c : ℕ) → begins_name c ≡ true → is_white c ≡ false
name_no_white c e = grind (arith, nat_tests)

digit_no_white : (c : ℕ) → is_digit c ≡ true → is_white c ≡ false
digit_no_white c e = grind (arith, nat_tests)

digit_no_name : (c : ℕ) → is_digit c ≡ true → begins_name c ≡ false
digit_no_name c e = grind (arith, nat_tests)

quote_sign : (c : ℕ) → is_quote c ≡ true → (is_white c ≡ false) × (begins_name c ≡ false) × (is_digit c ≡ false)
quote_sign c e = elim (or_cases (eqb c 34) (eqb c 39) e) [
  | inl p ↦ let q = eqb-true c 34 p in (ap is_white q, ap begins_name q, ap is_digit q)
  | inr p ↦ let q = eqb-true c 39 p in (ap is_white q, ap begins_name q, ap is_digit q)
]

-- the choice of the front
abbrev pub chosen : Bool → Bool → Bool → Bool → Bool → ℕ → List ℕ → Front
chosen w n d q m c bs =
    cond w (fronts.Blank (prefix_len is_white bs))
    (cond n (word_front bs) (cond d (numeral_front bs) (cond q (quoted_front c bs) (cond m (comment_front bs) (bracket_or_sign_front (bracket_level 91 bs) bs)))))

pub front_chosen : (c : ℕ) (rest : List ℕ) → front_of (c ∷ rest) ≡ chosen (is_white c) (begins_name c) (is_digit c) (is_quote c) (begins_comment (c ∷ rest)) c (c ∷ rest)
unfolding front_of
front_chosen c rest = refl

pub name_front : (c : ℕ) (rest : List ℕ) → begins_name c ≡ true → front_of (c ∷ rest) ≡ word_front (c ∷ rest)
name_front c rest e =
    front_chosen c rest
    ∙ ap (λ (w : Bool). chosen w (begins_name c) (is_digit c) (is_quote c) (begins_comment (c ∷ rest)) c (c ∷ rest)) (name_no_white c e)
    ∙ ap (λ (n : Bool). chosen false n (is_digit c) (is_quote c) (begins_comment (c ∷ rest)) c (c ∷ rest)) e

pub digit_front : (c : ℕ) (rest : List ℕ) → is_digit c ≡ true → front_of (c ∷ rest) ≡ numeral_front (c ∷ rest)
digit_front c rest e =
    front_chosen c rest
    ∙ ap (λ (w : Bool). chosen w (begins_name c) (is_digit c) (is_quote c) (begins_comment (c ∷ rest)) c (c ∷ rest)) (digit_no_white c e)
    ∙ ap (λ (n : Bool). chosen false n (is_digit c) (is_quote c) (begins_comment (c ∷ rest)) c (c ∷ rest)) (digit_no_name c e)
    ∙ ap (λ (d : Bool). chosen false false d (is_quote c) (begins_comment (c ∷ rest)) c (c ∷ rest)) e

pub quote_front : (c : ℕ) (rest : List ℕ) → is_quote c ≡ true → front_of (c ∷ rest) ≡ quoted_front c (c ∷ rest)
quote_front c rest e =
    let s = quote_sign c e in
    front_chosen c rest
    ∙ ap (λ (w : Bool). chosen w (begins_name c) (is_digit c) (is_quote c) (begins_comment (c ∷ rest)) c (c ∷ rest)) s.0
    ∙ ap (λ (n : Bool). chosen false n (is_digit c) (is_quote c) (begins_comment (c ∷ rest)) c (c ∷ rest)) s.1
    ∙ ap (λ (d : Bool). chosen false false d (is_quote c) (begins_comment (c ∷ rest)) c (c ∷ rest)) s.2
    ∙ ap (λ (q : Bool). chosen false false false q (begins_comment (c ∷ rest)) c (c ∷ rest)) e

pub mark_front : (c : ℕ) (rest : List ℕ) → Sign_byte c → front_of (c ∷ rest) ≡ cond (begins_comment (c ∷ rest)) (comment_front (c ∷ rest)) (bracket_or_sign_front (bracket_level 91 (c ∷ rest)) (c ∷ rest))
mark_front c rest s =
    front_chosen c rest
    ∙ ap (λ (w : Bool). chosen w (begins_name c) (is_digit c) (is_quote c) (begins_comment (c ∷ rest)) c (c ∷ rest)) s.no_white
    ∙ ap (λ (n : Bool). chosen false n (is_digit c) (is_quote c) (begins_comment (c ∷ rest)) c (c ∷ rest)) s.no_name
    ∙ ap (λ (d : Bool). chosen false false d (is_quote c) (begins_comment (c ∷ rest)) c (c ∷ rest)) s.no_digit
    ∙ ap (λ (q : Bool). chosen false false false q (begins_comment (c ∷ rest)) c (c ∷ rest)) s.no_quote

pub bracket_byte : (c : ℕ) (rest : List ℕ) → c ≡ 91 → (Sign_byte c) × (begins_comment (c ∷ rest) ≡ false)
bracket_byte c [] e = (record { no_white = ap is_white e; no_name = ap begins_name e; no_digit = ap is_digit e; no_quote = ap is_quote e }, refl)
bracket_byte c (d ∷ rest) e = (record { no_white = ap is_white e; no_name = ap begins_name e; no_digit = ap is_digit e; no_quote = ap is_quote e }, ap (λ k. eqb k 45 && eqb d 45) e)

-- ---- how long the token of a front is

pub lexeme_word : (bytes : List ℕ) (kind : TokenKind) (len : ℕ) → word_front bytes ≡ fronts.Lexeme kind len → len ≡ prefix_len is_name_byte bytes
unfolding word_front
lexeme_word bytes kind len e = go (nat_lt longest_name (prefix_len is_name_byte bytes)) e
  where
    go : (b : Bool) → cond b (fronts.Refusal why.NameTooLong) (fronts.Lexeme (word_kind (take (prefix_len is_name_byte bytes) bytes)) (prefix_len is_name_byte bytes)) ≡ fronts.Lexeme kind len → len ≡ prefix_len is_name_byte bytes
    go true h = absurd cc
    go false h = cc

pub lexeme_numeral : (bytes : List ℕ) (kind : TokenKind) (len : ℕ) → numeral_front bytes ≡ fronts.Lexeme kind len → len ≡ prefix_len is_numeral_byte bytes
unfolding numeral_front
lexeme_numeral bytes kind len e = go (is_numeral (take (prefix_len is_numeral_byte bytes) bytes)) e
  where
    go : (b : Bool) → cond b (fronts.Lexeme kinds.Numeral (prefix_len is_numeral_byte bytes)) (fronts.Refusal why.BadNumber) ≡ fronts.Lexeme kind len → len ≡ prefix_len is_numeral_byte bytes
    go true h = cc
    go false h = absurd cc

pub lexeme_quoted : (quote : ℕ) (bytes : List ℕ) (kind : TokenKind) (len : ℕ) → quoted_front quote bytes ≡ fronts.Lexeme kind len → len ≡ source_len (characters quote (drop 1 bytes)) + 2
unfolding quoted_front
lexeme_quoted quote bytes kind len e = go (not (begins_with quote (drop (1 + source_len (characters quote (drop 1 bytes))) bytes))) (has_bad_escape (characters quote (drop 1 bytes))) (nat_lt longest_value (length (characters quote (drop 1 bytes)))) e
  where
    go : (a b d : Bool) → cond a (fronts.Refusal why.OpenText) (cond b (fronts.Refusal why.BadEscape) (cond d (fronts.Refusal why.TextTooLong) (fronts.Lexeme kinds.Literal (source_len (characters quote (drop 1 bytes)) + 2)))) ≡ fronts.Lexeme kind len → len ≡ source_len (characters quote (drop 1 bytes)) + 2
    go true b d h = absurd cc
    go false true d h = absurd cc
    go false false true h = absurd cc
    go false false false h = cc

pub lexeme_sign : (bytes : List ℕ) (kind : TokenKind) (len : ℕ) → sign_front bytes ≡ fronts.Lexeme kind len → len ≡ sign_len bytes
unfolding sign_front
lexeme_sign bytes kind len e = go (eqb (sign_len bytes) 0) (eqb (sign_len bytes) 1 && is_point_and_digit bytes) e
  where
    go : (a b : Bool) → cond a (fronts.Refusal why.BadByte) (cond b (fronts.Refusal why.BadNumber) (fronts.Lexeme kinds.Sign (sign_len bytes))) ≡ fronts.Lexeme kind len → len ≡ sign_len bytes
    go true b h = absurd cc
    go false true h = absurd cc
    go false false h = cc

pub lexeme_long : (level : ℕ) (bytes : List ℕ) (kind : TokenKind) (len : ℕ) → long_front level bytes ≡ fronts.Lexeme kind len → (inside : List ℕ) × (inside_at level bytes ≡ Some inside) × (len ≡ bracketed_len level inside)
unfolding long_front
lexeme_long level bytes kind len e = go (inside_at level bytes) refl e
  where
    go : (o : Option (List ℕ)) → inside_at level bytes ≡ o → long_by level o ≡ fronts.Lexeme kind len → (inside : List ℕ) × (inside_at level bytes ≡ Some inside) × (len ≡ bracketed_len level inside)
    go None q h = absurd cc
    go (Some inside) q h = pick (nat_lt longest_value (length (long_value inside))) h
      where
        pick : (b : Bool) → cond b (fronts.Refusal why.TextTooLong) (fronts.Lexeme kinds.Literal (bracketed_len level inside)) ≡ fronts.Lexeme kind len → (inside' : List ℕ) × (inside_at level bytes ≡ Some inside') × (len ≡ bracketed_len level inside')
        pick true h = absurd cc
        pick false h = (inside, q, cc)

pub comment_no_lexeme : (bytes : List ℕ) (kind : TokenKind) (len : ℕ) → comment_front bytes ≡ fronts.Lexeme kind len → ⊥
unfolding comment_front
comment_no_lexeme bytes kind len e = go (bracket_level 91 (drop 2 bytes)) e
  where
    long : (level : ℕ) (o : Option (List ℕ)) → long_comment_by level o ≡ fronts.Lexeme kind len → ⊥
    long level None h = absurd cc
    long level (Some inside) h = absurd cc

    go : (o : Option ℕ) → comment_by o bytes ≡ fronts.Lexeme kind len → ⊥
    go None h = absurd cc
    go (Some level) h = long level (inside_at level (drop 2 bytes)) h
