-- Where a text is refused, no token begins.
use Rattle.std.proofs.Common.{◌≡◌, ℕ, zero, suc, ◌+◌, ◌-◌, ◌*◌, ◌<◌, ◌≤◌, Bool, true, false, cond, eqb, not, ◌&&◌, ◌||◌, List, [], ◌∷◌}
use Rattle.std.proofs.Common.{length, take, drop, Option, Some, None, inl, inr, refl, sym, ap, ◌∙◌, arith}
use Rattle.std.specs.Prelude.{bytes_eq, nat_lt, nat_le}
use Rattle.std.specs.List.{prefix_len}
use Rattle.std.proofs.lemmas.Bool.{true≢false, false≢true, eqb-true, eq-eqb, and_parts, or_cases}
use Rattle.std.proofs.lemmas.List.{length-take-le, length-drop, drop-take}
use Rattle.tl_lex.specs.Bytes.{is_name_byte, is_numeral_byte, is_quote}
use Rattle.tl_lex.specs.Words.{longest_name, is_one_of, is_reserved, word_front}
use Rattle.tl_lex.specs.Numerals.{is_numeral, numeral_front}
use Rattle.tl_lex.specs.Signs.{sign_len, is_point_and_digit, sign_front}
use Rattle.tl_lex.specs.Brackets.{begins_with, bracket_level, closing_place, inside_at}
use Rattle.tl_lex.specs.Quoted.{characters, source_len, has_bad_escape}
use Rattle.tl_lex.specs.Values.{long_value}
use Rattle.tl_lex.specs.Fronts.{longest_value, quoted_front, long_by, long_front, long_comment_by, comment_by, comment_front}
use Rattle.tl_lex.specs.Fronts.{begins_comment, bracket_or_sign_front, front_of}
use Rattle.tl_lex.specs.Tokens.{is_word, signs, is_quoted, ends_at, is_long_at, is_token}
use Rattle.tl_lex.specs.Laws.{BeginsNoToken, BeginsNoLiteral}
use Rattle.tl_lex.specs.declared.TokenKind.{TokenKind}
use Rattle.tl_lex.specs.declared.TokenKind.TheVariants as kinds
use Rattle.tl_lex.specs.declared.SyntaxKind.{SyntaxKind}
use Rattle.tl_lex.specs.declared.SyntaxKind.TheVariants as why
use Rattle.tl_lex.specs.declared.front.Front.{Front}
use Rattle.tl_lex.specs.declared.front.Front.TheVariants as fronts
use Rattle.tl_lex.proofs.BracketLemmas.{closing_bounds, inside_by}
use Rattle.tl_lex.proofs.FrontLemmas.{bytes_same}
use Rattle.tl_lex.proofs.LocalLemmas.{begins_in_front, bracket_in_front, closing_in_front, characters_in_front, level_parts}
use Rattle.tl_lex.proofs.MunchLemmas.{name_reserved, word_first, numeral_run, sign_shape, sign_first, sign_byte, sign_longest, name_front}
use Rattle.tl_lex.proofs.MunchLemmas.{digit_front, quote_front, mark_front, bracket_byte}

-- the two refusals that say that something does not begin, or does not end
abbrev is_bad_byte : Front → Bool
is_bad_byte (fronts.Refusal why.BadByte) = true
is_bad_byte _ = false

abbrev is_open : Front → Bool
is_open (fronts.Refusal why.OpenText) = true
is_open _ = false

never : (test : Front → Bool) (b : Bool) (x y : Front) → test x ≡ false → test y ≡ false → test (cond b x y) ≡ false
never test true x y p q = p
never test false x y p q = q

word_no_bad : (bytes : List ℕ) → is_bad_byte (word_front bytes) ≡ false
unfolding word_front
word_no_bad bytes = never is_bad_byte (nat_lt longest_name (prefix_len is_name_byte bytes)) _ _ refl refl

numeral_no_bad : (bytes : List ℕ) → is_bad_byte (numeral_front bytes) ≡ false
unfolding numeral_front
numeral_no_bad bytes = never is_bad_byte (is_numeral (take (prefix_len is_numeral_byte bytes) bytes)) _ _ refl refl

quoted_no_bad : (quote : ℕ) (bytes : List ℕ) → is_bad_byte (quoted_front quote bytes) ≡ false
unfolding quoted_front
quoted_no_bad quote bytes =
    let cs = characters quote (drop 1 bytes) in
    never is_bad_byte (not (begins_with quote (drop (1 + source_len cs) bytes))) _ _ refl
    (never is_bad_byte (has_bad_escape cs) _ _ refl (never is_bad_byte (nat_lt longest_value (length cs)) _ _ refl refl))

long_no_bad : (level : ℕ) (bytes : List ℕ) → is_bad_byte (long_front level bytes) ≡ false
unfolding long_front
long_no_bad level bytes = go (inside_at level bytes)
  where
    go : (o : Option (List ℕ)) → is_bad_byte (long_by level o) ≡ false
    go None = refl
    go (Some inside) = never is_bad_byte (nat_lt longest_value (length (long_value inside))) _ _ refl refl

comment_no_bad : (bytes : List ℕ) → is_bad_byte (comment_front bytes) ≡ false
unfolding comment_front
comment_no_bad bytes = go (bracket_level 91 (drop 2 bytes))
  where
    long : (level : ℕ) (o : Option (List ℕ)) → is_bad_byte (long_comment_by level o) ≡ false
    long level None = refl
    long level (Some inside) = refl

    go : (o : Option ℕ) → is_bad_byte (comment_by o bytes) ≡ false
    go None = refl
    go (Some level) = long level (inside_at level (drop 2 bytes))

-- a sign at the front is no bad byte
sign_no_bad : (bytes : List ℕ) → 0 < sign_len bytes → is_bad_byte (sign_front bytes) ≡ false
unfolding sign_front
sign_no_bad bytes p = go (eqb (sign_len bytes) 0) refl
  where
    go : (b : Bool) → eqb (sign_len bytes) 0 ≡ b → is_bad_byte (cond b (fronts.Refusal why.BadByte) (cond (eqb (sign_len bytes) 1 && is_point_and_digit bytes) (fronts.Refusal why.BadNumber) (fronts.Lexeme kinds.Sign (sign_len bytes)))) ≡ false
    go true e = absurd (omega (arith, eqb-true (sign_len bytes) 0 e))
    go false e = never is_bad_byte (eqb (sign_len bytes) 1 && is_point_and_digit bytes) _ _ refl refl

-- a long bracket at the front opens a long text
long_at : (c i : ℕ) (rest : List ℕ) (level : ℕ) → bracket_level 91 (c ∷ take i rest) ≡ Some level → front_of (c ∷ rest) ≡ long_front level (c ∷ rest)
long_at c i rest level o =
    let open_at = bracket_in_front 91 (c ∷ rest) (suc i) level o in
    let mark = bracket_byte c rest (level_parts 91 c (take i rest) level o).first in
    mark_front c rest mark.0
    ∙ ap (λ (x : Bool). cond x (comment_front (c ∷ rest)) (bracket_or_sign_front (bracket_level 91 (c ∷ rest)) (c ∷ rest))) mark.1
    ∙ ap (λ (x : Option ℕ). bracket_or_sign_front x (c ∷ rest)) open_at

-- ---- bad bytes

sign_at : (c i : ℕ) (rest : List ℕ) → i ≤ length rest → is_one_of (c ∷ take i rest) signs ≡ true → is_bad_byte (front_of (c ∷ rest)) ≡ false
sign_at c i rest le h =
    let s = sign_byte c (take i rest) (sign_first (c ∷ take i rest) h) in
    ap is_bad_byte (mark_front c rest s)
    ∙ never is_bad_byte (begins_comment (c ∷ rest)) _ _ (comment_no_bad (c ∷ rest)) (bracket (bracket_level 91 (c ∷ rest)))
  where
    bracket : (o : Option ℕ) → is_bad_byte (bracket_or_sign_front o (c ∷ rest)) ≡ false
    bracket None = sign_no_bad (c ∷ rest) (omega (arith, sign_longest (suc i) (c ∷ rest) (omega arith) (sign_shape (c ∷ take i rest) h)))
    bracket (Some level) = long_no_bad level (c ∷ rest)

word_at : (c i : ℕ) (rest : List ℕ) → is_word (c ∷ take i rest) ≡ true → is_bad_byte (front_of (c ∷ rest)) ≡ false
word_at c i rest h = ap is_bad_byte (name_front c rest (word_first c (take i rest) h)) ∙ word_no_bad (c ∷ rest)

long_literal_at : (c i : ℕ) (rest : List ℕ) (o : Option ℕ) → bracket_level 91 (c ∷ take i rest) ≡ o → is_long_at o (c ∷ take i rest) ≡ true → is_bad_byte (front_of (c ∷ rest)) ≡ false
long_literal_at c i rest None o h = absurd (false≢true h)
long_literal_at c i rest (Some level) o h = ap is_bad_byte (long_at c i rest level o) ∙ long_no_bad level (c ∷ rest)

literal_at : (c i : ℕ) (rest : List ℕ) → (is_quoted (c ∷ take i rest) || is_long_at (bracket_level 91 (c ∷ take i rest)) (c ∷ take i rest)) ≡ true → is_bad_byte (front_of (c ∷ rest)) ≡ false
literal_at c i rest h = elim (or_cases (is_quoted (c ∷ take i rest)) (is_long_at (bracket_level 91 (c ∷ take i rest)) (c ∷ take i rest)) h) [
  | inl q ↦ ap is_bad_byte (quote_front c rest (and_parts (is_quote c) _ q).0) ∙ quoted_no_bad c (c ∷ rest)
  | inr l ↦ long_literal_at c i rest (bracket_level 91 (c ∷ take i rest)) refl l
]

token_at_front : (other : TokenKind) (c i : ℕ) (rest : List ℕ) → i ≤ length rest → is_token other (c ∷ take i rest) ≡ true → is_bad_byte (front_of (c ∷ rest)) ≡ false
unfolding is_token
token_at_front kinds.Name c i rest le h =
    word_at c i rest (and_parts (is_word (c ∷ take i rest)) (not (is_reserved (c ∷ take i rest)) && nat_le (length (c ∷ take i rest)) longest_name) h).0
token_at_front kinds.Reserved c i rest le h = word_at c i rest (name_reserved (c ∷ take i rest) h)
token_at_front kinds.Sign c i rest le h = sign_at c i rest le h
token_at_front kinds.Numeral c i rest le h = ap is_bad_byte (digit_front c rest (numeral_run c (take i rest) h).0) ∙ numeral_no_bad (c ∷ rest)
token_at_front kinds.Literal c i rest le h = literal_at c i rest h
token_at_front kinds.End c i rest le h = absurd (false≢true h)

end_no_refusal : (w : SyntaxKind) → front_of [] ≡ fronts.Refusal w → ⊥
unfolding front_of
end_no_refusal w e = absurd cc

pub bad_byte : (bytes : List ℕ) → front_of bytes ≡ fronts.Refusal why.BadByte → BeginsNoToken bytes
bad_byte [] e other n p le h = absurd (end_no_refusal why.BadByte e)
bad_byte (c ∷ rest) e other zero p le h = absurd (omega arith)
bad_byte (c ∷ rest) e other (suc i) p le h =
    absurd (true≢false (sym (ap is_bad_byte e) ∙ token_at_front other c i rest (omega arith) h))

-- ---- open texts

quoted_closed : (c i : ℕ) (rest : List ℕ) → i ≤ length rest → is_quoted (c ∷ take i rest) ≡ true → is_open (front_of (c ∷ rest)) ≡ false
unfolding quoted_front
quoted_closed c i rest le h =
    let parts = and_parts (is_quote c) (bytes_eq (drop (source_len (characters c (take i rest))) (take i rest)) (c ∷ [])) h in
    let d = bytes_same (drop (source_len (characters c (take i rest))) (take i rest)) (c ∷ []) parts.1 in
    let l : length (drop (source_len (characters c (take i rest))) (take i rest)) ≡ 1 = ap length d in
    let m = length-drop (source_len (characters c (take i rest))) (take i rest) in
    let t = length-take-le i rest le in
    let b : begins_with c (drop (source_len (characters c (take i rest))) (take i rest)) ≡ true = ap (begins_with c) d ∙ eq-eqb c c refl in
    let same = characters_in_front i c i rest (omega arith) parts.0 (omega arith) b in
    ap is_open (quote_front c rest parts.0) ∙ closed (source_len (characters c rest)) refl (begins_in (source_len (characters c rest)) (ap (λ cs. begins_with c (drop (source_len cs) (take i rest))) same ∙ b))
  where
    begins_in : (s : ℕ) → begins_with c (drop s (take i rest)) ≡ true → begins_with c (drop s rest) ≡ true
    begins_in s e = begins_in_front c i s rest e

    closed : (s : ℕ) → source_len (characters c rest) ≡ s → begins_with c (drop s rest) ≡ true → is_open (quoted_front c (c ∷ rest)) ≡ false
    closed s e f =
        let k : suc s ≡ 1 + source_len (characters c rest) = omega arith in
        ap (λ (x : Bool). is_open (cond (not x) (fronts.Refusal why.OpenText) (cond (has_bad_escape (characters c rest)) (fronts.Refusal why.BadEscape) (cond (nat_lt longest_value (length (characters c rest))) (fronts.Refusal why.TextTooLong) (fronts.Lexeme kinds.Literal (source_len (characters c rest) + 2)))))) (sym (ap (λ j. begins_with c (drop j (c ∷ rest))) k) ∙ f)
        ∙ never is_open (has_bad_escape (characters c rest)) _ _ refl (never is_open (nat_lt longest_value (length (characters c rest))) _ _ refl refl)

long_closed : (c i : ℕ) (rest : List ℕ) → i ≤ length rest → is_long_at (bracket_level 91 (c ∷ take i rest)) (c ∷ take i rest) ≡ true → is_open (front_of (c ∷ rest)) ≡ false
unfolding long_front
long_closed c i rest le h = go (bracket_level 91 (c ∷ take i rest)) refl h
  where
    inside : (level : ℕ) (inside : List ℕ) → inside_at level (c ∷ rest) ≡ Some inside → is_open (long_front level (c ∷ rest)) ≡ false
    inside level s e =
        ap (λ (x : Option (List ℕ)). is_open (long_by level x)) e
        ∙ never is_open (nat_lt longest_value (length (long_value s))) _ _ refl refl

    place : (level : ℕ) (p : ℕ) → closing_place level (drop (level + 2) (c ∷ take i rest)) ≡ Some p → is_open (long_front level (c ∷ rest)) ≡ false
    place level p q =
        let k = level + 2 in
        let t = length-take-le i rest le in
        let b = closing_bounds level (drop k (c ∷ take i rest)) p q in
        let d = length-drop k (c ∷ take i rest) in
        let m : suc i ≡ k + (suc i - k) = omega (arith, b.0) in
        let f : drop k (c ∷ take i rest) ≡ take (suc i - k) (drop k (c ∷ rest)) = ap (λ n. drop k (take n (c ∷ rest))) m ∙ drop-take k (suc i - k) (c ∷ rest) in
        let found = closing_in_front level (suc i - k) (drop k (c ∷ rest)) p (ap (closing_place level) (sym f) ∙ q) in
        inside level (take p (drop k (c ∷ rest))) (inside_by level (c ∷ rest) p found)

    ends : (level : ℕ) (x : Option ℕ) → closing_place level (drop (level + 2) (c ∷ take i rest)) ≡ x → ends_at x (length (c ∷ take i rest) - 2 * (level + 2)) ≡ true → is_open (long_front level (c ∷ rest)) ≡ false
    ends level None q f = absurd (false≢true f)
    ends level (Some p) q f = place level p q

    go : (o : Option ℕ) → bracket_level 91 (c ∷ take i rest) ≡ o → is_long_at o (c ∷ take i rest) ≡ true → is_open (front_of (c ∷ rest)) ≡ false
    go None o f = absurd (false≢true f)
    go (Some level) o f = ap is_open (long_at c i rest level o) ∙ ends level (closing_place level (drop (level + 2) (c ∷ take i rest))) refl f

literal_closed : (c i : ℕ) (rest : List ℕ) → i ≤ length rest → is_token kinds.Literal (c ∷ take i rest) ≡ true → is_open (front_of (c ∷ rest)) ≡ false
unfolding is_token
literal_closed c i rest le h = elim (or_cases (is_quoted (c ∷ take i rest)) (is_long_at (bracket_level 91 (c ∷ take i rest)) (c ∷ take i rest)) h) [
  | inl q ↦ quoted_closed c i rest le q
  | inr l ↦ long_closed c i rest le l
]

no_empty_literal : is_token kinds.Literal [] ≡ true → ⊥
unfolding is_token bracket_level
no_empty_literal e = false≢true e

pub open_text : (bytes : List ℕ) → front_of bytes ≡ fronts.Refusal why.OpenText → BeginsNoLiteral bytes
open_text [] e n le h = absurd (end_no_refusal why.OpenText e)
open_text (c ∷ rest) e zero le h = absurd (no_empty_literal h)
open_text (c ∷ rest) e (suc i) le h =
    absurd (true≢false (sym (ap is_open e) ∙ literal_closed c i rest (omega arith) h))
