-- The token at the front of a text is its longest.
use Rattle.std.proofs.Common.{◌≡◌, ℕ, zero, suc, ◌+◌, ◌-◌, ◌*◌, ◌≤◌, Bool, true, false, cond, not, ◌&&◌, ◌||◌, List, [], ◌∷◌, length, take}
use Rattle.std.proofs.Common.{drop, Option, Some, None, inl, inr, refl, sym, ap, ◌∙◌, arith}
use Rattle.std.specs.Prelude.{bytes_eq, nat_le}
use Rattle.std.proofs.lemmas.Bool.{false≢true, eqb-true, eq-eqb, and_parts, or_cases}
use Rattle.std.proofs.lemmas.List.{length-take-le, length-drop, drop-take}
use Rattle.tl_lex.specs.Bytes.{is_name_byte, is_numeral_byte, is_quote}
use Rattle.tl_lex.specs.Words.{longest_name, is_one_of, is_reserved}
use Rattle.tl_lex.specs.Numerals.{is_numeral}
use Rattle.tl_lex.specs.Brackets.{begins_with, bracket_level, closing_place}
use Rattle.tl_lex.specs.Quoted.{characters, source_len}
use Rattle.tl_lex.specs.Fronts.{long_front, comment_front, begins_comment, bracket_or_sign_front, front_of}
use Rattle.tl_lex.specs.Tokens.{is_word, signs, is_quoted, ends_at, is_long_at, is_token}
use Rattle.tl_lex.specs.Laws.{IsOnlyLiteral}
use Rattle.tl_lex.specs.declared.TokenKind.{TokenKind}
use Rattle.tl_lex.specs.declared.TokenKind.TheVariants as kinds
use Rattle.tl_lex.specs.declared.front.Front.TheVariants as fronts
use Rattle.tl_lex.proofs.BracketLemmas.{closing_bounds, inside_by}
use Rattle.tl_lex.proofs.FrontLemmas.{bytes_same}
use Rattle.tl_lex.proofs.LocalLemmas.{run_bound, bracket_in_front, closing_in_front, characters_in_front, level_parts}
use Rattle.tl_lex.proofs.MunchLemmas.{name_reserved, word_all, word_first, numeral_run, is_sign_of, sign_shape, sign_first, sign_byte}
use Rattle.tl_lex.proofs.MunchLemmas.{sign_longest, sign_short, name_front, digit_front, quote_front, mark_front, bracket_byte, lexeme_word}
use Rattle.tl_lex.proofs.MunchLemmas.{lexeme_numeral, lexeme_quoted, lexeme_sign, lexeme_long, comment_no_lexeme}

-- a text with this token at its front
pub record At (c : ℕ) (rest : List ℕ) (kind : TokenKind) (len : ℕ) : Type 0 where
  pub front : front_of (c ∷ rest) ≡ fronts.Lexeme kind len

word_no_longer : (c i : ℕ) (rest : List ℕ) (kind : TokenKind) (len : ℕ) → At c rest kind len → i ≤ length rest → is_word (c ∷ take i rest) ≡ true → suc i ≤ len
word_no_longer c i rest kind len a le h =
    let e = lexeme_word (c ∷ rest) kind len (sym (name_front c rest (word_first c (take i rest) h)) ∙ a.front) in
    let b = run_bound is_name_byte (suc i) (c ∷ rest) (omega arith) (word_all (c ∷ take i rest) h) in
    omega arith

numeral_no_longer : (c i : ℕ) (rest : List ℕ) (kind : TokenKind) (len : ℕ) → At c rest kind len → i ≤ length rest → is_numeral (c ∷ take i rest) ≡ true → suc i ≤ len
numeral_no_longer c i rest kind len a le h =
    let r = numeral_run c (take i rest) h in
    let e = lexeme_numeral (c ∷ rest) kind len (sym (digit_front c rest r.0) ∙ a.front) in
    let b = run_bound is_numeral_byte (suc i) (c ∷ rest) (omega arith) r.1 in
    omega arith

sign_no_longer : (c i : ℕ) (rest : List ℕ) (kind : TokenKind) (len : ℕ) → At c rest kind len → i ≤ length rest → is_one_of (c ∷ take i rest) signs ≡ true → suc i ≤ len
sign_no_longer c i rest kind len a le h =
    let s = sign_byte c (take i rest) (sign_first (c ∷ take i rest) h) in
    comment (begins_comment (c ∷ rest)) (sym (mark_front c rest s) ∙ a.front)
  where
    shape : is_sign_of (c ∷ take i rest) ≡ true
    shape = sign_shape (c ∷ take i rest) h

    bracket : (o : Option ℕ) → bracket_or_sign_front o (c ∷ rest) ≡ fronts.Lexeme kind len → suc i ≤ len
    bracket None f = let e = lexeme_sign (c ∷ rest) kind len f in let b = sign_longest (suc i) (c ∷ rest) (omega arith) shape in omega arith
    bracket (Some level) f =
        let l = lexeme_long level (c ∷ rest) kind len f in
        let t = length-take-le i rest le in
        let b = sign_short (c ∷ take i rest) shape in
        omega (arith, l.2)

    comment : (b : Bool) → cond b (comment_front (c ∷ rest)) (bracket_or_sign_front (bracket_level 91 (c ∷ rest)) (c ∷ rest)) ≡ fronts.Lexeme kind len → suc i ≤ len
    comment true f = absurd (comment_no_lexeme (c ∷ rest) kind len f)
    comment false f = bracket (bracket_level 91 (c ∷ rest)) f

-- a literal in quotes at a front is the token
quoted_len : (c i : ℕ) (rest : List ℕ) (kind : TokenKind) (len : ℕ) → At c rest kind len → i ≤ length rest → is_quoted (c ∷ take i rest) ≡ true → suc i ≡ len
quoted_len c i rest kind len a le h =
    let parts = and_parts (is_quote c) (bytes_eq (drop (source_len (characters c (take i rest))) (take i rest)) (c ∷ [])) h in
    let d = bytes_same (drop (source_len (characters c (take i rest))) (take i rest)) (c ∷ []) parts.1 in
    let l : length (drop (source_len (characters c (take i rest))) (take i rest)) ≡ 1 = ap length d in
    let m = length-drop (source_len (characters c (take i rest))) (take i rest) in
    let t = length-take-le i rest le in
    let b : begins_with c (drop (source_len (characters c (take i rest))) (take i rest)) ≡ true = ap (begins_with c) d ∙ eq-eqb c c refl in
    let same = ap source_len (characters_in_front i c i rest (omega arith) parts.0 (omega arith) b) in
    let e = lexeme_quoted c (c ∷ rest) kind len (sym (quote_front c rest parts.0) ∙ a.front) in
    omega (arith, e, same)

-- and so is one in long brackets
long_len : (c i : ℕ) (rest : List ℕ) (kind : TokenKind) (len : ℕ) → At c rest kind len → i ≤ length rest → is_long_at (bracket_level 91 (c ∷ take i rest)) (c ∷ take i rest) ≡ true → suc i ≡ len
long_len c i rest kind len a le h = go (bracket_level 91 (c ∷ take i rest)) refl h
  where
    ends : (level : ℕ) → bracket_level 91 (c ∷ take i rest) ≡ Some level → (p : ℕ) → closing_place level (drop (level + 2) (c ∷ take i rest)) ≡ Some p → p ≡ length (c ∷ take i rest) - 2 * (level + 2) → suc i ≡ len
    ends level o p q e =
        let w = c ∷ take i rest in
        let k = level + 2 in
        let t = length-take-le i rest le in
        let d = length-drop k w in
        let b = closing_bounds level (drop k w) p q in
        let m : suc i ≡ k + (suc i - k) = omega (arith, b.0) in
        let f : drop k w ≡ take (suc i - k) (drop k (c ∷ rest)) = ap (λ n. drop k (take n (c ∷ rest))) m ∙ drop-take k (suc i - k) (c ∷ rest) in
        let place = closing_in_front level (suc i - k) (drop k (c ∷ rest)) p (ap (closing_place level) (sym f) ∙ q) in
        let inside = inside_by level (c ∷ rest) p place in
        let open_at = bracket_in_front 91 (c ∷ rest) (suc i) level o in
        let mark = bracket_byte c rest (level_parts 91 c (take i rest) level o).first in
        let front : long_front level (c ∷ rest) ≡ fronts.Lexeme kind len =
        sym (mark_front c rest mark.0
        ∙ ap (λ (x : Bool). cond x (comment_front (c ∷ rest)) (bracket_or_sign_front (bracket_level 91 (c ∷ rest)) (c ∷ rest))) mark.1
        ∙ ap (λ (x : Option ℕ). bracket_or_sign_front x (c ∷ rest)) open_at)
        ∙ a.front in
        let l = lexeme_long level (c ∷ rest) kind len front in
        let same : take p (drop k (c ∷ rest)) ≡ l.0 = some_same (take p (drop k (c ∷ rest))) l.0 (sym inside ∙ l.1) in
        let n = length-take-le p (drop k (c ∷ rest)) (omega (arith, b.0, length-drop k (c ∷ rest))) in
        let size : length l.0 ≡ p = ap length (sym same) ∙ n in
        omega (arith, l.2, b.0)
      where
        some_same : (x y : List ℕ) → Some x ≡ Some y → x ≡ y
        some_same x y s = cc

    go : (o : Option ℕ) → bracket_level 91 (c ∷ take i rest) ≡ o → is_long_at o (c ∷ take i rest) ≡ true → suc i ≡ len
    go None o f = absurd (false≢true f)
    go (Some level) o f = place (closing_place level (drop (level + 2) (c ∷ take i rest))) refl f
      where
        place : (x : Option ℕ) → closing_place level (drop (level + 2) (c ∷ take i rest)) ≡ x → ends_at x (length (c ∷ take i rest) - 2 * (level + 2)) ≡ true → suc i ≡ len
        place None q g = absurd (false≢true g)
        place (Some p) q g = ends level o p q (eqb-true p (length (c ∷ take i rest) - 2 * (level + 2)) g)

literal_len : (c i : ℕ) (rest : List ℕ) (kind : TokenKind) (len : ℕ) → At c rest kind len → i ≤ length rest → (is_quoted (c ∷ take i rest) || is_long_at (bracket_level 91 (c ∷ take i rest)) (c ∷ take i rest)) ≡ true → suc i ≡ len
literal_len c i rest kind len a le h = elim (or_cases (is_quoted (c ∷ take i rest)) (is_long_at (bracket_level 91 (c ∷ take i rest)) (c ∷ take i rest)) h) [
  | inl q ↦ quoted_len c i rest kind len a le q
  | inr l ↦ long_len c i rest kind len a le l
]

empty_word : is_word [] ≡ true → ⊥
empty_word e = false≢true e

no_longer : (other : TokenKind) (c i : ℕ) (rest : List ℕ) (kind : TokenKind) (len : ℕ) → At c rest kind len → i ≤ length rest → is_token other (c ∷ take i rest) ≡ true → suc i ≤ len
unfolding is_token
no_longer kinds.Name c i rest kind len a le h =
    word_no_longer c i rest kind len a le (and_parts (is_word (c ∷ take i rest)) (not (is_reserved (c ∷ take i rest)) && nat_le (length (c ∷ take i rest)) longest_name) h).0
no_longer kinds.Reserved c i rest kind len a le h = word_no_longer c i rest kind len a le (name_reserved (c ∷ take i rest) h)
no_longer kinds.Sign c i rest kind len a le h = sign_no_longer c i rest kind len a le h
no_longer kinds.Numeral c i rest kind len a le h = numeral_no_longer c i rest kind len a le h
no_longer kinds.Literal c i rest kind len a le h = let e = literal_len c i rest kind len a le h in omega arith
no_longer kinds.End c i rest kind len a le h = absurd (false≢true h)

end_no_lexeme : (kind : TokenKind) (len : ℕ) → front_of [] ≡ fronts.Lexeme kind len → ⊥
unfolding front_of
end_no_lexeme kind len e = absurd cc

pub token_no_longer : (bytes : List ℕ) (kind : TokenKind) (len : ℕ) → front_of bytes ≡ fronts.Lexeme kind len → (other : TokenKind) (n : ℕ) → n ≤ length bytes → is_token other (take n bytes) ≡ true → n ≤ len
token_no_longer [] kind len e other n le h = absurd (end_no_lexeme kind len e)
token_no_longer (c ∷ rest) kind len e other zero le h = omega arith
token_no_longer (c ∷ rest) kind len e other (suc i) le h = no_longer other c i rest kind len (record { front = e }) (omega arith) h

no_empty_literal : is_token kinds.Literal [] ≡ true → ⊥
unfolding is_token bracket_level
no_empty_literal e = false≢true e

literal_token : (bytes : List ℕ) → is_token kinds.Literal bytes ≡ true → (is_quoted bytes || is_long_at (bracket_level 91 bytes) bytes) ≡ true
unfolding is_token
literal_token bytes h = h

pub only_literal : (bytes : List ℕ) (kind : TokenKind) (len : ℕ) → front_of bytes ≡ fronts.Lexeme kind len → IsOnlyLiteral bytes len
only_literal [] kind len e n le h = absurd (end_no_lexeme kind len e)
only_literal (c ∷ rest) kind len e zero le h = absurd (no_empty_literal h)
only_literal (c ∷ rest) kind len e (suc i) le h = literal_len c i rest kind len (record { front = e }) (omega arith) (literal_token (c ∷ take i rest) h)
