-- A front is within its text, may be cut off, and parts no line end.
use Rattle.std.proofs.Common.{◌≡◌, ◌≢◌, ℕ, ◌+◌, ◌-◌, ◌*◌, ◌<◌, ◌≤◌, Bool, true, false, cond, eqb, ltb, not, ◌&&◌, List, [], ◌∷◌, length}
use Rattle.std.proofs.Common.{get_or, take, drop, Option, Some, None, ◌⊎◌, inl, inr, refl, sym, ap, ◌∙◌, subst, arith, codes}
use Rattle.std.specs.Prelude.{bytes_eq, nat_eq, nat_lt}
use Rattle.std.specs.List.{prefix_len, list_any, list_all}
use Rattle.std.specs.Str.{IsUtf8, IsCharBoundary}
use Rattle.std.proofs.lemmas.Bool.{true≢false, false≢true, eqb-true, eqb-false, and_parts, or_cases, not-true, not-false, cases_lt}
use Rattle.std.proofs.lemmas.Bool.Decides.{nat_tests}
use Rattle.std.proofs.lemmas.List.{length-drop, get_or-drop, get_or-take, length-take, length-take-le, get_or_past}
use Rattle.std.proofs.lemmas.List.Sums.{prefix_len-le-length, prefix_len_passes, prefix_len_stops}
use Rattle.std.proofs.lemmas.List.Recursion.{and_at}
use Rattle.std.proofs.lemmas.Str.{IsCharBoundary-end, IsCharBoundary-before_ascii, IsCharBoundary-after_ascii}
use Rattle.tl_lex.specs.Bytes.{is_white, is_line_end, is_digit, begins_name, is_name_byte, is_numeral_byte, is_quote}
use Rattle.tl_lex.specs.LineEnds.{line_ends}
use Rattle.tl_lex.specs.Words.{longest_name, word_front}
use Rattle.tl_lex.specs.Numerals.{is_numeral, numeral_front}
use Rattle.tl_lex.specs.Signs.{is_single_sign, is_double_sign, is_triple_sign, sign_len, is_point_and_digit, sign_front}
use Rattle.tl_lex.specs.Brackets.{begins_with, bracket_level, inside_at}
use Rattle.tl_lex.specs.Quoted.{characters, source_len, has_bad_escape}
use Rattle.tl_lex.specs.Values.{long_value}
use Rattle.tl_lex.specs.Fronts.{longest_value, line_len, quoted_front, bracketed_len, long_by, long_front, long_comment_by, comment_by}
use Rattle.tl_lex.specs.Fronts.{comment_front, begins_comment, bracket_or_sign_front, front_of}
use Rattle.tl_lex.specs.declared.TokenKind.TheVariants as kinds
use Rattle.tl_lex.specs.declared.front.Front.{Front}
use Rattle.tl_lex.specs.declared.front.Front.TheVariants as fronts
use Rattle.tl_lex.proofs.BracketLemmas.{begins_with-is, inside_bounds}
use Rattle.tl_lex.proofs.LineLemmas.{no_line_ends}

-- a front of so many bytes
pub record Fitting (bytes : List ℕ) (len : ℕ) : Type 0 where
  pub some : 0 < len
  pub within : len ≤ length bytes
  pub cut : IsUtf8 bytes → IsCharBoundary bytes len
  pub seam : (is_line_end (get_or bytes (len - 1) 0) ≡ false) ⊎ (is_line_end (get_or bytes len 0) ≡ false)

-- ASCII, and no line end
abbrev is_solid : ℕ → Bool
is_solid c = ltb c 128 && not (is_line_end c)

solid_small : (c : ℕ) → is_solid c ≡ true → c < 128
solid_small c e = grind (arith, nat_tests)

solid_no_end : (c : ℕ) → is_solid c ≡ true → is_line_end c ≡ false
solid_no_end c e = not-true (is_line_end c) (and_parts (ltb c 128) (not (is_line_end c)) e).1

after_ascii : (bytes : List ℕ) (len : ℕ) → 0 < len → len ≤ length bytes → get_or bytes (len - 1) 0 < 128 → IsUtf8 bytes → IsCharBoundary bytes len
after_ascii bytes len p q lt u =
    let e : len - 1 + 1 ≡ len = omega arith in
    subst (λ n. IsCharBoundary bytes n) e (IsCharBoundary-after_ascii bytes (len - 1) u (omega arith) lt)

fit_solid : (bytes : List ℕ) (len : ℕ) → 0 < len → len ≤ length bytes → is_solid (get_or bytes (len - 1) 0) ≡ true → Fitting bytes len
fit_solid bytes len p q s = record {
  some = p;
  within = q;
  cut = after_ascii bytes len p q (solid_small (get_or bytes (len - 1) 0) s);
  seam = inl (solid_no_end (get_or bytes (len - 1) 0) s);
}

prefix_some : (p : ℕ → Bool) (c : ℕ) (rest : List ℕ) → p c ≡ true → 0 < prefix_len p (c ∷ rest)
prefix_some p c rest e = go (p c) e
  where
    go : (b : Bool) → b ≡ true → 0 < cond b (1 + prefix_len p rest) 0
    go true h = omega arith
    go false h = absurd (false≢true h)

-- what a front of a class ends with, and that it has no line end
record Classed (bytes : List ℕ) (len : ℕ) : Type 0 where
  pub fits : Fitting bytes len
  pub no_ends : line_ends (take len bytes) ≡ 0

class_fits : (p : ℕ → Bool) → ((c : ℕ) → p c ≡ true → is_solid c ≡ true) → (c : ℕ) (rest : List ℕ) → p c ≡ true → Classed (c ∷ rest) (prefix_len p (c ∷ rest))
class_fits p solid c rest e =
    let bs = c ∷ rest in
    let n = prefix_len p bs in
    let s = prefix_some p c rest e in
    let w = prefix_len-le-length p bs in
    record {
      fits = fit_solid bs n s w (solid (get_or bs (n - 1) 0) (prefix_len_passes p bs (n - 1) 0 (omega arith)));
      no_ends = no_line_ends (take n bs) (λ k lt. let m : k < n = omega (arith, length-take n bs) in ap is_line_end (get_or-take n bs k 0 m) ∙ solid_no_end (get_or bs k 0) (solid (get_or bs k 0) (prefix_len_passes p bs k 0 m)));
    }

name_solid : (c : ℕ) → is_name_byte c ≡ true → is_solid c ≡ true
name_solid c e = grind (arith, nat_tests)

numeral_solid : (c : ℕ) → is_numeral_byte c ≡ true → is_solid c ≡ true
numeral_solid c e = grind (arith, nat_tests)

begins_solid : (c : ℕ) → begins_name c ≡ true → is_name_byte c ≡ true
begins_solid c e = grind (arith, nat_tests)

digit_numeral : (c : ℕ) → is_digit c ≡ true → is_numeral_byte c ≡ true
digit_numeral c e = grind (arith, nat_tests)

quote_solid : (c : ℕ) → is_quote c ≡ true → is_solid c ≡ true
quote_solid c e = grind (arith, nat_tests)

white_small : (c : ℕ) → is_white c ≡ true → c < 128
white_small c e = grind (arith, nat_tests)

not_white : (c : ℕ) → is_white c ≡ false → is_line_end c ≡ false
not_white c e = grind (arith, nat_tests)

pub line_end_small : (c : ℕ) → is_line_end c ≡ true → c < 128
line_end_small c e = grind (arith, nat_tests)

-- white space
white_fits : (c : ℕ) (rest : List ℕ) → is_white c ≡ true → Fitting (c ∷ rest) (prefix_len is_white (c ∷ rest))
white_fits c rest e =
    let bs = c ∷ rest in
    let n = prefix_len is_white bs in
    let p = prefix_some is_white c rest e in
    let q = prefix_len-le-length is_white bs in
    record {
      some = p;
      within = q;
      cut = after_ascii bs n p q (white_small (get_or bs (n - 1) 0) (prefix_len_passes is_white bs (n - 1) 0 (omega arith)));
      seam = inr (ends bs);
    }
  where
    ends : (bs : List ℕ) → is_line_end (get_or bs (prefix_len is_white bs) 0) ≡ false
    ends bs = elim (cases_lt (prefix_len is_white bs) (length bs)) [
      | inl lt ↦ not_white (get_or bs (prefix_len is_white bs) 0) (prefix_len_stops is_white bs 0 lt)
      | inr le ↦ ap is_line_end (get_or_past bs (prefix_len is_white bs) 0 le)
    ]

-- a comment up to the end of its line
line_fits : (c : ℕ) (rest : List ℕ) → is_line_end c ≡ false → Fitting (c ∷ rest) (line_len (c ∷ rest))
line_fits c rest e =
    let bs = c ∷ rest in
    let n = line_len bs in
    let p = prefix_some (λ x. not (is_line_end x)) c rest (ap not e) in
    let q = prefix_len-le-length (λ x. not (is_line_end x)) bs in
    record {
      some = p;
      within = q;
      cut = λ _. ends bs;
      seam = inl (not-true (is_line_end (get_or bs (n - 1) 0)) (prefix_len_passes (λ x. not (is_line_end x)) bs (n - 1) 0 (omega arith)));
    }
  where
    ends : (bs : List ℕ) → IsCharBoundary bs (line_len bs)
    ends bs = elim (cases_lt (line_len bs) (length bs)) [
      | inl lt ↦ IsCharBoundary-before_ascii bs (line_len bs) lt (line_end_small (get_or bs (line_len bs) 0) (not-false (is_line_end (get_or bs (line_len bs) 0)) (prefix_len_stops (λ x. not (is_line_end x)) bs 0 lt)))
      | inr le ↦ let same : length bs ≡ line_len bs = omega (arith, prefix_len-le-length (λ x. not (is_line_end x)) bs) in subst (λ n. IsCharBoundary bs n) same (IsCharBoundary-end bs)
    ]

-- long brackets behind k bytes
bracket_fits : (bytes : List ℕ) (k level len : ℕ) (inside : List ℕ) → k ≤ length bytes → inside_at level (drop k bytes) ≡ Some inside → len ≡ k + bracketed_len level inside → Fitting bytes len
bracket_fits bytes k level len inside kl e l =
    let b = inside_bounds level (drop k bytes) inside e in
    let d = length-drop k bytes in
    let at : len - 1 ≡ k + (length inside + 2 * (level + 2) - 1) = omega arith in
    let last : get_or bytes (len - 1) 0 ≡ 93 = ap (λ j. get_or bytes j 0) at ∙ sym (get_or-drop k bytes (length inside + 2 * (level + 2) - 1) 0) ∙ b.1 in
    fit_solid bytes len (omega arith) (omega (arith, b.0)) (ap is_solid last)

-- a literal in quotes
quoted_fits : (quote : ℕ) (bytes : List ℕ) (n : ℕ) → is_quote quote ≡ true → begins_with quote (drop (1 + n) bytes) ≡ true → Fitting bytes (n + 2)
quoted_fits quote bytes n q e =
    let b = begins_with-is quote (drop (1 + n) bytes) e in
    let d = length-drop (1 + n) bytes in
    let at : n + 2 - 1 ≡ (1 + n) + 0 = omega arith in
    let last : get_or bytes (n + 2 - 1) 0 ≡ quote = ap (λ j. get_or bytes j 0) at ∙ sym (get_or-drop (1 + n) bytes 0 0) ∙ b.1 in
    fit_solid bytes (n + 2) (omega arith) (omega (arith, b.0)) (ap is_solid last ∙ quote_solid quote q)

-- signs
all_at : (xs : List ℕ) (k : ℕ) → list_all is_solid xs ≡ true → k < length xs → is_solid (get_or xs k 0) ≡ true
all_at xs k e lt = and_at (list_all is_solid) is_solid refl (λ _ _. refl) xs k 0 lt e

solid_classed : (bytes : List ℕ) (n : ℕ) → 0 < n → n ≤ length bytes → list_all is_solid (take n bytes) ≡ true → Classed bytes n
solid_classed bytes n p q e =
    let l = length-take-le n bytes q in
    record {
      fits = fit_solid bytes n p q (ap is_solid (sym (get_or-take n bytes (n - 1) 0 (omega arith))) ∙ all_at (take n bytes) (n - 1) e (omega arith));
      no_ends = no_line_ends (take n bytes) (λ k lt. solid_no_end (get_or (take n bytes) k 0) (all_at (take n bytes) k e lt));
    }

pub any_is : {A : Type 0} (eq : A → A → Bool) → ((x y : A) → eq x y ≡ true → x ≡ y) → (P : A → Bool) (a : A) (xs : List A) → list_any (λ x. eq a x) xs ≡ true → list_all P xs ≡ true → P a ≡ true
any_is eq sound P a [] e all = absurd (false≢true e)
any_is eq sound P a (x ∷ xs) e all =
    let parts = and_parts (P x) (list_all P xs) all in
    elim (or_cases (eq a x) (list_any (λ y. eq a y) xs) e) [
      | inl h ↦ ap P (sound a x h) ∙ parts.0
      | inr h ↦ any_is eq sound P a xs h parts.1
    ]

pub bytes_same : (a b : List ℕ) → bytes_eq a b ≡ true → a ≡ b
bytes_same [] [] e = refl
bytes_same [] (y ∷ ys) e = absurd (false≢true e)
bytes_same (x ∷ xs) [] e = absurd (false≢true e)
bytes_same (x ∷ xs) (y ∷ ys) e =
    let parts = and_parts (nat_eq x y) (bytes_eq xs ys) e in
    ap (λ z. z ∷ xs) (eqb-true x y parts.0) ∙ ap (λ zs. y ∷ zs) (bytes_same xs ys parts.1)

single_classed : (c : ℕ) (rest : List ℕ) → is_single_sign c ≡ true → Classed (c ∷ rest) 1
single_classed c rest e =
    let s = any_is nat_eq (λ x y h. eqb-true x y h) is_solid c (codes "+-*/%^#<>=(){}[];:,.@&`") e refl in
    solid_classed (c ∷ rest) 1 (omega arith) (omega arith) (ap (λ b. b && true) s)

double_classed : (c d : ℕ) (rest : List ℕ) → is_double_sign c d ≡ true → Classed (c ∷ d ∷ rest) 2
double_classed c d rest e =
    let s = any_is bytes_eq bytes_same (list_all is_solid) (c ∷ d ∷ []) (codes "==" ∷ codes "~=" ∷ codes "<=" ∷ codes ">=" ∷ codes "::" ∷ codes ".." ∷ codes "->" ∷ codes "<<" ∷ codes ">>" ∷ []) e refl in
    solid_classed (c ∷ d ∷ rest) 2 (omega arith) (omega arith) s

triple_classed : (c d e : ℕ) (rest : List ℕ) → is_triple_sign c d e ≡ true → Classed (c ∷ d ∷ e ∷ rest) 3
triple_classed c d e rest h =
    solid_classed (c ∷ d ∷ e ∷ rest) 3 (omega arith) (omega arith) (ap (list_all is_solid) (bytes_same (c ∷ d ∷ e ∷ []) (codes "...") h))

sign_choice : (b : Bool) (bytes : List ℕ) (x y n : ℕ) → (b ≡ true → Classed bytes x) → (y ≡ n → (n ≡ 0 → ⊥) → Classed bytes n) → cond b x y ≡ n → (n ≡ 0 → ⊥) → Classed bytes n
sign_choice true bytes x y n p q e z = subst (λ m. Classed bytes m) e (p refl)
sign_choice false bytes x y n p q e z = q e z

sign_classed : (bytes : List ℕ) (n : ℕ) → sign_len bytes ≡ n → (n ≡ 0 → ⊥) → Classed bytes n
unfolding sign_len
sign_classed [] n e z = absurd (z (sym e))
sign_classed (c ∷ []) n e z =
    sign_choice (is_single_sign c) (c ∷ []) 1 0 n (single_classed c []) (λ h k. absurd (k (sym h))) e z
sign_classed (c ∷ d ∷ []) n e z =
    sign_choice (is_double_sign c d) (c ∷ d ∷ []) 2 (cond (is_single_sign c) 1 0) n (double_classed c d [])
    (sign_choice (is_single_sign c) (c ∷ d ∷ []) 1 0 n (single_classed c (d ∷ [])) (λ h k. absurd (k (sym h)))) e z
sign_classed (c ∷ d ∷ f ∷ rest) n e z =
    let bs = c ∷ d ∷ f ∷ rest in
    sign_choice (is_triple_sign c d f) bs 3 (cond (is_double_sign c d) 2 (cond (is_single_sign c) 1 0)) n (triple_classed c d f rest)
    (sign_choice (is_double_sign c d) bs 2 (cond (is_single_sign c) 1 0) n (double_classed c d (f ∷ rest))
    (sign_choice (is_single_sign c) bs 1 0 n (single_classed c (d ∷ f ∷ rest)) (λ h k. absurd (k (sym h))))) e z

-- what a front takes is fitting, and only a literal has line ends
abbrev pub Fine : List ℕ → Front → Type 0
Fine bytes (fronts.Blank n) = Fitting bytes n
Fine bytes (fronts.Lexeme kind n) = Fitting bytes n × (kind ≢ kinds.Literal → line_ends (take n bytes) ≡ 0)
Fine bytes (fronts.Refusal w) = Unit {0}
Fine bytes fronts.End = Unit {0}

pick : (b : Bool) (bytes : List ℕ) (x y : Front) → (b ≡ true → Fine bytes x) → (b ≡ false → Fine bytes y) → Fine bytes (cond b x y)
pick true bytes x y p q = p refl
pick false bytes x y p q = q refl

word_fine : (c : ℕ) (rest : List ℕ) → begins_name c ≡ true → Fine (c ∷ rest) (word_front (c ∷ rest))
unfolding word_front
word_fine c rest e =
    let k = class_fits is_name_byte name_solid c rest (begins_solid c e) in
    pick (nat_lt longest_name (prefix_len is_name_byte (c ∷ rest))) (c ∷ rest) _ _ (λ _. tt) (λ _. (k.fits, λ _. k.no_ends))

numeral_fine : (c : ℕ) (rest : List ℕ) → is_digit c ≡ true → Fine (c ∷ rest) (numeral_front (c ∷ rest))
unfolding numeral_front
numeral_fine c rest e =
    let k = class_fits is_numeral_byte numeral_solid c rest (digit_numeral c e) in
    pick (is_numeral (take (prefix_len is_numeral_byte (c ∷ rest)) (c ∷ rest))) (c ∷ rest) _ _ (λ _. (k.fits, λ _. k.no_ends)) (λ _. tt)

sign_fine : (bytes : List ℕ) → Fine bytes (sign_front bytes)
unfolding sign_front
sign_fine bytes =
    pick (eqb (sign_len bytes) 0) bytes _ _ (λ _. tt)
    (λ z. pick (eqb (sign_len bytes) 1 && is_point_and_digit bytes) bytes _ _ (λ _. tt) (λ _. let k = sign_classed bytes (sign_len bytes) refl (eqb-false (sign_len bytes) 0 z) in (k.fits, λ _. k.no_ends)))

quoted_fine : (quote : ℕ) (bytes : List ℕ) → is_quote quote ≡ true → Fine bytes (quoted_front quote bytes)
unfolding quoted_front
quoted_fine quote bytes q =
    let cs = characters quote (drop 1 bytes) in
    pick (not (begins_with quote (drop (1 + source_len cs) bytes))) bytes _ _ (λ _. tt)
    (λ b. pick (has_bad_escape cs) bytes _ _ (λ _. tt)
    (λ _. pick (nat_lt longest_value (length cs)) bytes _ _ (λ _. tt)
    (λ _. (quoted_fits quote bytes (source_len cs) q (not-false _ b), λ h. absurd (h refl)))))

long_fine : (level : ℕ) (bytes : List ℕ) → Fine bytes (long_front level bytes)
unfolding long_front
long_fine level bytes = go (inside_at level bytes) refl
  where
    go : (o : Option (List ℕ)) → inside_at level bytes ≡ o → Fine bytes (long_by level o)
    go None e = tt
    go (Some inside) e =
        pick (nat_lt longest_value (length (long_value inside))) bytes _ _ (λ _. tt)
        (λ _. (bracket_fits bytes 0 level (bracketed_len level inside) inside (omega arith) e (omega arith), λ h. absurd (h refl)))

comment_fine : (c d : ℕ) (rest : List ℕ) → is_line_end c ≡ false → Fine (c ∷ d ∷ rest) (comment_front (c ∷ d ∷ rest))
unfolding comment_front
comment_fine c d rest e = go (bracket_level 91 rest)
  where
    long : (level : ℕ) (o : Option (List ℕ)) → inside_at level rest ≡ o → Fine (c ∷ d ∷ rest) (long_comment_by level o)
    long level None h = tt
    long level (Some inside) h = bracket_fits (c ∷ d ∷ rest) 2 level (2 + bracketed_len level inside) inside (omega arith) h refl

    go : (o : Option ℕ) → Fine (c ∷ d ∷ rest) (comment_by o (c ∷ d ∷ rest))
    go None = line_fits c (d ∷ rest) e
    go (Some level) = long level (inside_at level rest) refl

begun_comment : (c : ℕ) (rest : List ℕ) → begins_comment (c ∷ rest) ≡ true → Fine (c ∷ rest) (comment_front (c ∷ rest))
begun_comment c [] e = absurd (false≢true e)
begun_comment c (d ∷ rest) e =
    comment_fine c d rest (ap is_line_end (eqb-true c 45 (and_parts (eqb c 45) (eqb d 45) e).0))

bracket_or_sign_fine : (o : Option ℕ) (bytes : List ℕ) → Fine bytes (bracket_or_sign_front o bytes)
bracket_or_sign_fine None bytes = sign_fine bytes
bracket_or_sign_fine (Some level) bytes = long_fine level bytes

pub front_fine : (bytes : List ℕ) → Fine bytes (front_of bytes)
unfolding front_of
front_fine [] = tt
front_fine (c ∷ rest) =
    let bs = c ∷ rest in
    pick (is_white c) bs _ _ (white_fits c rest)
    (λ _. pick (begins_name c) bs _ _ (word_fine c rest)
    (λ _. pick (is_digit c) bs _ _ (numeral_fine c rest)
    (λ _. pick (is_quote c) bs _ _ (quoted_fine c bs)
    (λ _. pick (begins_comment bs) bs _ _ (begun_comment c rest)
    (λ _. bracket_or_sign_fine (bracket_level 91 bs) bs)))))

-- only the empty text ends at its front
abbrev is_end : Front → Bool
is_end fronts.End = true
is_end _ = false

no_end : (b : Bool) (x y : Front) → is_end x ≡ false → is_end y ≡ false → is_end (cond b x y) ≡ false
no_end true x y p q = p
no_end false x y p q = q

sign_no_end : (bytes : List ℕ) → is_end (sign_front bytes) ≡ false
unfolding sign_front
sign_no_end bytes = no_end (eqb (sign_len bytes) 0) _ _ refl (no_end (eqb (sign_len bytes) 1 && is_point_and_digit bytes) _ _ refl refl)

long_no_end : (level : ℕ) (bytes : List ℕ) → is_end (long_front level bytes) ≡ false
unfolding long_front
long_no_end level bytes = go (inside_at level bytes)
  where
    go : (o : Option (List ℕ)) → is_end (long_by level o) ≡ false
    go None = refl
    go (Some inside) = no_end (nat_lt longest_value (length (long_value inside))) _ _ refl refl

comment_no_end : (bytes : List ℕ) → is_end (comment_front bytes) ≡ false
unfolding comment_front
comment_no_end bytes = go (bracket_level 91 (drop 2 bytes))
  where
    long : (level : ℕ) (o : Option (List ℕ)) → is_end (long_comment_by level o) ≡ false
    long level None = refl
    long level (Some inside) = refl

    go : (o : Option ℕ) → is_end (comment_by o bytes) ≡ false
    go None = refl
    go (Some level) = long level (inside_at level (drop 2 bytes))

bracket_or_sign_no_end : (o : Option ℕ) (bytes : List ℕ) → is_end (bracket_or_sign_front o bytes) ≡ false
bracket_or_sign_no_end None bytes = sign_no_end bytes
bracket_or_sign_no_end (Some level) bytes = long_no_end level bytes

word_no_end : (bytes : List ℕ) → is_end (word_front bytes) ≡ false
unfolding word_front
word_no_end bytes = no_end (nat_lt longest_name (prefix_len is_name_byte bytes)) _ _ refl refl

numeral_no_end : (bytes : List ℕ) → is_end (numeral_front bytes) ≡ false
unfolding numeral_front
numeral_no_end bytes = no_end (is_numeral (take (prefix_len is_numeral_byte bytes) bytes)) _ _ refl refl

quoted_no_end : (quote : ℕ) (bytes : List ℕ) → is_end (quoted_front quote bytes) ≡ false
unfolding quoted_front
quoted_no_end quote bytes =
    let cs = characters quote (drop 1 bytes) in
    no_end (not (begins_with quote (drop (1 + source_len cs) bytes))) _ _ refl
    (no_end (has_bad_escape cs) _ _ refl (no_end (nat_lt longest_value (length cs)) _ _ refl refl))

front_no_end : (c : ℕ) (rest : List ℕ) → is_end (front_of (c ∷ rest)) ≡ false
unfolding front_of
front_no_end c rest =
    let bs = c ∷ rest in
    no_end (is_white c) _ _ refl
    (no_end (begins_name c) _ _ (word_no_end bs)
    (no_end (is_digit c) _ _ (numeral_no_end bs)
    (no_end (is_quote c) _ _ (quoted_no_end c bs)
    (no_end (begins_comment bs) _ _ (comment_no_end bs)
    (bracket_or_sign_no_end (bracket_level 91 bs) bs)))))

pub never_end : (c : ℕ) (rest : List ℕ) → front_of (c ∷ rest) ≡ fronts.End → ⊥
never_end c rest e = let f = front_no_end c rest in let g = ap is_end e in true≢false (sym g ∙ f)
