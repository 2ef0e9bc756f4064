-- Where a lexer begins.
use Rattle.std.proofs.Common.{◌≡◌, ℕ, ◌+◌, ◌-◌, ◌<◌, ◌≤◌, Bool, true, false, cond, not, List, [], ◌∷◌, length, get_or, take, drop, inl, inr}
use Rattle.std.proofs.Common.{refl, sym, ap, ◌∙◌, subst, arith}
use Rattle.std.specs.Str.{IsUtf8, IsCharBoundary}
use Rattle.std.proofs.lemmas.Bool.{not-true, not-false, cases_lt}
use Rattle.std.proofs.lemmas.List.{length-take-le, length-drop, get_or-take}
use Rattle.std.proofs.lemmas.List.Sums.{prefix_len-le-length, prefix_len_passes, prefix_len_stops}
use Rattle.std.proofs.lemmas.Str.{IsCharBoundary-end, IsCharBoundary-before_ascii, IsCharBoundary-start}
use Rattle.tl_base.specs.declared.place.Place.{Place}
use Rattle.tl_lex.specs.Bytes.{is_line_end}
use Rattle.tl_lex.specs.LineEnds.{line_ends}
use Rattle.tl_lex.specs.Brackets.{begins_with}
use Rattle.tl_lex.specs.Fronts.{line_len}
use Rattle.tl_lex.specs.Answers.{Position, place_at, place_behind, position_behind, first_line_len, answers_of}
use Rattle.tl_lex.specs.Lexing.{counted, answers_from}
use Rattle.tl_lex.proofs.LineLemmas.{last_of, last_of-is, no_line_ends}
use Rattle.tl_lex.proofs.FrontLemmas.{line_end_small}
use Rattle.tl_lex.proofs.LexLemmas.{counted_fuel}
use Rattle.tl_lex.proofs.PlaceLemmas.{Standing, answers_counted}

pub first_line_within : (text : List ℕ) → first_line_len text ≤ length text
first_line_within text = go (begins_with 35 text)
  where
    go : (b : Bool) → cond b (line_len text) 0 ≤ length text
    go true = prefix_len-le-length (λ c. not (is_line_end c)) text
    go false = omega arith

pub first_line_cut : (text : List ℕ) → IsUtf8 text → IsCharBoundary text (first_line_len text)
first_line_cut text u = go (begins_with 35 text)
  where
    ends : IsCharBoundary text (line_len text)
    ends = elim (cases_lt (line_len text) (length text)) [
      | inl lt ↦ IsCharBoundary-before_ascii text (line_len text) lt (line_end_small (get_or text (line_len text) 0) (not-false (is_line_end (get_or text (line_len text) 0)) (prefix_len_stops (λ x. not (is_line_end x)) text 0 lt)))
      | inr le ↦ let same : length text ≡ line_len text = omega (arith, prefix_len-le-length (λ x. not (is_line_end x)) text) in subst (λ n. IsCharBoundary text n) same (IsCharBoundary-end text)
    ]

    go : (b : Bool) → IsCharBoundary text (cond b (line_len text) 0)
    go true = ends
    go false = IsCharBoundary-start text u

-- the first line has no line end
first_line_plain : (text : List ℕ) (k : ℕ) → k < first_line_len text → is_line_end (get_or text k 0) ≡ false
first_line_plain text k lt = go (begins_with 35 text) lt
  where
    go : (b : Bool) → k < cond b (line_len text) 0 → is_line_end (get_or text k 0) ≡ false
    go true p = not-true (is_line_end (get_or text k 0)) (prefix_len_passes (λ x. not (is_line_end x)) text k 0 p)
    go false p = absurd (omega arith)

first_line_bytes : (text : List ℕ) (k : ℕ) → k < length (take (first_line_len text) text) → is_line_end (get_or (take (first_line_len text) text) k 0) ≡ false
first_line_bytes text k lt =
    let l = length-take-le (first_line_len text) text (first_line_within text) in
    ap is_line_end (get_or-take (first_line_len text) text k 0 (omega arith)) ∙ first_line_plain text k (omega arith)

last_plain : (xs : List ℕ) → ((k : ℕ) → k < length xs → is_line_end (get_or xs k 0) ≡ false) → is_line_end (last_of xs) ≡ false
last_plain [] h = refl
last_plain (x ∷ r) h = ap is_line_end (last_of-is (x ∷ r) (omega arith)) ∙ h (length (x ∷ r) - 1) (omega arith)

begins : (text : List ℕ) → Standing (take (first_line_len text) text) [] (drop (first_line_len text) text)
begins text = record { seam = record { apart = inl (last_plain (take (first_line_len text) text) (first_line_bytes text)) }; lines = tt }

-- a place and how many bytes are before it
abbrev pub position_at : ℕ → ℕ → ℕ → Position
position_at line word offset = record { place = place_at line word; offset = offset }

first_place : (passed : List ℕ) → line_ends passed ≡ 0 → place_behind passed [] ≡ place_at 1 1
first_place passed e = ap (λ (n : ℕ). place_at (1 + n) 1) e

begin_position : (text : List ℕ) → position_behind (take (first_line_len text) text) [] ≡ position_at 1 1 (first_line_len text)
begin_position text =
    let passed = take (first_line_len text) text in
    ap (λ (p : Place). at p (length passed)) (first_place passed (no_line_ends passed (first_line_bytes text)))
    ∙ ap (λ (n : ℕ). at (place_at 1 1) n) (length-take-le (first_line_len text) text (first_line_within text))
  where
    at : Place → ℕ → Position
    at x y = record { place = x; offset = y }

pub answers_begin : (text : List ℕ) → answers_from (drop (first_line_len text) text) (position_at 1 1 (first_line_len text)) ≡ answers_of text
unfolding answers_from answers_of
answers_begin text =
    let rest = drop (first_line_len text) text in
    let passed = take (first_line_len text) text in
    let l = length-drop (first_line_len text) text in
    counted_fuel (length rest + 1) (length text + 1) rest (position_at 1 1 (first_line_len text)) (omega arith) (omega arith)
    ∙ ap (λ (p : Position). counted (length text + 1) rest p) (sym (begin_position text))
    ∙ sym (answers_counted (length text + 1) passed [] rest (begins text))
