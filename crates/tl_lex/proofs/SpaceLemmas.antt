-- Spaces may be passed over one by one.
use Rattle.std.proofs.Common.{◌≡◌, ℕ, suc, ◌+◌, ◌<◌, Bool, true, false, cond, List, [], ◌∷◌, length, take, drop, refl, sym, ap, ◌∙◌, subst, arith}
use Rattle.std.specs.List.{prefix_len}
use Rattle.std.specs.Str.{IsUtf8, IsCharBoundary}
use Rattle.std.proofs.lemmas.Bool.{false≢true, eqb-true}
use Rattle.std.proofs.lemmas.Str.{IsCharBoundary-after_ascii}
use Rattle.tl_base.specs.declared.place.Place.{Place}
use Rattle.tl_lex.specs.Bytes.{is_white, is_digit, begins_name, is_quote}
use Rattle.tl_lex.specs.LineEnds.{line_ends}
use Rattle.tl_lex.specs.Brackets.{begins_with}
use Rattle.tl_lex.specs.Fronts.{begins_comment, front_of}
use Rattle.tl_lex.specs.Answers.{Position, place_at}
use Rattle.tl_lex.specs.Lexing.{behind, moved, answers_from}
use Rattle.tl_lex.specs.declared.front.Front.TheVariants as fronts
use Rattle.tl_lex.proofs.LexLemmas.{answers_blank}
use Rattle.tl_lex.proofs.MunchLemmas.{chosen, front_chosen}

-- ---- a space is no line end

ends_behind : (rest : List ℕ) → line_ends (32 ∷ rest) ≡ line_ends rest
ends_behind [] = refl
ends_behind (c ∷ rest) = refl

-- ---- two blanks one after the other are as one

stays : (p : Place) → moved p 0 0 ≡ p
stays p =
    let line : p.line + 0 ≡ p.line = omega arith in
    let word : p.word + 0 ≡ p.word = omega arith in
    ap (λ (n : ℕ). place_at n (p.word + 0)) line ∙ ap (λ (n : ℕ). place_at p.line n) word

twice : (at : Position) (n lines : ℕ) → behind at (suc n) lines 0 ≡ behind (behind at 1 0 0) n lines 0
twice at n lines =
    let offset : at.offset + suc n ≡ at.offset + 1 + n = omega arith in
    ap (λ (p : Place). position p (at.offset + suc n)) (ap (λ (p : Place). moved p lines 0) (sym (stays at.place)))
    ∙ ap (λ (k : ℕ). position (moved (moved at.place 0 0) lines 0) k) offset
  where
    position : Place → ℕ → Position
    position p k = record { place = p; offset = k }

white_front : (c : ℕ) (rest : List ℕ) → is_white c ≡ true → front_of (c ∷ rest) ≡ fronts.Blank (prefix_len is_white (c ∷ rest))
white_front c rest e =
    front_chosen c rest
    ∙ ap (λ (w : Bool). chosen w (begins_name c) (is_digit c) (is_quote c) (begins_comment (c ∷ rest)) c (c ∷ rest)) e

-- what is before a lexer, by how many bytes the white space has at the front
seen : List ℕ → Position → ℕ → Type 0
seen bytes at n = answers_from bytes at ≡ answers_from (drop n bytes) (behind at n (line_ends (take n bytes)) 0)

one_space : (rest : List ℕ) (at : Position) → answers_from (32 ∷ rest) at ≡ answers_from rest (behind at 1 0 0)
unfolding seen
one_space [] at = answers_blank (32 ∷ []) at 1 (white_front 32 [] refl)
one_space (c ∷ rest) at = go (is_white c) refl
  where
    all : List ℕ
    all = 32 ∷ c ∷ rest

    whole : seen all at (1 + prefix_len is_white (c ∷ rest))
    whole = answers_blank all at (prefix_len is_white all) (white_front 32 (c ∷ rest) refl)

    go : (b : Bool) → b ≡ is_white c → answers_from all at ≡ answers_from (c ∷ rest) (behind at 1 0 0)
    go false e =
        let none : prefix_len is_white (c ∷ rest) ≡ 0 = ap (λ (b : Bool). cond b (1 + prefix_len is_white rest) 0) (sym e) in
        let one : 1 + prefix_len is_white (c ∷ rest) ≡ 1 = omega (arith, none) in
        subst (λ (n : ℕ). seen all at n) one whole
    go true e =
        let n : ℕ = prefix_len is_white (c ∷ rest) in
        let next : 1 + n ≡ suc n = omega arith in
        let here : seen all at (suc n) = subst (λ (k : ℕ). seen all at k) next whole in
        here
        ∙ ap (λ (lines : ℕ). answers_from (drop n (c ∷ rest)) (behind at (suc n) lines 0)) (ends_behind (take n (c ∷ rest)))
        ∙ ap (λ (p : Position). answers_from (drop n (c ∷ rest)) p) (twice at n (line_ends (take n (c ∷ rest))))
        ∙ sym (answers_blank (c ∷ rest) (behind at 1 0 0) n (white_front c rest (sym e)))

-- ---- a space at the front

pub record Spaced (bytes : List ℕ) : Type 0 where
  pub some : 0 < length bytes
  pub cut : IsUtf8 bytes → IsCharBoundary bytes 1
  pub lines : 0 ≡ line_ends (take 1 bytes)
  pub passes : (at : Position) → answers_from bytes at ≡ answers_from (drop 1 bytes) (behind at 1 0 0)

space : (rest : List ℕ) → 0 ≡ line_ends (take 1 (32 ∷ rest)) → drop 1 (32 ∷ rest) ≡ rest → Spaced (32 ∷ rest)
space rest lines behind_it =
    let some : 0 < length (32 ∷ rest) = omega arith in
    let small : 32 < 128 = omega arith in
    record {
      some = some;
      cut = λ u. IsCharBoundary-after_ascii (32 ∷ rest) 0 u some small;
      lines = lines;
      passes = λ at. one_space rest at ∙ ap (λ (b : List ℕ). answers_from b (behind at 1 0 0)) (sym behind_it);
    }

first_space : (rest : List ℕ) → Spaced (32 ∷ rest)
first_space [] = space [] refl refl
first_space (c ∷ rest) = space (c ∷ rest) refl refl

pub spaced : (bytes : List ℕ) → begins_with 32 bytes ≡ true → Spaced bytes
spaced [] h = absurd (false≢true h)
spaced (c ∷ rest) h = subst (λ (x : ℕ). Spaced (x ∷ rest)) (sym (eqb-true c 32 h)) (first_space rest)
