-- A text that is cut behind a token has the same answers up to there, and goes on with a space as another text does.
use Rattle.std.proofs.Common.{◌≡◌, ℕ, zero, suc, ◌+◌, ◌<◌, ◌≤◌, Bool, true, false, cond, eqb, not, List, [], ◌∷◌, ◌++◌, length, take, drop}
use Rattle.std.proofs.Common.{Ok, refl, sym, ap, ◌∙◌, subst, append_assoc, append-nil, length-append, arith}
use Rattle.std.specs.List.{prefix_len}
use Rattle.std.specs.Str.{IsUtf8, IsCharBoundary}
use Rattle.std.proofs.lemmas.Bool.{not-true}
use Rattle.std.proofs.lemmas.List.{take-append-drop, take_at, drop_at, length-take-le, length-drop}
use Rattle.std.proofs.lemmas.Str.{IsUtf8-append, IsUtf8-nil, IsUtf8-take, IsUtf8-drop}
use Rattle.tl_lex.specs.Bytes.{is_white, is_line_end}
use Rattle.tl_lex.specs.LineEnds.{line_ends}
use Rattle.tl_lex.specs.Fronts.{front_of, line_len}
use Rattle.tl_lex.specs.Answers.{Token, Answer, Position, token_at, first_line_len, answers_of}
use Rattle.tl_lex.specs.Lexing.{behind, answers_from}
use Rattle.tl_lex.specs.declared.TokenKind.{TokenKind}
use Rattle.tl_lex.specs.declared.TokenKind.TheVariants as kinds
use Rattle.tl_lex.specs.declared.front.Front.{Front}
use Rattle.tl_lex.specs.declared.front.Front.TheVariants as fronts
use Rattle.tl_lex.proofs.LexLemmas.{answers_blank, answers_lexeme, answers_refusal, blank_fits, lexeme_fits}
use Rattle.tl_lex.proofs.StartLemmas.{position_at, first_line_within, first_line_cut, answers_begin}
use Rattle.tl_lex.proofs.CutLemmas.{Spaced, Within, run_inside, front_cut}

abbrev pub oks : List Token → List Answer
oks [] = []
oks (t ∷ ts) = Ok t ∷ oks ts

-- none of them is the end token
abbrev pub NoEnd : List Token → Type 0
NoEnd [] = Unit {0}
NoEnd (t ∷ ts) = (t.kind ≡ kinds.End → ⊥) × NoEnd ts

-- The bytes that have these tokens, and the place behind them. They are UTF-8 where all are.
pub record Cut (bytes : List ℕ) (p : Position) (front : List Token) : Type 0 where
  pub begun : List ℕ
  pub left : List ℕ
  pub place : Position
  pub parts : bytes ≡ begun ++ left
  pub utf8 : IsUtf8 bytes → IsUtf8 begun
  pub some : (t : Token) (ts : List Token) → front ≡ t ∷ ts → 0 < length begun
  pub again : (w : List ℕ) → Spaced w → answers_from (begun ++ w) p ≡ oks front ++ answers_from w place

front_again : (begun left w : List ℕ) → Spaced w → 0 < length begun → Within begun (front_of (begun ++ left)) → front_of (begun ++ w) ≡ front_of (begun ++ left)
front_again [] left w s lt h = absurd (omega arith)
front_again (a ∷ begun) left w s lt h = front_cut left w s a begun h

front_of_cut : (bytes begun left w : List ℕ) (f : Front) → bytes ≡ begun ++ left → front_of bytes ≡ f → Spaced w → 0 < length begun → Within begun f → front_of (begun ++ w) ≡ f
front_of_cut bytes begun left w f parts e s lt h =
    let is : front_of (begun ++ left) ≡ f = ap front_of (sym parts) ∙ e in
    front_again begun left w s lt (subst (λ (g : Front). Within begun g) (sym is) h) ∙ is

-- the first bytes, and what stands behind them
rejoin : (k : ℕ) (bytes begun w : List ℕ) → k ≤ length bytes → (take k ((take k bytes ++ begun) ++ w) ≡ take k bytes) × (drop k ((take k bytes ++ begun) ++ w) ≡ begun ++ w)
rejoin k bytes begun w le =
    let same = append_assoc (take k bytes) begun w in
    let size = length-take-le k bytes le in
    (ap (take k) same ∙ take_at (take k bytes) (begun ++ w) k size, ap (drop k) same ∙ drop_at (take k bytes) (begun ++ w) k size)

whole : (k : ℕ) (bytes begun left : List ℕ) → drop k bytes ≡ begun ++ left → bytes ≡ (take k bytes ++ begun) ++ left
whole k bytes begun left e = sym (take-append-drop k bytes) ∙ ap (λ (x : List ℕ). take k bytes ++ x) e ∙ sym (append_assoc (take k bytes) begun left)

both_utf8 : (k : ℕ) (bytes begun : List ℕ) → IsUtf8 bytes → IsCharBoundary bytes k → (IsUtf8 (drop k bytes) → IsUtf8 begun) → IsUtf8 (take k bytes ++ begun)
both_utf8 k bytes begun u b h = IsUtf8-append (take k bytes) begun (IsUtf8-take bytes k u b) (h (IsUtf8-drop bytes k u b))

cut_blank : (bytes : List ℕ) (p : Position) (k : ℕ) (t : Token) (ts : List Token) → front_of bytes ≡ fronts.Blank k → Cut (drop k bytes) (behind p k (line_ends (take k bytes)) 0) (t ∷ ts) → Cut bytes p (t ∷ ts)
cut_blank bytes p k t ts f c =
    let fit = blank_fits bytes k f in
    let size = length-take-le k bytes fit.within in
    let both = length-append (take k bytes) c.begun in
    let more = c.some t ts refl in
    record {
      begun = take k bytes ++ c.begun;
      left = c.left;
      place = c.place;
      parts = whole k bytes c.begun c.left c.parts;
      utf8 = λ u. both_utf8 k bytes c.begun u (fit.cut u) c.utf8;
      some = λ u us e. omega (arith, both, more);
      again = λ w s.
          let j = rejoin k bytes c.begun w fit.within in
          answers_blank ((take k bytes ++ c.begun) ++ w) p k (front_of_cut bytes (take k bytes ++ c.begun) c.left w (fronts.Blank k) (whole k bytes c.begun c.left c.parts) f s (omega (arith, both, more)) (omega (arith, both, size, more)))
          ∙ ap (λ (x : List ℕ). answers_from x (behind p k (line_ends (take k ((take k bytes ++ c.begun) ++ w))) 0)) j.1
          ∙ ap (λ (x : List ℕ). answers_from (c.begun ++ w) (behind p k (line_ends x) 0)) j.0
          ∙ c.again w s;
    }

cut_lexeme : (bytes : List ℕ) (p : Position) (kind : TokenKind) (k : ℕ) (ts : List Token) → front_of bytes ≡ fronts.Lexeme kind k → Cut (drop k bytes) (behind p k (line_ends (take k bytes)) 1) ts → Cut bytes p (token_at kind (take k bytes) p ∷ ts)
cut_lexeme bytes p kind k ts f c =
    let fit = (lexeme_fits bytes kind k f).fits in
    let size = length-take-le k bytes fit.within in
    let both = length-append (take k bytes) c.begun in
    let some = fit.some in
    record {
      begun = take k bytes ++ c.begun;
      left = c.left;
      place = c.place;
      parts = whole k bytes c.begun c.left c.parts;
      utf8 = λ u. both_utf8 k bytes c.begun u (fit.cut u) c.utf8;
      some = λ u us e. omega (arith, both, size, some);
      again = λ w s.
          let j = rejoin k bytes c.begun w fit.within in
          answers_lexeme ((take k bytes ++ c.begun) ++ w) p kind k (front_of_cut bytes (take k bytes ++ c.begun) c.left w (fronts.Lexeme kind k) (whole k bytes c.begun c.left c.parts) f s (omega (arith, both, size, some)) (omega (arith, both, size)))
          ∙ ap (λ (x : List ℕ). Ok (token_at kind x p) ∷ answers_from (drop k ((take k bytes ++ c.begun) ++ w)) (behind p k (line_ends x) 1)) j.0
          ∙ ap (λ (x : List ℕ). Ok (token_at kind (take k bytes) p) ∷ answers_from x (behind p k (line_ends (take k bytes)) 1)) j.1
          ∙ ap (λ (x : List Answer). Ok (token_at kind (take k bytes) p) ∷ x) (c.again w s);
    }

pub cut : (n : ℕ) (bytes : List ℕ) (p : Position) (front : List Token) (rest : List Answer) → length bytes < n → NoEnd front → answers_from bytes p ≡ oks front ++ rest → Cut bytes p front
cut n bytes p [] rest lt ne e = record { begun = []; left = bytes; place = p; parts = refl; utf8 = λ u. IsUtf8-nil; some = λ t ts f. absurd cc; again = λ w s. refl }
cut zero bytes p (t ∷ ts) rest lt ne e = absurd (omega arith)
cut (suc n) bytes p (t ∷ ts) rest lt ne e = go (front_of bytes) refl (λ b q front h k l. cut n b q front rest h k l)
  where
    first_of : (u : Token) (xs ys : List Answer) → Ok u ∷ xs ≡ Ok t ∷ ys → (u ≡ t) × (xs ≡ ys)
    first_of u xs ys h = (cc, cc)

    go : (f : Front) → front_of bytes ≡ f → ((b : List ℕ) (q : Position) (front : List Token) → length b < n → NoEnd front → answers_from b q ≡ oks front ++ rest → Cut b q front) → Cut bytes p (t ∷ ts)
    go fronts.End f ih =
        let h = first_of (token_at kinds.End [] p) [] (oks ts ++ rest) (sym (answers_refusal bytes p fronts.End f) ∙ e) in
        absurd (ne.0 (ap (λ (u : Token). u.kind) (sym h.0)))
    go (fronts.Refusal w) f ih = let h = sym (answers_refusal bytes p (fronts.Refusal w) f) ∙ e in absurd cc
    go (fronts.Blank k) f ih =
        let fit = blank_fits bytes k f in
        cut_blank bytes p k t ts f (ih (drop k bytes) (behind p k (line_ends (take k bytes)) 0) (t ∷ ts) (omega (arith, length-drop k bytes, fit.some, fit.within)) ne (sym (answers_blank bytes p k f) ∙ e))
    go (fronts.Lexeme kind k) f ih =
        let fit = (lexeme_fits bytes kind k f).fits in
        let h = first_of (token_at kind (take k bytes) p) (answers_from (drop k bytes) (behind p k (line_ends (take k bytes)) 1)) (oks ts ++ rest) (sym (answers_lexeme bytes p kind k f) ∙ e) in
        subst (λ (u : Token). Cut bytes p (u ∷ ts)) h.0
        (cut_lexeme bytes p kind k ts f (ih (drop k bytes) (behind p k (line_ends (take k bytes)) 1) ts (omega (arith, length-drop k bytes, fit.some, fit.within)) ne.1 h.1))

-- ---- whole texts

pub record CutText (text : List ℕ) (front : List Token) : Type 0 where
  pub begun : List ℕ
  pub left : List ℕ
  pub place : Position
  pub parts : text ≡ begun ++ left
  pub utf8 : IsUtf8 text → IsUtf8 begun
  pub again : (w : List ℕ) → Spaced w → answers_of (begun ++ w) ≡ oks front ++ answers_from w place

-- a text that begins with a space has no first line to be skipped
no_first_line : (w : List ℕ) → Spaced w → first_line_len w ≡ 0
no_first_line [] s = refl
no_first_line (c ∷ rest) s = ap (λ (n : ℕ). cond (eqb n 35) (line_len (c ∷ rest)) 0) s

first_line_same : (begun left w : List ℕ) → first_line_len (begun ++ left) < length begun → first_line_len (begun ++ w) ≡ first_line_len (begun ++ left)
first_line_same [] left w lt = absurd (omega arith)
first_line_same (a ∷ begun) left w lt = go (eqb a 35) lt
  where
    go : (b : Bool) → cond b (line_len (a ∷ (begun ++ left))) 0 < length (a ∷ begun) → ◌≡◌ {A = ℕ} (cond b (line_len (a ∷ (begun ++ w))) 0) (cond b (line_len (a ∷ (begun ++ left))) 0)
    go true h = run_inside (λ c. not (is_line_end c)) (a ∷ begun) left w h
    go false h = refl

pub cut_text : (text : List ℕ) (front : List Token) (rest : List Answer) → NoEnd front → answers_of text ≡ oks front ++ rest → CutText text front
cut_text text [] rest ne e =
    record {
      begun = [];
      left = text;
      place = position_at 1 1 0;
      parts = refl;
      utf8 = λ u. IsUtf8-nil;
      again = λ w s. sym (answers_begin w) ∙ ap (λ (n : ℕ). answers_from (drop n w) (position_at 1 1 n)) (no_first_line w s);
    }
cut_text text (t ∷ ts) rest ne e =
    let k = first_line_len text in
    let c = cut (length (drop k text) + 1) (drop k text) (position_at 1 1 k) (t ∷ ts) rest (omega arith) ne (answers_begin text ∙ e) in
    let within = first_line_within text in
    let size = length-take-le k text within in
    let both = length-append (take k text) c.begun in
    let some = c.some t ts refl in
    let parts = whole k text c.begun c.left c.parts in
    record {
      begun = take k text ++ c.begun;
      left = c.left;
      place = c.place;
      parts = parts;
      utf8 = λ u. both_utf8 k text c.begun u (first_line_cut text u) c.utf8;
      again = λ w s.
          let same : first_line_len ((take k text ++ c.begun) ++ w) ≡ k = first_line_same (take k text ++ c.begun) c.left w (omega (arith, ap first_line_len parts, both, size, some)) ∙ sym (ap first_line_len parts) in
          sym (answers_begin ((take k text ++ c.begun) ++ w))
          ∙ ap (λ (n : ℕ). answers_from (drop n ((take k text ++ c.begun) ++ w)) (position_at 1 1 n)) same
          ∙ ap (λ (x : List ℕ). answers_from x (position_at 1 1 k)) (rejoin k text c.begun w within).1
          ∙ c.again w s;
    }

-- ---- a token behind a space

-- these bytes are one token of this kind
abbrev pub Alone : TokenKind → List ℕ → Type 0
Alone kind bytes = front_of bytes ≡ fronts.Lexeme kind (length bytes)

abbrev pub begins_black : List ℕ → Bool
begins_black [] = false
begins_black (c ∷ rest) = not (is_white c)

one_space : (bytes : List ℕ) → begins_black bytes ≡ true → front_of (32 ∷ bytes) ≡ fronts.Blank 1
unfolding front_of
one_space [] e = absurd cc
one_space (c ∷ rest) e = ap (λ (b : Bool). fronts.Blank (1 + cond b (1 + prefix_len is_white rest) 0)) (not-true (is_white c) e)

black_append : (bytes w : List ℕ) → begins_black bytes ≡ true → begins_black (bytes ++ w) ≡ true
black_append [] w e = absurd cc
black_append (c ∷ rest) w e = e

some_black : (bytes : List ℕ) → begins_black bytes ≡ true → 0 < length bytes
some_black [] e = absurd cc
some_black (c ∷ rest) e = omega arith

-- the position behind a space
abbrev pub spaced : Position → Position
spaced p = behind p 1 0 0

pub answers_spaced : (kind : TokenKind) (bytes w : List ℕ) (p : Position) → Alone kind bytes → begins_black bytes ≡ true → line_ends bytes ≡ 0 → Spaced w → answers_from (32 ∷ (bytes ++ w)) p ≡ Ok (token_at kind bytes (spaced p)) ∷ answers_from w (behind (spaced p) (length bytes) 0 1)
answers_spaced kind bytes w p alone black ends s =
    answers_blank (32 ∷ (bytes ++ w)) p 1 (one_space (bytes ++ w) (black_append bytes w black))
    ∙ answers_lexeme (bytes ++ w) (spaced p) kind (length bytes) (front_of_cut bytes bytes [] w (fronts.Lexeme kind (length bytes)) (sym (append-nil bytes)) alone s (some_black bytes black) (omega arith))
    ∙ ap (λ (x : List ℕ). Ok (token_at kind x (spaced p)) ∷ answers_from (drop (length bytes) (bytes ++ w)) (behind (spaced p) (length bytes) (line_ends x) 1)) (take_at bytes w (length bytes) refl)
    ∙ ap (λ (x : List ℕ). Ok (token_at kind bytes (spaced p)) ∷ answers_from x (behind (spaced p) (length bytes) (line_ends bytes) 1)) (drop_at bytes w (length bytes) refl)
    ∙ ap (λ (n : ℕ). Ok (token_at kind bytes (spaced p)) ∷ answers_from w (behind (spaced p) (length bytes) n 1)) ends
