-- The tokens of a text that is cut behind a token and goes on with tokens in their shortest form.
use Rattle.std.proofs.Common.{◌≡◌, ℕ, Bool, true, false, List, [], ◌∷◌, ◌++◌, map, Ok, Err, refl, sym, ap, ◌∙◌, subst}
use Rattle.std.proofs.Common.{append-nil}
use Rattle.std.specs.Str.{IsUtf8}
use Rattle.std.proofs.lemmas.Str.{IsUtf8-append, IsUtf8-nil}
use Rattle.tl_lex.specs.Answers.{Position}
use Rattle.tl_lex.specs.Answers as lexed
use Rattle.tl_lex.specs.Fronts.{front_of}
use Rattle.tl_lex.specs.Lexing.{answers_from}
use Rattle.tl_lex.specs.declared.TokenKind.{TokenKind}
use Rattle.tl_lex.specs.declared.TokenKind.TheVariants as kinds
use Rattle.tl_lex.proofs.CutLemmas.{Spaced}
use Rattle.tl_lex.proofs.CutTexts.{oks, NoEnd, cut_text, spaced, answers_spaced}
use Rattle.tl_tree.specs.declared.symbol.Symbol.{Symbol}
use Rattle.tl_tree.specs.Symbols.{spelling, is_bad}
use Rattle.tl_tree.specs.Tokens.{Token, token_of, Tokens, put_answer, tokens_in, tokens_of}
use Rattle.tl_tree.specs.Refusing.{Language}
use Rattle.tl_tree.specs.Texts.{TextGoesOn}
use Rattle.tl_tree.proofs.Reading.{AllGood}
use Rattle.tl_tree.proofs.Spelled.{is_written, placed, next_at, next_word, Spelled}
use Rattle.tl_tree.proofs.Spelt.{ascii_utf8, spelt}
use Rattle.tl_tree.proofs.Exact.{GoesOn}

abbrev tokens_by : List lexed.Answer → List Token
tokens_by answers = (tokens_in answers).tokens

put_token : (k : TokenKind) (t : lexed.Token) (more : Tokens) → (k ≡ kinds.End → ⊥)
    → (put_answer k t more).tokens ≡ token_of t ∷ more.tokens
put_token kinds.End t more h = absurd (h refl)
put_token kinds.Name t more h = refl
put_token kinds.Reserved t more h = refl
put_token kinds.Sign t more h = refl
put_token kinds.Numeral t more h = refl
put_token kinds.Literal t more h = refl

tokens_oks : (ts : List lexed.Token) (others : List lexed.Answer) → NoEnd ts
    → tokens_by (oks ts ++ others) ≡ map token_of ts ++ tokens_by others
tokens_oks [] others h = refl
tokens_oks (t ∷ ts) others h =
    put_token t.kind t (tokens_in (oks ts ++ others)) h.0
    ∙ ap (λ (x : List Token). token_of t ∷ x) (tokens_oks ts others h.1)

-- ---- the answers that tokens come from

record Lexed (answers : List lexed.Answer) (front : List Token) : Type 0 where
  ts : List lexed.Token
  others : List lexed.Answer
  parts : answers ≡ oks ts ++ others
  no_end : NoEnd ts
  same : map token_of ts ≡ front

first_of : (x y : Token) (xs ys : List Token) → x ∷ xs ≡ y ∷ ys → (x ≡ y) × (xs ≡ ys)
first_of x y xs ys e = (cc, cc)

lexed_front : (answers : List lexed.Answer) (front rest : List Token) → AllGood front → tokens_by answers ≡ front
    ++ rest → Lexed answers front
lexed_front answers [] rest good e = record { ts = []; others = answers; parts = refl; no_end = tt; same = refl }
lexed_front [] (t ∷ front) rest good e = absurd cc
lexed_front (Err w ∷ more) (t ∷ front) rest good e =
    let h = ap (λ (x : List Token). first_is_bad x) e in
    let g = good.0 in
    absurd cc
  where
    first_is_bad : List Token → Bool
    first_is_bad [] = false
    first_is_bad (t ∷ ts) = is_bad t.symbol
lexed_front (Ok u ∷ more) (t ∷ front) rest good e = go u.kind refl (λ f. lexed_front more front rest good.1 f)
  where
    next : (tokens_by more ≡ front ++ rest → Lexed more front) → (u.kind ≡ kinds.End → ⊥)
        → Lexed (Ok u ∷ more) (t ∷ front)
    next again h =
        let f = first_of (token_of u) t (tokens_by more) (front ++ rest)
        (sym (put_token u.kind u (tokens_in more) h) ∙ e) in
        let l = again f.1 in
        record {
          ts = u ∷ l.ts;
          others = l.others;
          parts = ap (λ (x : List lexed.Answer). Ok u ∷ x) l.parts;
          no_end = (h, l.no_end);
          same = ap (λ (x : List Token). token_of u ∷ x) l.same ∙ ap (λ (x : Token). x ∷ front) f.0;
        }

    go : (k : TokenKind) → u.kind ≡ k → (tokens_by more ≡ front ++ rest → Lexed more front)
        → Lexed (Ok u ∷ more) (t ∷ front)
    go kinds.End k again = let none : ◌≡◌ {A = List Token} [] (t ∷ (front ++ rest)) =
        sym (ap (λ (x : TokenKind). (put_answer x u (tokens_in more)).tokens) k) ∙ e in absurd cc
    go kinds.Name k again = next again (λ h. let f = sym k ∙ h in absurd cc)
    go kinds.Reserved k again = next again (λ h. let f = sym k ∙ h in absurd cc)
    go kinds.Sign k again = next again (λ h. let f = sym k ∙ h in absurd cc)
    go kinds.Numeral k again = next again (λ h. let f = sym k ∙ h in absurd cc)
    go kinds.Literal k again = next again (λ h. let f = sym k ∙ h in absurd cc)

-- ---- tokens in their shortest form

-- the tokens with a space before each
bytes_of : List Token → List ℕ
bytes_of [] = []
bytes_of (t ∷ ts) = 32 ∷ (t.text ++ bytes_of ts)

bytes_spaced : (ts : List Token) → Spaced (bytes_of ts)
unfolding bytes_of
bytes_spaced [] = tt
bytes_spaced (t ∷ ts) = refl

no_tokens : (p : Position) → tokens_by (answers_from [] p) ≡ []
unfolding answers_from front_of
no_tokens p = refl

-- the first is read back
spelled_first : (p : Position) (s : Symbol) → is_written s ≡ true → (w : List ℕ) → Spaced w
    → tokens_by (answers_from (32 ∷ (spelling s ++ w)) p) ≡ placed p s ∷ tokens_by (answers_from w (next_word p s))
spelled_first p s written w h =
    let k = spelt s written in
    let t : lexed.Token = lexed.token_at k.kind (spelling s) (spaced p) in
    ap (λ (x : List lexed.Answer). tokens_by x) (answers_spaced k.kind (spelling s) w p k.alone k.black k.ends h)
    ∙ put_token k.kind t (tokens_in (answers_from w (next_word p s))) k.no_end
    ∙ ap (λ (x : Symbol). record
    { symbol = x; text = spelling s; place = t.place; offset = t.offset; first_on_line = t.first_on_line }
    ∷ tokens_by (answers_from w (next_word p s))) k.symbol

spelled_tokens : (ts : List Token) (p : Position) → Spelled p ts → tokens_by (answers_from (bytes_of ts) p) ≡ ts
unfolding bytes_of
spelled_tokens [] p h = no_tokens p
spelled_tokens (t ∷ ts) p h =
    ap (λ (x : Token). tokens_by (answers_from (32 ∷ (x.text ++ bytes_of ts)) p)) h.0.2
    ∙ spelled_first p h.0.0 h.0.1 (bytes_of ts) (bytes_spaced ts)
    ∙ ap (λ (x : Token). x ∷ tokens_by (answers_from (bytes_of ts) (next_at p x.text))) (sym h.0.2)
    ∙ ap (λ (x : List Token). t ∷ x) (spelled_tokens ts (next_at p t.text) h.1)

spelled_utf8 : (ts : List Token) (p : Position) → Spelled p ts → IsUtf8 (bytes_of ts)
unfolding bytes_of
spelled_utf8 [] p h = IsUtf8-nil
spelled_utf8 (t ∷ ts) p h =
    let first : IsUtf8 t.text =
    subst (λ (x : Token). IsUtf8 x.text) (sym h.0.2) (ascii_utf8 (spelling h.0.0) (spelt h.0.0 h.0.1).ascii) in
    IsUtf8-append (32 ∷ []) (t.text ++ bytes_of ts) (ascii_utf8 (32 ∷ []) refl)
    (IsUtf8-append t.text (bytes_of ts) first (spelled_utf8 ts (next_at p t.text) h.1))

-- ---- texts

-- Where the tokens that a text begins with go on from each place, the text goes on.
pub text_goes : {A : Type 0} (Reads : Language A) (text : List ℕ) (front rest : List Token) → tokens_of text ≡ front
    ++ rest → ((p : Position) → GoesOn Reads p front) → TextGoesOn Reads text front
text_goes Reads text front rest e goes =
    let l = lexed_front (lexed.answers_of text) front rest
    (goes (record { place = lexed.place_at 1 1; offset = 0 })).good e in
    let c = cut_text text l.ts l.others l.no_end l.parts in
    let g = goes c.place in
    let with_tokens : (w : List ℕ) → Spaced w → tokens_of (c.begun ++ w) ≡ front
    ++ tokens_by (answers_from w c.place) = λ w s.
    ap (λ (x : List lexed.Answer). tokens_by x) (c.again w s) ∙ tokens_oks l.ts (answers_from w c.place) l.no_end
    ∙ ap (λ (x : List Token). x ++ tokens_by (answers_from w c.place)) l.same in (
      c.begun,
      c.left,
      bytes_of g.more,
      g.more,
      g.tree,
      c.parts,
      λ u. IsUtf8-append c.begun (bytes_of g.more) (c.utf8 u) (spelled_utf8 g.more c.place g.spelled),
      ap (λ (x : List ℕ). tokens_of x) (sym (append-nil c.begun)) ∙ with_tokens [] tt
          ∙ ap (λ (x : List Token). front ++ x) (no_tokens c.place) ∙ append-nil front,
      with_tokens (bytes_of g.more) (bytes_spaced g.more)
          ∙ ap (λ (x : List Token). front ++ x) (spelled_tokens g.more c.place g.spelled),
      g.reads,
    )
