-- A text that is UTF-8 is so with names given way to others that are: it may be cut before and behind each name.
use Rattle.std.proofs.Common.{◌≡◌, ℕ, zero, suc, ◌+◌, ◌-◌, ◌<◌, ◌≤◌, List, [], ◌∷◌, ◌++◌, length, take, drop, Option, Some, None, Ok}
use Rattle.std.proofs.Common.{refl, sym, ap, ◌∙◌, subst, arith}
use Rattle.std.specs.Str.{IsUtf8, IsCharBoundary}
use Rattle.std.proofs.lemmas.List.{length-take-le, length-drop}
use Rattle.std.proofs.lemmas.Str.{IsUtf8-append, IsUtf8-drop, IsUtf8-between, IsCharBoundary-start, IsCharBoundary-from_rest}
use Rattle.tl_lex.specs.Answers.{Token, Answer, Position, token_at, first_line_len, answers_of}
use Rattle.tl_lex.specs.Fronts.{front_of}
use Rattle.tl_lex.specs.LineEnds.{line_ends}
use Rattle.tl_lex.specs.Lexing.{behind, answers_from}
use Rattle.tl_lex.specs.declared.TokenKind.{TokenKind}
use Rattle.tl_lex.specs.declared.TokenKind.TheVariants as kinds
use Rattle.tl_lex.specs.declared.front.Front.{Front}
use Rattle.tl_lex.specs.declared.front.Front.TheVariants as fronts
use Rattle.tl_lex.proofs.LexLemmas.{answers_blank, answers_lexeme, answers_refusal, blank_fits, lexeme_fits}
use Rattle.tl_lex.proofs.StartLemmas.{position_at, first_line_within, first_line_cut, answers_begin}
use Rattle.tl_lex.proofs.NewNameLemmas.{Entry, substituted, substituted_at, MatchesAt, Matches, drop_on}

-- ---- new names

abbrev pub IsNewUtf8 : Option (List ℕ) → Type 0
IsNewUtf8 None = Unit {0}
IsNewUtf8 (Some new) = IsUtf8 new

abbrev pub AreUtf8 : List Entry → Type 0
AreUtf8 [] = Unit {0}
AreUtf8 (e ∷ es) = IsNewUtf8 e.2 × AreUtf8 es

-- ---- where the names stand

-- The text may be cut before and behind each of these names, which stand in order from an offset on.
abbrev Cuts : List ℕ → ℕ → List Entry → Type 0
Cuts text o [] = Unit {0}
Cuts text o (e ∷ es) = (o ≤ e.0) × IsCharBoundary text e.0 × IsCharBoundary text (e.0 + length e.1) × Cuts text (e.0 + length e.1) es

cuts_from : (text : List ℕ) (o o' : ℕ) (es : List Entry) → o ≤ o' → Cuts text o' es → Cuts text o es
cuts_from text o o' [] le h = tt
cuts_from text o o' (e ∷ es) le h = (omega (arith, le, h.0), h.1, h.2, h.3)

-- A name of the text is the first of these names, and another token is none.
by_kind : (P : List Entry → Type 0) (kind : TokenKind) (t : Token) (go : List Entry → Type 0) (es : List Entry) → MatchesAt kind es t go
    → ((fs : List Entry) → go fs → P fs)
    → ((e : Entry) (fs : List Entry) → e.0 ≡ t.offset → e.1 ≡ t.text → go fs → P (e ∷ fs))
    → P es
by_kind P kinds.Name t go [] m other name = absurd m
by_kind P kinds.Name t go (e ∷ es) m other name = name e es m.0 m.1 m.2
by_kind P kinds.Reserved t go es m other name = other es m
by_kind P kinds.Sign t go es m other name = other es m
by_kind P kinds.Numeral t go es m other name = other es m
by_kind P kinds.Literal t go es m other name = other es m
by_kind P kinds.End t go es m other name = other es m

module _ (text : List ℕ) (u : IsUtf8 text) where
  abbrev CutsLater : ℕ → Type 0
  CutsLater n =
      (o : ℕ) (p : Position) (es : List Entry) → length (drop o text) < n → o ≤ length text → IsCharBoundary text o → p.offset ≡ o
      → Matches es (answers_from (drop o text) p) → Cuts text o es

  -- these are all names behind a token of so many bytes
  abbrev MatchesBehind : (o k : ℕ) → Position → List Entry → Type 0
  MatchesBehind o k p fs = Matches fs (answers_from (drop (o + k) text) (behind p k (line_ends (take k (drop o text))) 1))

  -- the lexer cuts a text only where characters end
  next_cut : (o k : ℕ) → o ≤ length text → IsCharBoundary text o → (IsUtf8 (drop o text) → IsCharBoundary (drop o text) k) → IsCharBoundary text (o + k)
  next_cut o k le b cut = IsCharBoundary-from_rest text o k le (cut (IsUtf8-drop text o u b))

  cuts : (n : ℕ) → CutsLater n
  cuts zero o p es lt le b at m = absurd (omega (arith, lt))
  cuts (suc n) o p es lt le b at m = go (front_of (drop o text)) refl (cuts n)
    where
      bytes : List ℕ
      bytes = drop o text

      go : (f : Front) → front_of (drop o text) ≡ f → CutsLater n → Cuts text o es
      go fronts.End e ih =
          let none = subst (λ (a : List Answer). Matches es a) (answers_refusal bytes p fronts.End e) m in
          subst (λ (fs : List Entry). Cuts text o fs) (sym none) tt
      go (fronts.Refusal w) e ih = absurd (subst (λ (a : List Answer). Matches es a) (answers_refusal bytes p (fronts.Refusal w) e) m)
      go (fronts.Blank k) e ih =
          let fit = blank_fits bytes k e in
          let some = fit.some in
          let within = fit.within in
          let q = behind p k (line_ends (take k bytes)) 0 in
          let d = answers_blank bytes p k e ∙ ap (λ (x : List ℕ). answers_from x q) (drop_on text o k) in
          cuts_from text o (o + k) es (omega arith)
          (ih (o + k) q es (omega (arith, length-drop (o + k) text, length-drop o text, some, within, lt, le))
          (omega (arith, length-drop o text, within, le)) (next_cut o k le b fit.cut) (ap (λ (i : ℕ). i + k) at)
          (subst (λ (a : List Answer). Matches es a) d m))
      go (fronts.Lexeme kind k) e ih =
          by_kind (Cuts text o) kind (token_at kind (take k bytes) p) (MatchesBehind o k p) es
          (subst (λ (a : List Answer). Matches es a) d m)
          (λ fs h. cuts_from text o (o + k) fs (omega arith) (again fs h))
          (λ x fs first name h.
          let here : x.0 ≡ o = first ∙ at in
          let size : length x.1 ≡ k = ap length name ∙ length-take-le k bytes within in
          let next : o + k ≡ x.0 + length x.1 = omega (arith, here, size) in (
            omega (arith, here),
            subst (IsCharBoundary text) (sym here) b,
            subst (IsCharBoundary text) next cut,
            subst (λ (i : ℕ). Cuts text i fs) next (again fs h),
          ))
        where
          q : Position
          q = behind p k (line_ends (take k (drop o text))) 1

          some : 0 < k
          some = (lexeme_fits bytes kind k e).fits.some

          within : k ≤ length (drop o text)
          within = (lexeme_fits bytes kind k e).fits.within

          cut : IsCharBoundary text (o + k)
          cut = next_cut o k le b (lexeme_fits bytes kind k e).fits.cut

          d : answers_from (drop o text) p
              ≡ Ok (token_at kind (take k (drop o text)) p) ∷ answers_from (drop (o + k) text) (behind p k (line_ends (take k (drop o text))) 1)
          d = answers_lexeme bytes p kind k e ∙ ap (λ (x : List ℕ). Ok (token_at kind (take k bytes) p) ∷ answers_from x q) (drop_on text o k)

          again : (fs : List Entry) → MatchesBehind o k p fs → Cuts text (o + k) fs
          again fs h =
              ih (o + k) q fs (omega (arith, length-drop (o + k) text, length-drop o text, some, within, lt, le))
              (omega (arith, length-drop o text, within, le)) cut (ap (λ (i : ℕ). i + k) at) h

  text_cuts : (es : List Entry) → Matches es (answers_of text) → Cuts text 0 es
  text_cuts es m =
      let k = first_line_len text in
      let p = position_at 1 1 k in
      cuts_from text 0 k es (omega arith)
      (cuts (length (drop k text) + 1) k p es (omega arith) (first_line_within text) (first_line_cut text u) refl
      (subst (λ (a : List Answer). Matches es a) (sym (answers_begin text)) m))

  -- ---- the text with new names

  substituted_utf8 : (o : ℕ) (es : List Entry) → IsCharBoundary text o → Cuts text o es → AreUtf8 es → IsUtf8 (substituted text o es)
  substituted_utf8 o [] b h a = IsUtf8-drop text o u b
  substituted_utf8 o (e ∷ es) b h a = go e.2 a.0 (λ i c k. substituted_utf8 i es c k a.1)
    where
      go : (new : Option (List ℕ)) → IsNewUtf8 new → ((i : ℕ) → IsCharBoundary text i → Cuts text i es → IsUtf8 (substituted text i es))
          → IsUtf8 (substituted_at new text o e.0 (length e.1) (λ next. substituted text next es))
      go None n ih = ih o b (cuts_from text o (e.0 + length e.1) es (omega (arith, h.0)) h.3)
      go (Some new) n ih =
          let next = e.0 + length e.1 in
          IsUtf8-append (take (e.0 - o) (drop o text)) (new ++ substituted text next es) (IsUtf8-between text o e.0 u h.0 b h.1)
          (IsUtf8-append new (substituted text next es) n (ih next h.2 h.3))

pub new_names_utf8 : (text : List ℕ) (es : List Entry) → IsUtf8 text → AreUtf8 es → Matches es (answers_of text) → IsUtf8 (substituted text 0 es)
new_names_utf8 text es u a m = substituted_utf8 text u 0 es (IsCharBoundary-start text u) (text_cuts text u es m) a
