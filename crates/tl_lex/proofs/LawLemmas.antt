-- The laws of the division of texts.
use Rattle.std.proofs.Common.{◌≡◌, ℕ, zero, suc, ◌+◌, ◌<◌, ◌≤◌, true, List, [], ◌∷◌, ◌++◌, length, take, drop, Ok, refl, sym, ap, ◌∙◌}
use Rattle.std.proofs.Common.{subst, append_assoc, arith}
use Rattle.std.proofs.lemmas.List.{length-drop, length-take-le, take-append-drop, drop_at}
use Rattle.tl_lex.specs.Fronts.{front_of}
use Rattle.tl_lex.specs.Answers.{Token, Answer, Position, token_at, position_behind, answers_at, answers_behind, first_line_len, answers_of}
use Rattle.tl_lex.specs.LineEnds.{line_ends}
use Rattle.tl_lex.specs.Lexing.{answers_from, answers_left, behind, counted, counted_at, position_of}
use Rattle.tl_lex.specs.declared.lexer.Lexer as lexers
use Rattle.tl_lex.specs.Tokens.{is_token}
use Rattle.tl_lex.specs.Laws.{Goes, Divides, HasOneDivision, IsToken, EndsOnce, AreSlices, IsLongestToken}
use Rattle.tl_lex.specs.declared.TokenKind.{TokenKind}
use Rattle.tl_lex.specs.declared.TokenKind.TheVariants as kinds
use Rattle.tl_lex.specs.declared.front.Front.{Front}
use Rattle.tl_lex.specs.declared.front.Front.TheVariants as fronts
use Rattle.tl_lex.proofs.FrontLemmas.{Fine, front_fine, bytes_same}
use Rattle.tl_lex.proofs.LexLemmas.{lexeme_fits}
use Rattle.tl_lex.proofs.LongestLemmas.{token_no_longer}
use Rattle.tl_lex.proofs.TokenLemmas.{token_spelt}

-- some list of fronts divides the bytes
divide : (n : ℕ) (bytes : List ℕ) → length bytes < n → (fs : List Front) × Divides fs bytes
divide zero bytes lt = absurd (omega arith)
divide (suc n) bytes lt = go (front_of bytes) refl (front_fine bytes) (divide n)
  where
    go : (f : Front) → front_of bytes ≡ f → Fine bytes f → ((b : List ℕ) → length b < n → (fs : List Front) × Divides fs b) → (fs : List Front) × Divides fs bytes
    go fronts.End e fine ih = (fronts.End ∷ [], (e, refl))
    go (fronts.Refusal w) e fine ih = (fronts.Refusal w ∷ [], (e, refl))
    go (fronts.Blank k) e fine ih =
        let more = ih (drop k bytes) (omega (arith, length-drop k bytes, fine.some, fine.within)) in
        (fronts.Blank k ∷ more.0, (e, more.1))
    go (fronts.Lexeme kind k) e fine ih =
        let more = ih (drop k bytes) (omega (arith, length-drop k bytes, fine.0.some, fine.0.within)) in
        (fronts.Lexeme kind k ∷ more.0, (e, more.1))

-- and no other
alone : (fs gs : List Front) (bytes : List ℕ) → Divides fs bytes → Divides gs bytes → gs ≡ fs
alone [] gs bytes d h = absurd d
alone (f ∷ fs) [] bytes d h = absurd h
alone (f ∷ fs) (g ∷ gs) bytes d h = ap (λ k. k ∷ gs) same ∙ ap (λ l. f ∷ l) (go f d.1 (subst (λ (k : Front). Goes k gs bytes (Divides gs)) same h.1) (alone fs gs))
  where
    same : g ≡ f
    same = sym h.0 ∙ d.0

    go : (k : Front) → Goes k fs bytes (Divides fs) → Goes k gs bytes (Divides gs) → ((b : List ℕ) → Divides fs b → Divides gs b → gs ≡ fs) → gs ≡ fs
    go fronts.End p q ih = q ∙ sym p
    go (fronts.Refusal w) p q ih = q ∙ sym p
    go (fronts.Blank n) p q ih = ih (drop n bytes) p q
    go (fronts.Lexeme kind n) p q ih = ih (drop n bytes) p q

pub one_division : (bytes : List ℕ) → HasOneDivision bytes
one_division bytes =
    let d = divide (length bytes + 1) bytes (omega arith) in
    (d.0, d.1, λ gs h. alone d.0 gs bytes d.1 h)

-- ---- the answers

ends_cons : (a : Answer) (more : List Answer) → IsToken a → EndsOnce more → EndsOnce (a ∷ more)
ends_cons a [] t h = absurd h
ends_cons a (b ∷ more) t h = (t, h)

no_end_token : (bytes : List ℕ) → is_token kinds.End bytes ≡ true → bytes ≡ []
unfolding is_token
no_end_token bytes e = bytes_same bytes [] e

-- the end is no token of a text
never_end_token : (bytes : List ℕ) (kind : TokenKind) (len : ℕ) → front_of bytes ≡ fronts.Lexeme kind len → kind ≡ kinds.End → ⊥
never_end_token bytes kind len e k =
    let f = lexeme_fits bytes kind len e in
    let n = no_end_token (take len bytes) (ap (λ (x : TokenKind). is_token x (take len bytes)) (sym k) ∙ token_spelt bytes kind len e) in
    let l : length (take len bytes) ≡ 0 = ap length n in
    absurd (omega (arith, f.fits.some, length-take-le len bytes f.fits.within))

ends_behind : (n : ℕ) (passed : List ℕ) (tokens : List Token) (bytes : List ℕ) → length bytes < n → EndsOnce (answers_behind n passed tokens bytes)
ends_behind zero passed tokens bytes lt = absurd (omega arith)
ends_behind (suc n) passed tokens bytes lt = go (front_of bytes) refl (front_fine bytes) (ends_behind n)
  where
    go : (f : Front) → front_of bytes ≡ f → Fine bytes f → ((p : List ℕ) (ts : List Token) (b : List ℕ) → length b < n → EndsOnce (answers_behind n p ts b)) → EndsOnce (answers_at f passed tokens bytes (answers_behind n))
    go fronts.End e fine ih = refl
    go (fronts.Refusal w) e fine ih = tt
    go (fronts.Blank k) e fine ih = ih (passed ++ take k bytes) tokens (drop k bytes) (omega (arith, length-drop k bytes, fine.some, fine.within))
    go (fronts.Lexeme kind k) e fine ih =
        ends_cons (Ok (token_at kind (take k bytes) (position_behind passed tokens))) (answers_behind n (passed ++ take k bytes) (tokens ++ token_at kind (take k bytes) (position_behind passed tokens) ∷ []) (drop k bytes)) (never_end_token bytes kind k e)
        (ih (passed ++ take k bytes) (tokens ++ token_at kind (take k bytes) (position_behind passed tokens) ∷ []) (drop k bytes) (omega (arith, length-drop k bytes, fine.0.some, fine.0.within)))

pub ends_once : (text : List ℕ) → EndsOnce (answers_of text)
unfolding answers_of
ends_once text =
    ends_behind (length text + 1) (take (first_line_len text) text) [] (drop (first_line_len text) text) (omega (arith, length-drop (first_line_len text) text))

ends_counted : (n : ℕ) (bytes : List ℕ) (at : Position) → length bytes < n → EndsOnce (counted n bytes at)
ends_counted zero bytes at lt = absurd (omega arith)
ends_counted (suc n) bytes at lt = go (front_of bytes) refl (front_fine bytes) (ends_counted n)
  where
    go : (f : Front) → front_of bytes ≡ f → Fine bytes f → ((b : List ℕ) (p : Position) → length b < n → EndsOnce (counted n b p)) → EndsOnce (counted_at f bytes at (counted n))
    go fronts.End e fine ih = refl
    go (fronts.Refusal w) e fine ih = tt
    go (fronts.Blank k) e fine ih =
        ih (drop k bytes) (behind at k (line_ends (take k bytes)) 0) (omega (arith, length-drop k bytes, fine.some, fine.within))
    go (fronts.Lexeme kind k) e fine ih =
        ends_cons (Ok (token_at kind (take k bytes) at)) (counted n (drop k bytes) (behind at k (line_ends (take k bytes)) 1)) (never_end_token bytes kind k e)
        (ih (drop k bytes) (behind at k (line_ends (take k bytes)) 1) (omega (arith, length-drop k bytes, fine.0.some, fine.0.within)))

-- the same of what a lexer has before it, wherever that stands
pub ends_left : (l : lexers.Lexer) → EndsOnce (answers_left l)
unfolding answers_from
ends_left l = ends_counted (length l.rest.now + 1) l.rest.now (position_of l) (omega arith)

-- the bytes at the front of what is left are a slice of the text
slice_is : (text passed bytes : List ℕ) (k : ℕ) → k ≤ length bytes → passed ++ bytes ≡ text → take k bytes ≡ take (length (take k bytes)) (drop (length passed) text)
slice_is text passed bytes k le e =
    let size = length-take-le k bytes le in
    sym (ap (λ (x : List ℕ). take (length (take k bytes)) (drop (length passed) x)) (sym e)
    ∙ ap (λ (x : List ℕ). take (length (take k bytes)) x) (drop_at passed bytes (length passed) refl)
    ∙ ap (λ (n : ℕ). take n bytes) size)

passed_on : (text passed bytes : List ℕ) (k : ℕ) → passed ++ bytes ≡ text → (passed ++ take k bytes) ++ drop k bytes ≡ text
passed_on text passed bytes k e = append_assoc passed (take k bytes) (drop k bytes) ∙ ap (λ (x : List ℕ). passed ++ x) (take-append-drop k bytes) ∙ e

slices_behind : (text : List ℕ) (n : ℕ) (passed : List ℕ) (tokens : List Token) (bytes : List ℕ) → passed ++ bytes ≡ text → AreSlices text (answers_behind n passed tokens bytes)
slices_behind text zero passed tokens bytes e = tt
slices_behind text (suc n) passed tokens bytes e = go (front_of bytes) (front_fine bytes) (slices_behind text n)
  where
    go : (f : Front) → Fine bytes f → ((p : List ℕ) (ts : List Token) (b : List ℕ) → p ++ b ≡ text → AreSlices text (answers_behind n p ts b)) → AreSlices text (answers_at f passed tokens bytes (answers_behind n))
    go fronts.End fine ih = (refl, tt)
    go (fronts.Refusal w) fine ih = (tt, tt)
    go (fronts.Blank k) fine ih = ih (passed ++ take k bytes) tokens (drop k bytes) (passed_on text passed bytes k e)
    go (fronts.Lexeme kind k) fine ih =
        (slice_is text passed bytes k fine.0.within e, ih (passed ++ take k bytes) (tokens ++ token_at kind (take k bytes) (position_behind passed tokens) ∷ []) (drop k bytes) (passed_on text passed bytes k e))

pub slices : (text : List ℕ) → AreSlices text (answers_of text)
unfolding answers_of
slices text = slices_behind text (length text + 1) (take (first_line_len text) text) [] (drop (first_line_len text) text) (take-append-drop (first_line_len text) text)

pub longest_token : (bytes : List ℕ) (kind : TokenKind) (len : ℕ) → front_of bytes ≡ fronts.Lexeme kind len → IsLongestToken bytes kind len
longest_token bytes kind len e = record { token = token_spelt bytes kind len e; longest = token_no_longer bytes kind len e }
