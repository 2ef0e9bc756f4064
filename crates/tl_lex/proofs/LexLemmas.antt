-- The answers before a lexer, front after front.
use Rattle.std.proofs.Common.{◌≡◌, ◌≢◌, ℕ, zero, suc, ◌+◌, ◌<◌, Bool, true, false, cond, List, [], ◌∷◌, length, take, drop, Ok, Err, refl}
use Rattle.std.proofs.Common.{sym, ap, ◌∙◌, subst, arith}
use Rattle.std.proofs.lemmas.List.{length-drop}
use Rattle.tl_lex.specs.LineEnds.{line_ends}
use Rattle.tl_lex.specs.Fronts.{front_of}
use Rattle.tl_lex.specs.Answers.{Answer, Position, token_at, refusal_at}
use Rattle.tl_lex.specs.Lexing.{behind, counted_at, counted, answers_from, behind_first}
use Rattle.tl_lex.specs.declared.TokenKind.{TokenKind}
use Rattle.tl_lex.specs.declared.TokenKind.TheVariants as kinds
use Rattle.tl_lex.specs.declared.front.Front.{Front}
use Rattle.tl_lex.specs.declared.front.Front.TheVariants as fronts
use Rattle.tl_lex.proofs.FrontLemmas.{Fitting, Fine, front_fine, never_end}

-- two ways to go on that agree on all shorter texts
same_at : (f : Front) (bytes : List ℕ) (at : Position) (more more' : List ℕ → Position → List Answer) → Fine bytes f → ((rest : List ℕ) (p : Position) → length rest < length bytes → more rest p ≡ more' rest p) → counted_at f bytes at more ≡ counted_at f bytes at more'
same_at fronts.End bytes at more more' fine h = refl
same_at (fronts.Refusal w) bytes at more more' fine h = refl
same_at (fronts.Blank n) bytes at more more' fine h =
    h (drop n bytes) (behind at n (line_ends (take n bytes)) 0) (omega (arith, length-drop n bytes, fine.some, fine.within))
same_at (fronts.Lexeme kind n) bytes at more more' fine h =
    ap (λ (xs : List Answer). Ok (token_at kind (take n bytes) at) ∷ xs) (h (drop n bytes) (behind at n (line_ends (take n bytes)) 1) (omega (arith, length-drop n bytes, fine.0.some, fine.0.within)))

-- no more fronts come than bytes, and the end
pub counted_fuel : (n m : ℕ) (bytes : List ℕ) (at : Position) → length bytes < n → length bytes < m → counted n bytes at ≡ counted m bytes at
counted_fuel zero m bytes at p q = absurd (omega arith)
counted_fuel (suc n) zero bytes at p q = absurd (omega arith)
counted_fuel (suc n) (suc m) bytes at p q =
    same_at (front_of bytes) bytes at (counted n) (counted m) (front_fine bytes) (λ rest pl lt. counted_fuel n m rest pl (omega arith) (omega arith))

pub answers_step : (bytes : List ℕ) (at : Position) → answers_from bytes at ≡ counted_at (front_of bytes) bytes at answers_from
unfolding answers_from
answers_step bytes at =
    let e : length bytes + 1 ≡ suc (length bytes) = omega arith in
    ap (λ n. counted n bytes at) e
    ∙ same_at (front_of bytes) bytes at (counted (length bytes)) answers_from (front_fine bytes) (λ rest pl lt. counted_fuel (length bytes) (length rest + 1) rest pl lt (omega arith))

-- there is an answer
pub record Some_left (answers : List Answer) : Type 0 where
  pub first : Answer
  pub more : List Answer
  pub is : answers ≡ first ∷ more

some_counted : (n : ℕ) (bytes : List ℕ) (at : Position) → length bytes < n → Some_left (counted n bytes at)
some_counted zero bytes at p = absurd (omega arith)
some_counted (suc n) bytes at p = go (front_of bytes) (front_fine bytes) (λ rest pl lt. some_counted n rest pl lt)
  where
    go : (f : Front) → Fine bytes f → ((rest : List ℕ) (pl : Position) → length rest < n → Some_left (counted n rest pl)) → Some_left (counted_at f bytes at (counted n))
    go fronts.End fine h = record { first = Ok (token_at kinds.End [] at); more = []; is = refl }
    go (fronts.Refusal w) fine h = record { first = Err (refusal_at w at.place); more = []; is = refl }
    go (fronts.Blank k) fine h = h (drop k bytes) (behind at k (line_ends (take k bytes)) 0) (omega (arith, length-drop k bytes, fine.some, fine.within))
    go (fronts.Lexeme kind k) fine h = record {
      first = Ok (token_at kind (take k bytes) at);
      more = counted n (drop k bytes) (behind at k (line_ends (take k bytes)) 1);
      is = refl;
    }

pub some_left : (bytes : List ℕ) (at : Position) → Some_left (answers_from bytes at)
unfolding answers_from
some_left bytes at = some_counted (length bytes + 1) bytes at (omega arith)

-- white space or a comment
pub answers_blank : (bytes : List ℕ) (at : Position) (n : ℕ) → front_of bytes ≡ fronts.Blank n → answers_from bytes at ≡ answers_from (drop n bytes) (behind at n (line_ends (take n bytes)) 0)
answers_blank bytes at n e = answers_step bytes at ∙ ap (λ (f : Front). counted_at f bytes at answers_from) e

-- a token
pub answers_lexeme : (bytes : List ℕ) (at : Position) (kind : TokenKind) (n : ℕ) → front_of bytes ≡ fronts.Lexeme kind n → answers_from bytes at ≡ Ok (token_at kind (take n bytes) at) ∷ answers_from (drop n bytes) (behind at n (line_ends (take n bytes)) 1)
answers_lexeme bytes at kind n e = answers_step bytes at ∙ ap (λ (f : Front). counted_at f bytes at answers_from) e

pub behind_some : (a : Answer) (answers : List Answer) → Some_left answers → behind_first (a ∷ answers) ≡ answers
behind_some a answers s = ap (λ (xs : List Answer). behind_first (a ∷ xs)) s.is ∙ sym s.is

pub answers_refusal : (bytes : List ℕ) (at : Position) (f : Front) → front_of bytes ≡ f → answers_from bytes at ≡ counted_at f bytes at answers_from
answers_refusal bytes at f e = answers_step bytes at ∙ ap (λ (g : Front). counted_at g bytes at answers_from) e

pub blank_fits : (bytes : List ℕ) (n : ℕ) → front_of bytes ≡ fronts.Blank n → Fitting bytes n
blank_fits bytes n e = subst (λ (f : Front). Fine bytes f) e (front_fine bytes)

pub record Token_fits (bytes : List ℕ) (kind : TokenKind) (n : ℕ) : Type 0 where
  pub fits : Fitting bytes n
  pub no_ends : kind ≢ kinds.Literal → line_ends (take n bytes) ≡ 0

pub lexeme_fits : (bytes : List ℕ) (kind : TokenKind) (n : ℕ) → front_of bytes ≡ fronts.Lexeme kind n → Token_fits bytes kind n
lexeme_fits bytes kind n e = let f = subst (λ (g : Front). Fine bytes g) e (front_fine bytes) in record { fits = f.0; no_ends = f.1 }

pub word_bound : (b : Bool) (w r m : ℕ) → w + r < m → 1 + r < m → cond b w 1 + r < m
word_bound true w r m p q = p
word_bound false w r m p q = q

pub end_empty : (bytes : List ℕ) → front_of bytes ≡ fronts.End → bytes ≡ []
end_empty [] e = refl
end_empty (c ∷ rest) e = absurd (never_end c rest e)
