-- Numbers of Terra code and their limits.
use Rattle.std.proofs.Common.{◌≡◌, ℕ, ◌<◌, Bool, true, false, cond, List, [], ◌∷◌, Some, None, refl, sym, ap, subst, ◌∙◌, arith}
use Rattle.std.proofs.lemmas.Bool.{lt-ltb, ltb-false}
use Rattle.std.specs.Prelude.{nat_lt}
use Rattle.tl_lex.specs.declared.SyntaxKind.TheVariants as why
use Rattle.tl_lex.specs.Lexing.{answers_left}
use Rattle.tl_tree.specs.declared.mode.TokenUse.TheVariants.{Plain, TerraNumber}
use Rattle.tl_tree.specs.Symbols.{is_bad}
use Rattle.tl_tree.specs.Numbers.{fitting, value_of, largest_terra}
use Rattle.tl_tree.specs.Tokens.{Token, among, tokens_in}
use Rattle.tl_tree.specs.TerraExpressions.{terra_numerals}
use Rattle.tl_tree.specs.Grammar.{Outcome, Took, Stop, begins, is_of, unless, blame}
use Rattle.tl_parse.specs.Views.Parsing.{token_of, with_token_by, tokens_left, Fails, TookToken}
use Rattle.tl_parse.specs.Views.Using.{used}
use Rattle.tl_parse.specs.Views.Taking.{Uses, Barred}
use Rattle.tl_parse.specs.declared.error.SyntaxError.{SyntaxError}
use Rattle.tl_parse.specs.declared.error.SyntaxError.TheVariants as errors
use Rattle.tl_parse.specs.declared.parser.Parser.{Parser}
use Rattle.tl_parse.specs.declared.parser.Next as code
use Rattle.tl_parse.proofs.Taking.{next_of, refused_there}

-- a number that has 64 bits at most
pub fits_above : (value n : ℕ) → Some value ≡ fitting n → value ≡ n
fits_above value n h = go (nat_lt n 18446744073709551616) h
  where
    go : (b : Bool) → Some value ≡ cond b (Some n) None → value ≡ n
    go true h = cc
    go false h = absurd cc

-- a number that has more is above each limit of 64 bits
pub exceeds : (limit n : ℕ) → limit < 18446744073709551616 → None ≡ fitting n → true ≡ nat_lt limit n
exceeds limit n below h = go (nat_lt n 18446744073709551616) refl h
  where
    go : (b : Bool) → nat_lt n 18446744073709551616 ≡ b → None ≡ cond b (Some n) None → true ≡ nat_lt limit n
    go true e h = absurd cc
    go false e h = let k = ltb-false n 18446744073709551616 e in sym (lt-ltb limit n (omega arith))

-- ---- numerals of Terra code

terra_use : (t : Token) (ts : List Token) (b : Bool) → nat_lt (largest_terra t.symbol) (value_of t.text) ≡ b → used (among terra_numerals) false 0 TerraNumber (t ∷ ts) ≡ cond (is_of (among terra_numerals) t) (unless (cond b (Some why.BadNumber) None) (t ∷ ts) (Took t ts)) (Stop (blame t.symbol) (t ∷ ts))
unfolding used
terra_use t ts b e = ap (λ (c : Bool). cond (is_of (among terra_numerals) t) (unless (cond c (Some why.BadNumber) None) (t ∷ ts) (Took t ts)) (Stop (blame t.symbol) (t ∷ ts))) e

plain_terra_use : (t : Token) (ts : List Token) → used (among terra_numerals) false 0 Plain (t ∷ ts) ≡ cond (is_of (among terra_numerals) t) (Took t ts) (Stop (blame t.symbol) (t ∷ ts))
unfolding used
plain_terra_use t ts = refl

within_terra : (p : Parser) → begins (among terra_numerals) (tokens_left p) ≡ true → nat_lt (largest_terra p.current.symbol) (value_of p.current.text.now) ≡ false → used (among terra_numerals) false 0 TerraNumber (tokens_left p) ≡ used (among terra_numerals) false 0 Plain (tokens_left p)
unfolding tokens_left
within_terra p h small = go p.current.is_end (is_bad p.current.symbol) h
  where
    ts : List Token
    ts = (tokens_in (answers_left p.lexer)).tokens

    go : (e b : Bool) → begins (among terra_numerals) (with_token_by e b (token_of p.current) ts) ≡ true → used (among terra_numerals) false 0 TerraNumber (with_token_by e b (token_of p.current) ts) ≡ used (among terra_numerals) false 0 Plain (with_token_by e b (token_of p.current) ts)
    go true b h = absurd cc
    go false true h = terra_use (token_of p.current) [] false small ∙ sym (plain_terra_use (token_of p.current) [])
    go false false h = terra_use (token_of p.current) ts false small ∙ sym (plain_terra_use (token_of p.current) ts)

pub taken_terra_number : (old new : Parser) (t : code.Next) → begins (among terra_numerals) (tokens_left old) ≡ true → nat_lt (largest_terra old.current.symbol) (value_of old.current.text.now) ≡ false → Uses false 0 Plain old new t → TookToken old new (used (among terra_numerals) false 0 TerraNumber (tokens_left old)) t
taken_terra_number old new t h small u = record { took = within_terra old h small ∙ u.took (among terra_numerals) h; finish = u.finish; items = u.items }

pub too_large_for_terra : (p : Parser) → begins (among terra_numerals) (tokens_left p) ≡ true → nat_lt (largest_terra p.current.symbol) (value_of p.current.text.now) ≡ true → Fails p (used (among terra_numerals) false 0 TerraNumber (tokens_left p)) (errors.Refused why.BadNumber p.current.place)
unfolding tokens_left
too_large_for_terra p h large = go p.current.is_end (is_bad p.current.symbol) h
  where
    ts : List Token
    ts = (tokens_in (answers_left p.lexer)).tokens

    stop : (us : List Token) → is_of (among terra_numerals) (token_of p.current) ≡ true → used (among terra_numerals) false 0 TerraNumber (token_of p.current ∷ us) ≡ Stop why.BadNumber (token_of p.current ∷ us)
    stop us h = terra_use (token_of p.current) us true large ∙ ap (λ (c : Bool). cond c (Stop why.BadNumber (token_of p.current ∷ us)) (Stop (blame p.current.symbol) (token_of p.current ∷ us))) h

    go : (e b : Bool) → begins (among terra_numerals) (with_token_by e b (token_of p.current) ts) ≡ true → Fails p (used (among terra_numerals) false 0 TerraNumber (with_token_by e b (token_of p.current) ts)) (errors.Refused why.BadNumber p.current.place)
    go true b h = absurd cc
    go false true h = record { where_it_does = record { left = token_of p.current ∷ []; stops = stop [] h; at = refl } }
    go false false h = record { where_it_does = record { left = token_of p.current ∷ ts; stops = stop ts h; at = refl } }

pub barred_terra_number : (p : Parser) (e : SyntaxError) → begins (among terra_numerals) (tokens_left p) ≡ true → nat_lt (largest_terra p.current.symbol) (value_of p.current.text.now) ≡ false → Barred false 0 Plain p e → Fails p (used (among terra_numerals) false 0 TerraNumber (tokens_left p)) e
barred_terra_number p e h small b = subst (λ (o : Outcome Token). Fails p o e) (sym (within_terra p h small)) (b.fails (among terra_numerals) h)

pub ruleset above = (fits_above, exceeds)

pub ruleset numbers = (taken_terra_number, too_large_for_terra, barred_terra_number, refused_there, next_of)
