-- Numbers and their limits.
use Rattle.std.proofs.Common.{◌≡◌, Bool, true, false, cond, List, [], ◌∷◌, Some, None, refl, sym, ap, subst, ◌∙◌}
use Rattle.std.specs.Prelude.{nat_lt}
use Rattle.tl_lex.specs.declared.SyntaxKind.TheVariants as why
use Rattle.tl_lex.specs.Lexing.{answers_left}
use Rattle.tl_tree.specs.declared.symbol.Symbol.TheVariants as symbols
use Rattle.tl_tree.specs.declared.mode.TokenUse.TheVariants.{Plain, LuaNumber}
use Rattle.tl_tree.specs.Symbols.{is_bad}
use Rattle.tl_tree.specs.Numbers.{value_of, largest_lua}
use Rattle.tl_tree.specs.Tokens.{Token, is, tokens_in}
use Rattle.tl_tree.specs.Grammar.{Outcome, Took, Stop, begins, is_of, unless, blame}
use Rattle.tl_parse.specs.Views.Parsing.{token_of, with_token_by, tokens_left, Fails, TookToken}
use Rattle.tl_parse.specs.Views.Using.{used}
use Rattle.tl_parse.specs.Views.Taking.{Uses, Barred}
use Rattle.tl_parse.specs.declared.error.SyntaxError.{SyntaxError}
use Rattle.tl_parse.specs.declared.error.SyntaxError.TheVariants as errors
use Rattle.tl_parse.specs.declared.parser.Parser.{Parser}
use Rattle.tl_parse.specs.declared.parser.Next as code
use Rattle.tl_parse.proofs.Taking.{next_of, refused_there}

-- ---- numerals where the grammar takes a number

number_use : (t : Token) (ts : List Token) (b : Bool) → nat_lt largest_lua (value_of t.text) ≡ b → used (is symbols.Numeral) false 0 LuaNumber (t ∷ ts) ≡ cond (is_of (is symbols.Numeral) t) (unless (cond b (Some why.BadNumber) None) (t ∷ ts) (Took t ts)) (Stop (blame t.symbol) (t ∷ ts))
unfolding used
number_use t ts b e = ap (λ (c : Bool). cond (is_of (is symbols.Numeral) t) (unless (cond c (Some why.BadNumber) None) (t ∷ ts) (Took t ts)) (Stop (blame t.symbol) (t ∷ ts))) e

plain_use : (t : Token) (ts : List Token) → used (is symbols.Numeral) false 0 Plain (t ∷ ts) ≡ cond (is_of (is symbols.Numeral) t) (Took t ts) (Stop (blame t.symbol) (t ∷ ts))
unfolding used
plain_use t ts = refl

within : (p : Parser) → begins (is symbols.Numeral) (tokens_left p) ≡ true → nat_lt largest_lua (value_of p.current.text.now) ≡ false → used (is symbols.Numeral) false 0 LuaNumber (tokens_left p) ≡ used (is symbols.Numeral) false 0 Plain (tokens_left p)
unfolding tokens_left
within p h small = go p.current.is_end (is_bad p.current.symbol) h
  where
    ts : List Token
    ts = (tokens_in (answers_left p.lexer)).tokens

    go : (e b : Bool) → begins (is symbols.Numeral) (with_token_by e b (token_of p.current) ts) ≡ true → used (is symbols.Numeral) false 0 LuaNumber (with_token_by e b (token_of p.current) ts) ≡ used (is symbols.Numeral) false 0 Plain (with_token_by e b (token_of p.current) ts)
    go true b h = absurd cc
    go false true h = number_use (token_of p.current) [] false small ∙ sym (plain_use (token_of p.current) [])
    go false false h = number_use (token_of p.current) ts false small ∙ sym (plain_use (token_of p.current) ts)

pub taken_number : (old new : Parser) (t : code.Next) → begins (is symbols.Numeral) (tokens_left old) ≡ true → nat_lt largest_lua (value_of old.current.text.now) ≡ false → Uses false 0 Plain old new t → TookToken old new (used (is symbols.Numeral) false 0 LuaNumber (tokens_left old)) t
taken_number old new t h small u = record { took = within old h small ∙ u.took (is symbols.Numeral) h; finish = u.finish; items = u.items }

pub too_large : (p : Parser) → begins (is symbols.Numeral) (tokens_left p) ≡ true → nat_lt largest_lua (value_of p.current.text.now) ≡ true → Fails p (used (is symbols.Numeral) false 0 LuaNumber (tokens_left p)) (errors.Refused why.BadNumber p.current.place)
unfolding tokens_left
too_large p h large = go p.current.is_end (is_bad p.current.symbol) h
  where
    ts : List Token
    ts = (tokens_in (answers_left p.lexer)).tokens

    stop : (us : List Token) → is_of (is symbols.Numeral) (token_of p.current) ≡ true → used (is symbols.Numeral) false 0 LuaNumber (token_of p.current ∷ us) ≡ Stop why.BadNumber (token_of p.current ∷ us)
    stop us h = number_use (token_of p.current) us true large ∙ ap (λ (c : Bool). cond c (Stop why.BadNumber (token_of p.current ∷ us)) (Stop (blame p.current.symbol) (token_of p.current ∷ us))) h

    go : (e b : Bool) → begins (is symbols.Numeral) (with_token_by e b (token_of p.current) ts) ≡ true → Fails p (used (is symbols.Numeral) false 0 LuaNumber (with_token_by e b (token_of p.current) ts)) (errors.Refused why.BadNumber p.current.place)
    go true b h = absurd cc
    go false true h = record { where_it_does = record { left = token_of p.current ∷ []; stops = stop [] h; at = refl } }
    go false false h = record { where_it_does = record { left = token_of p.current ∷ ts; stops = stop ts h; at = refl } }

pub barred_number : (p : Parser) (e : SyntaxError) → begins (is symbols.Numeral) (tokens_left p) ≡ true → nat_lt largest_lua (value_of p.current.text.now) ≡ false → Barred false 0 Plain p e → Fails p (used (is symbols.Numeral) false 0 LuaNumber (tokens_left p)) e
barred_number p e h small b = subst (λ (o : Outcome Token). Fails p o e) (sym (within p h small)) (b.fails (is symbols.Numeral) h)

pub ruleset numbers = (taken_number, too_large, barred_number, refused_there, next_of)
