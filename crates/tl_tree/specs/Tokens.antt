-- The tokens of a text as the grammar sees them.
use Rattle.std.specs.Prelude.{ℕ, Bool, false, List, [], ◌∷◌, ◌==◌, Ok, Err}
use Rattle.tl_base.specs.declared.place.Place.{Place}
use Rattle.tl_lex.specs.Answers as lexed
use Rattle.tl_lex.specs.declared.LexError.{LexError}
use Rattle.tl_lex.specs.declared.TokenKind.{TokenKind}
use Rattle.tl_lex.specs.declared.TokenKind.TheVariants as kinds
use Rattle.tl_tree.specs.Symbols.{spelling, number_of, has, symbol_of}
use Rattle.tl_tree.specs.declared.symbol.Symbol.{Symbol}
use Rattle.tl_tree.specs.declared.symbol.Symbol.TheVariants as symbols

pub record Token : Type 0 where
  pub symbol : Symbol
  pub text : List ℕ
  pub place : Place
  -- how many bytes of the text are before it
  pub offset : ℕ
  pub first_on_line : Bool

abbrev pub token_of : lexed.Token → Token
token_of t = record {
  symbol = symbol_of t.kind t.text;
  text = t.text;
  place = t.place;
  offset = t.offset;
  first_on_line = t.first_on_line;
}

-- the token that breaks a rule of tokens; no tree has its offset
abbrev pub bad_token : LexError → Token
bad_token e = record {
  symbol = symbols.Bad e.kind;
  text = [];
  place = e.place;
  offset = 0;
  first_on_line =
      e.place.word == 1;
}

-- A list of tokens, and the place where the text behind them ends.
pub record Tokens : Type 0 where
  pub tokens : List Token
  pub finish : Place

abbrev pub put_first : Token → Tokens → Tokens
put_first t more = record { tokens = t ∷ more.tokens; finish = more.finish }

-- the end token is no token of the grammar: its place is where the text ends
abbrev pub put_answer : TokenKind → lexed.Token → Tokens → Tokens
put_answer kinds.End t more = record { tokens = []; finish = t.place }
put_answer _ t more = put_first (token_of t) more

-- the tokens that answers of the lexer give, up to the end or to the token that breaks a rule, which is the last
abbrev pub tokens_in : List lexed.Answer → Tokens
tokens_in [] = record { tokens = []; finish = record { line = 1; word = 1 } }
tokens_in (Ok t ∷ more) = put_answer t.kind t (tokens_in more)
tokens_in (Err e ∷ more) = record { tokens = bad_token e ∷ []; finish = e.place }

-- the tokens of a text
abbrev pub tokens_of : List ℕ → List Token
tokens_of text = (tokens_in (lexed.answers_of text)).tokens

-- where the text ends
abbrev pub finish_of : List ℕ → Place
finish_of text = (tokens_in (lexed.answers_of text)).finish

-- the place of the first of these tokens, or this one, where the text ends, if there is none
abbrev pub place_of : List Token → Place → Place
place_of [] finish = finish
place_of (t ∷ ts) finish = t.place

-- ---- classes of tokens

-- The token has one of these symbols.
abbrev pub among : List Symbol → Token → Bool
among ss t = has ss (number_of t.symbol)

abbrev pub is : Symbol → Token → Bool
is s t = among (s ∷ []) t

-- a token with this symbol, for the shortest text that goes on
abbrev pub sample : Symbol → Token
sample s = record {
  symbol = s;
  text = spelling s;
  place = record { line = 0; word = 0 };
  offset = 0;
  first_on_line =
      false;
}
