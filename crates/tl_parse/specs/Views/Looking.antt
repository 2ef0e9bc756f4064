-- One token ahead.
use Rattle.std.specs.Prelude.{◌≡◌, ℕ, false, List, [], ◌∷◌, Result, Ok, Err}
use Rattle.tl_lex.specs.declared.LexError.{LexError}
use Rattle.tl_lex.specs.declared.token.Token as lexed
use Rattle.tl_lex.specs.Lexing as lexing
use Rattle.tl_tree.specs.Tokens as tokens
use Rattle.tl_tree.specs.Tokens.{Token, tokens_of, finish_of}
use Rattle.tl_parse.specs.Views.Using.{is_end}
use Rattle.tl_parse.specs.Views.Parsing.{token_of, tokens_left, end_of, items_of}
use Rattle.tl_parse.specs.declared.parser.Parser.{Parser}
use Rattle.tl_parse.specs.declared.parser.Next as code

-- the token is what the lexer answered
abbrev pub IsNext : Result lexed.Token LexError → code.Next → Type 0
IsNext (Ok t) next = (token_of next ≡ tokens.token_of (lexing.token_of t)) × (next.is_end ≡ is_end t.kind)
IsNext (Err e) next = (token_of next ≡ tokens.bad_token e) × (next.is_end ≡ false)

-- the parser is before the first token of a text
pub record BeginsAt (text : List ℕ) (p : Parser) : Type 0 where
  pub tokens : tokens_left p ≡ tokens_of text
  pub finish : end_of p ≡ finish_of text
  pub items : items_of p ≡ []

-- the token that was first is taken
pub record Advanced (old new : Parser) (t : code.Next) : Type 0 where
  pub tokens : tokens_left old ≡ token_of t ∷ tokens_left new
  pub finish : end_of new ≡ end_of old
  pub items : items_of new ≡ items_of old
