-- A token is taken where the limits allow its use, and else refused.
use Rattle.std.specs.Prelude.{◌≡◌, ℕ, Bool, true, List, [], ◌∷◌, Option, None}
use Rattle.tl_lex.specs.declared.SyntaxKind.{SyntaxKind}
use Rattle.tl_tree.specs.declared.mode.TokenUse.{TokenUse}
use Rattle.tl_tree.specs.Tokens.{Token}
use Rattle.tl_tree.specs.Grammar.{Took, begins}
use Rattle.tl_parse.specs.Views.Parsing.{token_of, tokens_left, end_of, items_of, Fails}
use Rattle.tl_parse.specs.Views.Using.{barred, used}
use Rattle.tl_parse.specs.declared.error.SyntaxError.{SyntaxError}
use Rattle.tl_parse.specs.declared.parser.Parser.{Parser}
use Rattle.tl_parse.specs.declared.parser.Next as code

-- what the limits say of a use of the next token
abbrev pub barred_next : Bool → ℕ → TokenUse → List Token → Option SyntaxKind
barred_next opens levels usage [] = None
barred_next opens levels usage (t ∷ ts) = barred opens levels usage t

-- The token was first, and the limits allow this use of it. So it is taken wherever it is of the class that is wanted.
pub record Uses (opens : Bool) (levels : ℕ) (usage : TokenUse) (old new : Parser) (t : code.Next) : Type 0 where
  pub allowed : barred_next opens levels usage (tokens_left old) ≡ None
  pub took : (class : Token → Bool) → begins class (tokens_left old) ≡ true
      → used class opens levels usage (tokens_left old) ≡ Took (token_of t) (tokens_left new)
  pub finish : end_of new ≡ end_of old
  pub items : items_of new ≡ items_of old

-- The limits refuse this use of the token, wherever it is of the class that is wanted.
pub record Barred (opens : Bool) (levels : ℕ) (usage : TokenUse) (old : Parser) (e : SyntaxError) : Type 0 where
  pub fails : (class : Token → Bool) → begins class (tokens_left old) ≡ true
      → Fails old (used class opens levels usage (tokens_left old)) e
