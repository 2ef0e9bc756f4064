-- The uses of single tokens.
use Rattle.std.specs.Prelude.{ℕ, Bool, true, false, List, [], ◌∷◌, ◌==◌, ◌||◌, ◌&&◌, if◌then◌else◌, Option, Some, None}
use Rattle.tl_lex.specs.declared.SyntaxKind.{SyntaxKind}
use Rattle.tl_lex.specs.declared.TokenKind.{TokenKind}
use Rattle.tl_lex.specs.declared.TokenKind.TheVariants as kinds
use Rattle.tl_lex.specs.declared.SyntaxKind.TheVariants as why
use Rattle.tl_tree.specs.declared.symbol.Symbol.{Symbol}
use Rattle.tl_tree.specs.declared.symbol.Symbol.TheVariants as symbols
use Rattle.tl_tree.specs.declared.mode.TokenUse.{TokenUse}
use Rattle.tl_tree.specs.declared.mode.TokenUse.TheVariants.{Plain, Continues, Calls, LuaNumber, TerraNumber}
use Rattle.tl_tree.specs.Tokens.{Token, among, is}
use Rattle.tl_tree.specs.Tree.{Tree, Part, FunctionBody}
use Rattle.tl_tree.specs.Grammar.{Grammar, Outcome, Took, Stop, blame, run, below, bar, is_of, unless, calls}
use Rattle.tl_tree.specs.Grammar.{chain_too_long}
use Rattle.tl_tree.specs.Syntax.{syntax_of}

-- the symbol of the next token, or of the end
abbrev pub symbol_at : List Token → Symbol
symbol_at [] = symbols.Finish
symbol_at (t ∷ ts) = t.symbol

-- reading a grammar, with so many levels left
abbrev pub reading : {A : Type 0} → ℕ → Grammar A → List Token → Outcome A
reading levels g ts = run levels (λ part us. below syntax_of levels part us) g ts

-- reading a part, with so many levels left in it
unfoldable pub part_at : ℕ → Part → List Token → Outcome Tree
part_at levels part ts = reading levels (syntax_of part) ts

-- the kind of the end of a text, which is no token of the grammar
abbrev pub is_end : TokenKind → Bool
is_end kinds.End = true
is_end _ = false

-- the limits on a token that opens a level or doesn't
abbrev pub barred : Bool → ℕ → TokenUse → Token → Option SyntaxKind
barred opens levels usage t = bar (record {
  opens = if opens then Some FunctionBody
      else None;
  levels = levels;
  usage = usage;
}) t

-- what the limits say of a use of a token that is first on its line or isn't
abbrev pub bar_of : Bool → ℕ → TokenUse → Bool → Option SyntaxKind
bar_of opens levels usage first =
    if (opens && (levels == 0)) || chain_too_long usage then Some why.TooDeep else (if calls usage && first then
    Some why.Ambiguous else None)

-- A token of a class, which may open a level where so many are left, and what else it does.
unfoldable pub used : (Token → Bool) → Bool → ℕ → TokenUse → List Token → Outcome Token
used class opens levels usage [] = Stop why.Unexpected []
used class opens levels usage (t ∷ ts) = if is_of class t then unless (barred opens levels usage t) (t ∷ ts) (Took t ts)
    else Stop (blame t.symbol) (t ∷ ts)

-- a token with this symbol
unfoldable pub sign_at : Symbol → List Token → Outcome Token
sign_at s ts = used (is s) false 0 Plain ts

-- a token with one of these symbols
unfoldable pub sign_among_at : List Symbol → List Token → Outcome Token
sign_among_at ss ts = used (among ss) false 0 Plain ts

-- a token with a symbol that opens a level
unfoldable pub open_at : Symbol → ℕ → List Token → Outcome Token
open_at s levels ts = used (is s) true levels Plain ts

-- a token with one of these symbols that opens a level
unfoldable pub prefix_at : List Symbol → ℕ → List Token → Outcome Token
prefix_at ss levels ts = used (among ss) true levels Plain ts

-- the same where it continues a chain
unfoldable pub operator_at : List Symbol → ℕ → List Token → Outcome Token
operator_at ss links ts = used (among ss) false 0 (Continues links) ts

-- a token with this symbol that opens a level and continues a chain
unfoldable pub raise_at : Symbol → ℕ → ℕ → List Token → Outcome Token
raise_at s levels links ts = used (is s) true levels (Continues links) ts

-- a bracket that calls what is before it
unfoldable pub call_at : ℕ → ℕ → List Token → Outcome Token
call_at levels links ts = used (is symbols.OpenParen) true levels (Calls links) ts

-- a number of Lua code
unfoldable pub number_at : List Token → Outcome Token
number_at ts = used (is symbols.Numeral) false 0 LuaNumber ts

abbrev pub is_number : TokenUse → Bool
is_number LuaNumber = true
is_number TerraNumber = true
is_number _ = false
