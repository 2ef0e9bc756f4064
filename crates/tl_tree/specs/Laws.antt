-- The language of whole texts, and that reading has one answer.
use Rattle.std.specs.Prelude.{◌≡◌, ℕ, true, List, map, ◌⊎◌}
use Rattle.tl_lex.specs.Tokens as tokens
use Rattle.tl_lex.specs.Words.{reserved_words}
use Rattle.tl_tree.specs.declared.symbol.Symbol.{Symbol}
use Rattle.tl_tree.specs.Symbols.{spelling, number_of, words, signs, is_bad}
use Rattle.tl_tree.specs.Tokens.{Token, tokens_of}
use Rattle.tl_tree.specs.Tree.{Tree}
use Rattle.tl_tree.specs.Grammar.{Whole}
use Rattle.tl_tree.specs.Refusing.{Language, HasTree, Answer, Says}
use Rattle.tl_tree.specs.Syntax.{syntax_of, chunk}

-- The tokens are a chunk of Lua and Terra code, of this tree.
abbrev pub IsChunk : Language Tree
IsChunk rule ts tree = Whole syntax_of chunk rule ts tree

-- each list of tokens has one tree, or is refused at one token for one reason
abbrev pub HasOneAnswer : Language Tree → Type 0
HasOneAnswer Reads = (ts : List Token) → (x : Answer Tree) × Says Reads ts x
    × ((y : Answer Tree) → Says Reads ts y → y ≡ x)

-- a text has one tree at most
abbrev pub HasOneTree : Language Tree → List ℕ → Type 0
HasOneTree Reads text = (a b : Tree) → HasTree Reads (tokens_of text) a → HasTree Reads (tokens_of text) b → a ≡ b

-- Classes of tokens go by the numbers of symbols: two symbols have one number only if they are one, or both break a
-- rule of tokens.
abbrev pub HasOwnNumbers : Type 0
HasOwnNumbers = (a b : Symbol) → number_of a ≡ number_of b → (a ≡ b) ⊎ ((is_bad a ≡ true) × (is_bad b ≡ true))

-- The words and the signs of the grammar are those of the rules of tokens.
abbrev pub SpellsTokens : Type 0
SpellsTokens = (map spelling words ≡ reserved_words) × (map spelling signs ≡ tokens.signs)
