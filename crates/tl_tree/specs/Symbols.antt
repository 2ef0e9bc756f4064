-- The symbols of tokens: each reserved word and each sign is one, and so are names, numerals by their suffix, and
-- literals.
use Rattle.std.specs.Prelude.{ℕ, Bool, true, false, List, [], ◌∷◌, if◌then◌else◌, ◌==◌, ◌||◌, length, drop, ◌-◌, codes}
use Rattle.std.specs.Prelude.{bytes_eq}
use Rattle.tl_lex.specs.declared.TokenKind.{TokenKind}
use Rattle.tl_lex.specs.declared.TokenKind.TheVariants as kinds
use Rattle.tl_tree.specs.declared.symbol.Symbol.{Symbol}
use Rattle.tl_tree.specs.declared.symbol.Symbol.TheVariants as symbols

-- How a symbol is written: each word and sign, and the shortest token of each other class.
abbrev pub spelling : Symbol → List ℕ
spelling symbols.And = codes "and"
spelling symbols.Break = codes "break"
spelling symbols.Do = codes "do"
spelling symbols.Else = codes "else"
spelling symbols.Elseif = codes "elseif"
spelling symbols.End = codes "end"
spelling symbols.False = codes "false"
spelling symbols.For = codes "for"
spelling symbols.Function = codes "function"
spelling symbols.If = codes "if"
spelling symbols.In = codes "in"
spelling symbols.Local = codes "local"
spelling symbols.Nil = codes "nil"
spelling symbols.Not = codes "not"
spelling symbols.Or = codes "or"
spelling symbols.Repeat = codes "repeat"
spelling symbols.Return = codes "return"
spelling symbols.Then = codes "then"
spelling symbols.True = codes "true"
spelling symbols.Until = codes "until"
spelling symbols.While = codes "while"
spelling symbols.Terra = codes "terra"
spelling symbols.Quote = codes "quote"
spelling symbols.Escape = codes "escape"
spelling symbols.Emit = codes "emit"
spelling symbols.Struct = codes "struct"
spelling symbols.Var = codes "var"
spelling symbols.Plus = codes "+"
spelling symbols.Minus = codes "-"
spelling symbols.Star = codes "*"
spelling symbols.Slash = codes "/"
spelling symbols.Percent = codes "%"
spelling symbols.Caret = codes "^"
spelling symbols.Hash = codes "#"
spelling symbols.DoubleEqual = codes "=="
spelling symbols.NotEqual = codes "~="
spelling symbols.LessEqual = codes "<="
spelling symbols.GreaterEqual = codes ">="
spelling symbols.Less = codes "<"
spelling symbols.Greater = codes ">"
spelling symbols.Equal = codes "="
spelling symbols.OpenParen = codes "("
spelling symbols.CloseParen = codes ")"
spelling symbols.OpenBrace = codes "{"
spelling symbols.CloseBrace = codes "}"
spelling symbols.OpenBracket = codes "["
spelling symbols.CloseBracket = codes "]"
spelling symbols.Semicolon = codes ";"
spelling symbols.Colon = codes ":"
spelling symbols.DoubleColon = codes "::"
spelling symbols.Comma = codes ","
spelling symbols.Dot = codes "."
spelling symbols.DoubleDot = codes ".."
spelling symbols.Ellipsis = codes "..."
spelling symbols.Arrow = codes "->"
spelling symbols.At = codes "@"
spelling symbols.Ampersand = codes "&"
spelling symbols.DoubleLess = codes "<<"
spelling symbols.DoubleGreater = codes ">>"
spelling symbols.Backtick = codes "`"
spelling symbols.Name = codes "x"
spelling symbols.Numeral = codes "0"
spelling symbols.LongNumeral = codes "0LL"
spelling symbols.UnsignedNumeral = codes "0ULL"
spelling symbols.Literal = 39 ∷ 39 ∷ []
spelling (symbols.Bad why) = []
spelling symbols.Finish = []

-- a number for each symbol, so that classes of symbols compute
abbrev pub number_of : Symbol → ℕ
number_of symbols.And = 0
number_of symbols.Break = 1
number_of symbols.Do = 2
number_of symbols.Else = 3
number_of symbols.Elseif = 4
number_of symbols.End = 5
number_of symbols.False = 6
number_of symbols.For = 7
number_of symbols.Function = 8
number_of symbols.If = 9
number_of symbols.In = 10
number_of symbols.Local = 11
number_of symbols.Nil = 12
number_of symbols.Not = 13
number_of symbols.Or = 14
number_of symbols.Repeat = 15
number_of symbols.Return = 16
number_of symbols.Then = 17
number_of symbols.True = 18
number_of symbols.Until = 19
number_of symbols.While = 20
number_of symbols.Terra = 21
number_of symbols.Quote = 22
number_of symbols.Escape = 23
number_of symbols.Emit = 24
number_of symbols.Struct = 25
number_of symbols.Var = 26
number_of symbols.Plus = 27
number_of symbols.Minus = 28
number_of symbols.Star = 29
number_of symbols.Slash = 30
number_of symbols.Percent = 31
number_of symbols.Caret = 32
number_of symbols.Hash = 33
number_of symbols.DoubleEqual = 34
number_of symbols.NotEqual = 35
number_of symbols.LessEqual = 36
number_of symbols.GreaterEqual = 37
number_of symbols.Less = 38
number_of symbols.Greater = 39
number_of symbols.Equal = 40
number_of symbols.OpenParen = 41
number_of symbols.CloseParen = 42
number_of symbols.OpenBrace = 43
number_of symbols.CloseBrace = 44
number_of symbols.OpenBracket = 45
number_of symbols.CloseBracket = 46
number_of symbols.Semicolon = 47
number_of symbols.Colon = 48
number_of symbols.DoubleColon = 49
number_of symbols.Comma = 50
number_of symbols.Dot = 51
number_of symbols.DoubleDot = 52
number_of symbols.Ellipsis = 53
number_of symbols.Arrow = 54
number_of symbols.At = 55
number_of symbols.Ampersand = 56
number_of symbols.DoubleLess = 57
number_of symbols.DoubleGreater = 58
number_of symbols.Backtick = 59
number_of symbols.Name = 60
number_of symbols.Numeral = 61
number_of symbols.LongNumeral = 62
number_of symbols.UnsignedNumeral = 63
number_of symbols.Literal = 64
number_of (symbols.Bad why) = 65
number_of symbols.Finish = 66

abbrev pub words : List Symbol
words =
    symbols.And ∷ symbols.Break ∷ symbols.Do ∷ symbols.Else ∷ symbols.Elseif ∷ symbols.End ∷ symbols.False ∷
    symbols.For ∷ symbols.Function ∷ symbols.If ∷ symbols.In ∷ symbols.Local ∷ symbols.Nil ∷ symbols.Not ∷
    symbols.Or ∷ symbols.Repeat ∷ symbols.Return ∷ symbols.Then ∷ symbols.True ∷ symbols.Until ∷ symbols.While ∷
    symbols.Terra ∷ symbols.Quote ∷ symbols.Escape ∷ symbols.Emit ∷ symbols.Struct ∷ symbols.Var ∷ []

abbrev pub signs : List Symbol
signs =
    symbols.Plus ∷ symbols.Minus ∷ symbols.Star ∷ symbols.Slash ∷ symbols.Percent ∷ symbols.Caret ∷ symbols.Hash ∷
    symbols.DoubleEqual ∷ symbols.NotEqual ∷ symbols.LessEqual ∷ symbols.GreaterEqual ∷ symbols.Less ∷
    symbols.Greater ∷ symbols.Equal ∷ symbols.OpenParen ∷ symbols.CloseParen ∷ symbols.OpenBrace ∷
    symbols.CloseBrace ∷ symbols.OpenBracket ∷ symbols.CloseBracket ∷ symbols.Semicolon ∷ symbols.Colon ∷
    symbols.DoubleColon ∷ symbols.Comma ∷ symbols.Dot ∷ symbols.DoubleDot ∷ symbols.Ellipsis ∷ symbols.Arrow ∷
    symbols.At ∷ symbols.Ampersand ∷ symbols.DoubleLess ∷ symbols.DoubleGreater ∷ symbols.Backtick ∷ []

-- the first of these symbols that is written so
abbrev pub written : List Symbol → List ℕ → Symbol
written [] text = symbols.Finish
written (s ∷ more) text = if bytes_eq text (spelling s) then s else written more text

-- those of the symbols that are written with so many bytes
abbrev pub of_length : ℕ → List Symbol → List Symbol
of_length n [] = []
of_length n (s ∷ more) = if length (spelling s) == n then s ∷ of_length n more else of_length n more

-- the last so many bytes
abbrev pub last_bytes : ℕ → List ℕ → List ℕ
last_bytes n text = drop (length text - n) text

-- a numeral by its suffix
abbrev pub numeral_of : List ℕ → Symbol
numeral_of text =
    if bytes_eq (last_bytes 3 text) (codes "ULL") then symbols.UnsignedNumeral
    else (if bytes_eq (last_bytes 2 text) (codes "LL") then symbols.LongNumeral else symbols.Numeral)

-- the symbol of a token of the lexer
unfoldable pub symbol_of : TokenKind → List ℕ → Symbol
symbol_of kinds.Name text = symbols.Name
symbol_of kinds.Reserved text = written words text
symbol_of kinds.Sign text = written signs text
symbol_of kinds.Numeral text = numeral_of text
symbol_of kinds.Literal text = symbols.Literal
symbol_of kinds.End text = symbols.Finish

-- ---- classes of symbols

abbrev pub has : List Symbol → ℕ → Bool
has [] n = false
has (s ∷ ss) n = (number_of s == n) || has ss n

abbrev pub is_bad : Symbol → Bool
is_bad (symbols.Bad why) = true
is_bad _ = false
