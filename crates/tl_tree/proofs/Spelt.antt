-- The shortest text of each symbol is one token, of this symbol.
use Rattle.std.proofs.Common.{◌≡◌, ℕ, zero, suc, ◌<◌, Bool, true, List, [], ◌∷◌, get_or, refl, arith}
use Rattle.std.specs.Prelude.{nat_lt}
use Rattle.std.specs.List.{list_all}
use Rattle.std.specs.Str.{IsUtf8}
use Rattle.std.proofs.lemmas.Bool.{and_parts}
use Rattle.std.proofs.lemmas.Bool.Decides.{nat_tests}
use Rattle.std.proofs.lemmas.Str.{IsUtf8-nil, IsUtf8-append, IsUtf8-from_ascii}
use Rattle.std.proofs.lemmas.Str.Ascii.{IsAscii-from_reads}
use Rattle.tl_lex.specs.LineEnds.{line_ends}
use Rattle.tl_lex.specs.Words.{is_reserved, word_front}
use Rattle.tl_lex.specs.Numerals.{is_numeral, numeral_front}
use Rattle.tl_lex.specs.Signs.{sign_len, sign_front}
use Rattle.tl_lex.specs.Brackets.{bracket_level}
use Rattle.tl_lex.specs.Quoted.{escape, quoted_character, characters}
use Rattle.tl_lex.specs.Fronts.{quoted_front, front_of}
use Rattle.tl_lex.specs.declared.TokenKind.{TokenKind}
use Rattle.tl_lex.specs.declared.TokenKind.TheVariants as kinds
use Rattle.tl_lex.proofs.CutTexts.{Alone, begins_black}
use Rattle.tl_tree.specs.declared.symbol.Symbol.{Symbol}
use Rattle.tl_tree.specs.declared.symbol.Symbol.TheVariants as symbols
use Rattle.tl_tree.specs.Symbols.{spelling, symbol_of}
use Rattle.tl_tree.proofs.Spelled.{is_written}

abbrev pub is_ascii : ℕ → Bool
is_ascii c = nat_lt c 128

pub ascii_utf8 : (bytes : List ℕ) → list_all is_ascii bytes ≡ true → IsUtf8 bytes
ascii_utf8 [] e = IsUtf8-nil
ascii_utf8 (c ∷ rest) e =
    let parts = and_parts (is_ascii c) (list_all is_ascii rest) e in
    IsUtf8-append (c ∷ []) rest
    (IsUtf8-from_ascii (c ∷ []) (IsAscii-from_reads (c ∷ []) 1 (omega arith) (λ k lt. one k lt parts.0)))
    (ascii_utf8 rest parts.1)
  where
    one : (k : ℕ) → k < 1 → is_ascii c ≡ true → get_or (c ∷ []) k 0 < 128
    one zero lt h = grind (arith, nat_tests)
    one (suc k) lt h = absurd (omega arith)

-- its shortest text is a token of this kind alone
pub record Spelt (s : Symbol) : Type 0 where
  pub kind : TokenKind
  pub alone : Alone kind (spelling s)
  pub symbol : symbol_of kind (spelling s) ≡ s
  pub black : begins_black (spelling s) ≡ true
  pub ends : line_ends (spelling s) ≡ 0
  pub ascii : list_all is_ascii (spelling s) ≡ true
  pub no_end : kind ≡ kinds.End → ⊥

reserved : (s : Symbol) → Alone kinds.Reserved (spelling s) → symbol_of kinds.Reserved (spelling s) ≡ s
    → begins_black (spelling s) ≡ true → line_ends (spelling s) ≡ 0 → list_all is_ascii (spelling s) ≡ true → Spelt s
reserved s a b c d u = record
    { kind = kinds.Reserved; alone = a; symbol = b; black = c; ends = d; ascii = u; no_end = λ e. absurd cc }

sign : (s : Symbol) → Alone kinds.Sign (spelling s) → symbol_of kinds.Sign (spelling s) ≡ s
    → begins_black (spelling s) ≡ true → line_ends (spelling s) ≡ 0 → list_all is_ascii (spelling s) ≡ true → Spelt s
sign s a b c d u = record
    { kind = kinds.Sign; alone = a; symbol = b; black = c; ends = d; ascii = u; no_end = λ e. absurd cc }

numeral : (s : Symbol) → Alone kinds.Numeral (spelling s) → symbol_of kinds.Numeral (spelling s) ≡ s
    → begins_black (spelling s) ≡ true → line_ends (spelling s) ≡ 0 → list_all is_ascii (spelling s) ≡ true → Spelt s
numeral s a b c d u = record
    { kind = kinds.Numeral; alone = a; symbol = b; black = c; ends = d; ascii = u; no_end = λ e. absurd cc }

pub spelt : (s : Symbol) → is_written s ≡ true → Spelt s
unfolding front_of word_front is_reserved numeral_front is_numeral sign_front sign_len bracket_level quoted_front
    characters quoted_character escape symbol_of
spelt symbols.And e = reserved symbols.And refl refl refl refl refl
spelt symbols.Break e = reserved symbols.Break refl refl refl refl refl
spelt symbols.Do e = reserved symbols.Do refl refl refl refl refl
spelt symbols.Else e = reserved symbols.Else refl refl refl refl refl
spelt symbols.Elseif e = reserved symbols.Elseif refl refl refl refl refl
spelt symbols.End e = reserved symbols.End refl refl refl refl refl
spelt symbols.False e = reserved symbols.False refl refl refl refl refl
spelt symbols.For e = reserved symbols.For refl refl refl refl refl
spelt symbols.Function e = reserved symbols.Function refl refl refl refl refl
spelt symbols.If e = reserved symbols.If refl refl refl refl refl
spelt symbols.In e = reserved symbols.In refl refl refl refl refl
spelt symbols.Local e = reserved symbols.Local refl refl refl refl refl
spelt symbols.Nil e = reserved symbols.Nil refl refl refl refl refl
spelt symbols.Not e = reserved symbols.Not refl refl refl refl refl
spelt symbols.Or e = reserved symbols.Or refl refl refl refl refl
spelt symbols.Repeat e = reserved symbols.Repeat refl refl refl refl refl
spelt symbols.Return e = reserved symbols.Return refl refl refl refl refl
spelt symbols.Then e = reserved symbols.Then refl refl refl refl refl
spelt symbols.True e = reserved symbols.True refl refl refl refl refl
spelt symbols.Until e = reserved symbols.Until refl refl refl refl refl
spelt symbols.While e = reserved symbols.While refl refl refl refl refl
spelt symbols.Terra e = reserved symbols.Terra refl refl refl refl refl
spelt symbols.Quote e = reserved symbols.Quote refl refl refl refl refl
spelt symbols.Escape e = reserved symbols.Escape refl refl refl refl refl
spelt symbols.Emit e = reserved symbols.Emit refl refl refl refl refl
spelt symbols.Struct e = reserved symbols.Struct refl refl refl refl refl
spelt symbols.Var e = reserved symbols.Var refl refl refl refl refl
spelt symbols.Plus e = sign symbols.Plus refl refl refl refl refl
spelt symbols.Minus e = sign symbols.Minus refl refl refl refl refl
spelt symbols.Star e = sign symbols.Star refl refl refl refl refl
spelt symbols.Slash e = sign symbols.Slash refl refl refl refl refl
spelt symbols.Percent e = sign symbols.Percent refl refl refl refl refl
spelt symbols.Caret e = sign symbols.Caret refl refl refl refl refl
spelt symbols.Hash e = sign symbols.Hash refl refl refl refl refl
spelt symbols.DoubleEqual e = sign symbols.DoubleEqual refl refl refl refl refl
spelt symbols.NotEqual e = sign symbols.NotEqual refl refl refl refl refl
spelt symbols.LessEqual e = sign symbols.LessEqual refl refl refl refl refl
spelt symbols.GreaterEqual e = sign symbols.GreaterEqual refl refl refl refl refl
spelt symbols.Less e = sign symbols.Less refl refl refl refl refl
spelt symbols.Greater e = sign symbols.Greater refl refl refl refl refl
spelt symbols.Equal e = sign symbols.Equal refl refl refl refl refl
spelt symbols.OpenParen e = sign symbols.OpenParen refl refl refl refl refl
spelt symbols.CloseParen e = sign symbols.CloseParen refl refl refl refl refl
spelt symbols.OpenBrace e = sign symbols.OpenBrace refl refl refl refl refl
spelt symbols.CloseBrace e = sign symbols.CloseBrace refl refl refl refl refl
spelt symbols.OpenBracket e = sign symbols.OpenBracket refl refl refl refl refl
spelt symbols.CloseBracket e = sign symbols.CloseBracket refl refl refl refl refl
spelt symbols.Semicolon e = sign symbols.Semicolon refl refl refl refl refl
spelt symbols.Colon e = sign symbols.Colon refl refl refl refl refl
spelt symbols.DoubleColon e = sign symbols.DoubleColon refl refl refl refl refl
spelt symbols.Comma e = sign symbols.Comma refl refl refl refl refl
spelt symbols.Dot e = sign symbols.Dot refl refl refl refl refl
spelt symbols.DoubleDot e = sign symbols.DoubleDot refl refl refl refl refl
spelt symbols.Ellipsis e = sign symbols.Ellipsis refl refl refl refl refl
spelt symbols.Arrow e = sign symbols.Arrow refl refl refl refl refl
spelt symbols.At e = sign symbols.At refl refl refl refl refl
spelt symbols.Ampersand e = sign symbols.Ampersand refl refl refl refl refl
spelt symbols.DoubleLess e = sign symbols.DoubleLess refl refl refl refl refl
spelt symbols.DoubleGreater e = sign symbols.DoubleGreater refl refl refl refl refl
spelt symbols.Backtick e = sign symbols.Backtick refl refl refl refl refl
spelt symbols.Name e = record
    { kind = kinds.Name; alone = refl; symbol = refl; black = refl; ends = refl; ascii = refl; no_end = λ e. absurd cc }
spelt symbols.Numeral e = numeral symbols.Numeral refl refl refl refl refl
spelt symbols.LongNumeral e = numeral symbols.LongNumeral refl refl refl refl refl
spelt symbols.UnsignedNumeral e = numeral symbols.UnsignedNumeral refl refl refl refl refl
spelt symbols.Literal e =
    record {
      kind = kinds.Literal;
      alone = refl;
      symbol = refl;
      black = refl;
      ends = refl;
      ascii = refl;
      no_end = λ e.
          absurd cc;
    }
spelt (symbols.Bad why) e = absurd cc
spelt symbols.Finish e = absurd cc
