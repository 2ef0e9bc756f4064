-- Signs: the longest is taken.
use Rattle.std.specs.Prelude.{ℕ, Bool, false, List, [], ◌∷◌, if◌then◌else◌, ◌==◌, ◌&&◌, codes, bytes_eq}
use Rattle.std.specs.List.{list_any}
use Rattle.tl_lex.specs.Bytes.{is_digit}
use Rattle.tl_lex.specs.declared.TokenKind.TheVariants as kinds
use Rattle.tl_lex.specs.declared.SyntaxKind.TheVariants as why
use Rattle.tl_lex.specs.declared.front.Front.{Front}
use Rattle.tl_lex.specs.declared.front.Front.TheVariants as fronts

-- the signs of one byte: + - * / % ^ # < > = ( ) { } [ ] ; : , . @ & and the backtick
abbrev pub is_single_sign : ℕ → Bool
is_single_sign c = list_any (λ x. c == x) (codes "+-*/%^#<>=(){}[];:,.@&`")

-- those with which no longer sign begins, and no comment and no long bracket
abbrev pub is_lone_sign : ℕ → Bool
is_lone_sign c = list_any (λ x. c == x) (codes "#%&()*+,/;@]^`{}")

-- the signs of two bytes
abbrev pub is_double_sign : ℕ → ℕ → Bool
is_double_sign c d =
    list_any (λ s. bytes_eq (c ∷ d ∷ []) s)
    (codes "==" ∷ codes "~=" ∷ codes "<=" ∷ codes ">=" ∷ codes "::" ∷ codes ".." ∷ codes "->" ∷ codes "<<" ∷ codes ">>" ∷ [])

-- the sign of three bytes
abbrev pub is_triple_sign : ℕ → ℕ → ℕ → Bool
is_triple_sign c d e = bytes_eq (c ∷ d ∷ e ∷ []) (codes "...")

-- the number of bytes of the longest sign at the front, or 0
unfoldable pub sign_len : List ℕ → ℕ
sign_len [] = 0
sign_len (c ∷ []) = if is_single_sign c then 1 else 0
sign_len (c ∷ d ∷ []) = if is_double_sign c d then 2 else (if is_single_sign c then 1 else 0)
sign_len (c ∷ d ∷ e ∷ rest) = if is_triple_sign c d e then 3 else (if is_double_sign c d then 2 else (if is_single_sign c then 1 else 0))

-- a `.` and a digit
abbrev pub is_point_and_digit : List ℕ → Bool
is_point_and_digit (c ∷ d ∷ rest) = (c == 46) && is_digit d
is_point_and_digit _ = false

-- any other text: a sign. A `.` before a digit is a numeral that lacks its front, unless it belongs to a longer sign.
unfoldable pub sign_front : List ℕ → Front
sign_front bytes =
    if sign_len bytes == 0 then fronts.Refusal why.BadByte
    else (if (sign_len bytes == 1) && is_point_and_digit bytes then fronts.Refusal why.BadNumber
    else fronts.Lexeme kinds.Sign (sign_len bytes))
