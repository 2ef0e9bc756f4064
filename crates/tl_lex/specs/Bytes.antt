-- The classes of bytes that the rules of tokens speak of.
use Rattle.std.specs.Prelude.{ℕ, Bool, ◌==◌, ◌||◌, ◌&&◌, nat_le}

-- tab, line feed, vertical tab, form feed, carriage return and space
abbrev pub is_white : ℕ → Bool
is_white c = (nat_le 9 c && nat_le c 13) || (c == 32)

-- a line feed or a carriage return
abbrev pub is_line_end : ℕ → Bool
is_line_end c = (c == 10) || (c == 13)

abbrev pub is_letter : ℕ → Bool
is_letter c = (nat_le 65 c && nat_le c 90) || (nat_le 97 c && nat_le c 122)

abbrev pub is_digit : ℕ → Bool
is_digit c = nat_le 48 c && nat_le c 57

abbrev pub is_hex_digit : ℕ → Bool
is_hex_digit c = is_digit c || (nat_le 65 c && nat_le c 70) || (nat_le 97 c && nat_le c 102)

-- a letter or `_`
abbrev pub begins_name : ℕ → Bool
begins_name c = is_letter c || (c == 95)

-- a letter, a digit or `_`
abbrev pub is_name_byte : ℕ → Bool
is_name_byte c = begins_name c || is_digit c

-- a letter, a digit, `_` or `.`
abbrev pub is_numeral_byte : ℕ → Bool
is_numeral_byte c = is_name_byte c || (c == 46)

-- `"` or `'`
abbrev pub is_quote : ℕ → Bool
is_quote c = (c == 34) || (c == 39)
