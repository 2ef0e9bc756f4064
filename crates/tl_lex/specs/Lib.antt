-- The promise: the answers for a text, its tokens in order with places and offsets, up to the end or the first refusal.
-- A reader can stop here.
pub mod Answers
-- What is proved of them.
pub mod Laws
-- What stands at the front of a text.
pub mod Fronts
-- Names and reserved words.
pub mod Words
-- Numerals.
pub mod Numerals
-- Signs.
pub mod Signs
-- Long brackets.
pub mod Brackets
-- Literals in quotes.
pub mod Quoted
-- The values of literals.
pub mod Values
-- Line ends.
pub mod LineEnds
-- Classes of bytes.
pub mod Bytes
-- What a token is by itself, which the laws speak of.
pub mod Tokens
-- A view of the code, which private contracts cite: what a lexer has before it.
pub mod Lexing
