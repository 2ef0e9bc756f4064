-- What private contracts cite: views of the code, which nobody has to read for the promise. First what both languages
-- have.
pub mod Codes
-- Lists with commas.
pub mod Lists
-- What reading each name of the grammar gives, from left to right: Lua expressions.
pub mod Expressions
-- Lua statements and functions.
pub mod Statements
-- Lists of names, and paths.
pub mod Paths
-- Entries of structs.
pub mod Entries
-- Terra code in Lua expressions.
pub mod TerraCode
-- Lua statements that define Terra functions and types.
pub mod TerraDefinitions
-- Terra expressions.
pub mod TerraExpressions
-- Terra statements, functions and quotes.
pub mod TerraStatements
-- Statements and blocks of either language.
pub mod Blocks
-- Uses of single tokens.
pub mod Using
-- Operators between operands, by their ranks.
pub mod Ranks
-- What the parser has before it, and what its functions took.
pub mod Parsing
-- One token ahead.
pub mod Looking
-- A token is taken where the limits allow its use.
pub mod Taking
-- What loops have read so far.
pub mod Going
-- The same in Terra code.
pub mod TerraGoing
-- Names in Terra code with their places.
pub mod TerraLines
-- An operator with its operands.
pub mod Joining
