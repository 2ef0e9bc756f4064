-- What the functions of Terra's library do, and what they pay.
pub mod Calls
-- Symbols, macros and constants.
pub mod Symbols
-- Types, and what is asked of a type.
pub mod Types
-- Lists.
pub mod Lists
-- What may be exported.
pub mod Exports
-- Fields of Terra values, and types made by operators.
pub mod Fields
-- The globals with which a source begins, behind those of Lua.
pub mod Opening
-- Answers and payments.
pub mod Answers
-- What each call keeps of the world.
pub mod Keeping
