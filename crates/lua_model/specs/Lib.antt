-- The promise: what Lua code means. A reader can begin here, and go on with the plans that it names.
pub mod Meaning
-- Statements.
pub mod Statements
pub mod Loops
pub mod Assignments
-- Expressions.
pub mod Expressions
pub mod Tables
pub mod Operators
-- What a value has under a key, and calls.
pub mod Fields
pub mod Calls
-- What plans are made of.
pub mod Plans
