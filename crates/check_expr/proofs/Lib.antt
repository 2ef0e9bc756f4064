-- Lemmas.
pub mod Keeping
pub mod Doing
pub mod Composing
pub mod Making
-- What asks Lua.
pub mod Answering
-- What is kept of methods.
pub mod Settling
-- What is behind a conversion or a value.
pub mod Behind
-- Conversions that change nothing.
pub mod Staying
-- Layouts.
pub mod Laying
-- Types that are made.
pub mod Typing
-- Lists that are made of others.
pub mod Lists
-- Values that became terms.
pub mod Becoming
-- Worlds of which a part is another.
pub mod Worlds
-- The entries of constructors.
pub mod Ordering
-- Variables that are declared, and scopes that are left.
pub mod Declaring
-- Ends and answers that pass by.
pub mod Passing
-- How far functions have come.
pub mod Standing
-- What is called by its name.
pub mod Calling
-- Comparisons of pointers.
pub mod Retyped
-- Definitions, by their parts.
pub mod Defining
-- Conditions.
pub mod Conditions
-- The expressions that terms are.
pub mod Expressing
-- What is ahead in a typed quote.
pub mod Naming
pub mod Branching
pub mod Scoping
pub mod Ahead
pub mod Walking
