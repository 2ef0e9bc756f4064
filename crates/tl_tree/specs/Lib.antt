-- The promise: which text has which tree, which is refused where and why, and that each has one of the two. A reader
-- can stop here.
pub mod Texts
-- The language of whole texts, and what is proved of it.
pub mod Laws
-- The table of refusals, over any language.
pub mod Refusing
-- The grammar, by its names: Lua expressions.
pub mod LuaExpressions
-- Lua statements and functions.
pub mod LuaStatements
-- Terra expressions.
pub mod TerraExpressions
-- Terra statements, functions and quotes.
pub mod TerraStatements
-- The grammar of each part that is read one level deeper, and of a whole text.
pub mod Syntax
-- What the definitions of the grammar are made of.
pub mod Forms
-- Grammars as data, and their two meanings by one name.
pub mod Grammar
-- What a token may be used for, and what a grammar is made of.
pub mod Notation
-- Which tokens a grammar reads.
pub mod Reading
-- What reading from left to right gives.
pub mod Running
-- Trees, and the parts of a text that are one level of nesting each.
pub mod Tree
-- What may stand where in a tree.
pub mod Kinds
-- Which nodes of a tree count.
pub mod Counting
-- The tokens of a text as the grammar sees them.
pub mod Tokens
-- The symbols of tokens.
pub mod Symbols
-- What numerals stand for.
pub mod Numbers
-- How the code keeps a tree: its nodes in order.
pub mod Nodes
-- The children of a node, and that a tree and its nodes determine each other.
pub mod Children
-- What a node holds.
pub mod Item
-- What a tree of the code holds.
pub mod Arena
-- What the nodes of a tree hold.
pub mod Code
-- Which declaration a use of a local name refers to.
pub mod Scopes
-- What that comes to, as relations on the text.
pub mod ScopeLaws
-- Texts that differ in the names of their locals alone.
pub mod Binding
