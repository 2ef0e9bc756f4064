-- The passes over the nodes.
pub mod Ordered
pub mod Marking
pub mod Numbering
pub mod Prefixes
pub mod Writing
-- Trees whose names are changed, and what a grammar reads of tokens whose names are.
pub mod Changed
pub mod Keeping
pub mod KeepingForms
pub mod KeepingExpressions
pub mod KeepingStatements
pub mod KeepingTerra
pub mod KeepingTexts
pub mod LayingChanged
-- The tokens of a text in which names gave way to others.
pub mod NewTokens
-- A text with its locals renamed is such a text, and UTF-8 where the text is.
pub mod Substituting
pub mod Utf8
