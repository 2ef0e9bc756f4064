-- What a store holds, and what each call makes of it. A reader can stop behind the first two.
pub mod Held
-- What stays in a store, whatever is called.
pub mod Keeping
-- The text of a function's term, by recursion on its tree.
pub mod TermText
-- The trees of both kinds of terms, and how numbered nodes make them.
pub mod Terms
pub mod TypedTerms
pub mod Planted
-- How many nodes and levels terms have.
pub mod Sizes
-- What typed terms do with names, which of them typing can leave, and what of a store they need.
pub mod Events
pub mod Stores
pub mod WellTyped
-- Views of the code, which private contracts cite.
pub mod Statics
pub mod Finding
pub mod Pieces
pub mod Lending
pub mod Sizing
