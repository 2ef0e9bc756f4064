-- The types: which id a type has, what every list of types keeps, and what stays.
pub mod Making
pub mod Opening
pub mod Keeping
-- How many bytes a type has, where the entries of a struct lie, and which types have one word.
pub mod Sizes
pub mod Layouts
pub mod Scalars
-- Lists that grow, by which sizes are found.
pub mod Grown
-- Views of the code, which private contracts cite.
pub mod Elements
pub mod Spots
pub mod Kept
pub mod Laying
pub mod Holding
