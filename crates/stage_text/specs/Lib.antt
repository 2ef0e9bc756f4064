-- The text that `terms` writes of exports.
pub mod Terms
-- The text of a type as parts that are still to be written.
pub mod Types
