-- What each call keeps.
pub mod Kept
-- How the walks over entries, functions and bytes go on.
pub mod Walking
-- The text of a refusal is short.
pub mod Shortness
-- Whether there is room for one more static.
pub mod Room
-- At which place it is raised that exports reach too much.
pub mod Raising
