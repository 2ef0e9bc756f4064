-- The promise: the numbers of steps that the images of Terra runs took.
pub mod Runs
-- Layers that are suspended.
pub mod Layers
-- Views of the code.
pub mod Calls
pub mod Machines
pub mod Kept
