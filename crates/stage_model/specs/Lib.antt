-- The promise: the outcome of a source's staging.
pub mod Staging
-- In which order its lines come.
pub mod Ordered
-- What is written of it.
pub mod Texts
pub mod Places
-- The stage: its world, and what each question means.
pub mod Stage
pub mod World
-- Calls of Terra functions by Lua code, in their six steps.
pub mod Calls
-- What Lua code and Terra functions give one another.
pub mod Words
