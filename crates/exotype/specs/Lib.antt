-- Which term a Lua value becomes where one term is wanted.
pub mod Becoming
-- The texts of what is raised.
pub mod Faults
-- The world of a staging, and what its calls make of it.
pub mod World
pub mod Types
pub mod Properties
-- How many nodes and levels terms have.
pub mod Terms
