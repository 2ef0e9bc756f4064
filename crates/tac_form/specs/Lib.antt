-- What three-address code does.
pub mod Flow
-- What of it matters for registers, and where a temporary is in use.
pub mod Graph
pub mod Live
-- How many words of machine code and private bytes it may take.
pub mod Weights
-- Which code machine code may be made of.
pub mod Fits
-- The same code, which counts.
pub mod Counting
