-- The texts of instructions and of words: a reader can stop behind them.
pub mod Texts
-- The texts that a line may have, and which lines are bad and why.
pub mod Assembly
-- The listing of an image, and the trace of a run.
pub mod Listing
pub mod Trace
-- How the code reads lines: what it makes is compared with the line.
pub mod Reading
