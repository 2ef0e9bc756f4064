-- The promise: the memory of a running Terra program. A reader can stop behind the numbers.
pub mod Region
-- Numbers in memory.
pub mod Numbers
