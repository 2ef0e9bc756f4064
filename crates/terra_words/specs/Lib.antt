-- What the operators give of words.
pub mod Words
-- Values, the bytes of a region, and how runs end.
pub mod Runs
