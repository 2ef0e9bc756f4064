-- The promise: which image a file is, and why one is none.
pub mod Loads
-- Which images have a file, and the one file of an image.
pub mod Lawful
pub mod Written
-- What a call of an export means. A reader can stop here.
pub mod Calls
-- The tables of fields by which files are read and written.
pub mod Fields
pub mod Layout
pub mod Exports
pub mod Entries
-- The tests of a file, in order, and what the code's tests answer.
pub mod Tests
pub mod Answers
