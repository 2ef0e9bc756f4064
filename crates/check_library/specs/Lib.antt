-- What the functions of Terra's library do that ask for a check or a layout, and what they pay.
pub mod Calls
-- Sizes, offsets and globals.
pub mod Layouts
-- Checks, and the types of functions.
pub mod Checks
-- Exports.
pub mod Exports
-- How many typed nodes exports have with all that they reach.
pub mod Counting
-- Answers and questions.
pub mod Answers
-- What each call keeps of the world.
pub mod Keeping
