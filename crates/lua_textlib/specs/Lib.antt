-- What the functions on texts and on tables do, and what they pay.
pub mod Calls
-- The functions on texts, and those on tables.
pub mod Texts
pub mod Formats
pub mod Tables
-- What their arguments are, and what they answer.
pub mod Arguments
pub mod Answers
