-- What the basic functions give, and what they pay.
pub mod Basic
-- Those that raise errors, and catch them.
pub mod Errors
-- Those that work on tables.
pub mod Tables
-- Those that tell what values are, and write them.
pub mod Printing
-- The globals with which a source begins.
pub mod Opening
-- Arguments.
pub mod Arguments
-- Answers and payments.
pub mod Calls
-- The texts of values.
pub mod Texts
