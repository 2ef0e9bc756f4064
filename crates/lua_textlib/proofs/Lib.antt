pub mod Shortness
pub mod Repeats
pub mod Shifts
pub mod Joins
pub mod Moved
