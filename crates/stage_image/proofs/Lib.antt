pub mod Counting
pub mod Names
pub mod Compiling
pub mod Premises
