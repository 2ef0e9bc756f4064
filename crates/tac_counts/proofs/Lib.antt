pub mod Lifting
pub mod Needing
