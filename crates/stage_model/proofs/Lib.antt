pub mod Checking
pub mod Outcomes
pub mod Ordered
