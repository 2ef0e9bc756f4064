pub mod Alike
pub mod Counts
pub mod Examples
pub mod Larger
pub mod Leaves
mod Limits
pub mod Meant
mod Operators
mod Rows
mod Sampled
pub mod Scopes
pub mod Scoping
