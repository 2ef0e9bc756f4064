-- What the count of exports promises.
pub mod Counted
