pub mod Lists
pub mod Reaching
pub mod Nodes
pub mod Counting
