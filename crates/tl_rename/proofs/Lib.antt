pub mod Giving
pub mod Looking
pub mod Indexed
pub mod Keyed
