pub mod Keeping
mod Ids
