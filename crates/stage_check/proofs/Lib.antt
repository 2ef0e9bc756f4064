pub mod Answering
pub mod Keeping
pub mod Showing
