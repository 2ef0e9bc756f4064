pub mod Reaching
pub mod Standing
pub mod Owing
pub mod Unowed
