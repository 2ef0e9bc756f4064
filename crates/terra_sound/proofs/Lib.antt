pub mod Covering
pub mod Leaves
pub mod Sound
pub mod Values
pub mod Whole
