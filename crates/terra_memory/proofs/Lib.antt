pub mod Allocation
pub mod Answering
pub mod Bytes
pub mod Overwriting
pub mod RegionLaws
