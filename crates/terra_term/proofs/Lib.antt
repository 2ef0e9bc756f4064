pub mod Statics
pub mod Finding
pub mod Steps
pub mod Tests
pub mod Texts
pub mod Trees
pub mod Parts
pub mod Staying
mod Examples
pub mod KeptSizes
