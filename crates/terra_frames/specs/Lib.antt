-- Where variables lie.
pub mod Laid
