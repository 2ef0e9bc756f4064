-- What each task means, and what remains of it.
pub mod Layers
