pub mod Shortness
pub mod Making
pub mod OpeningSteps
pub mod Past
