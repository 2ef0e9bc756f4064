mod Examples
pub mod OneRun
