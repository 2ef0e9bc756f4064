-- What staging promises of worlds, and what each job demands and leaves.
pub mod Promises
pub mod Jobs
-- What an image is made of.
pub mod Parts
