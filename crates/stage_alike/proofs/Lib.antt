-- What calls of Terra functions ask.
pub mod Calls
-- What each task and each job means in alike trees.
pub mod Jobs
-- What stagings come to.
pub mod Outcomes
