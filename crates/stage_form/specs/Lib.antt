-- The promise: what a question comes to.
pub mod Stage
-- A layer over a part of the stage's world, with questions, answers and ends of its own.
pub mod Within
-- What holds of layers whatever they are answered.
pub mod Holding
