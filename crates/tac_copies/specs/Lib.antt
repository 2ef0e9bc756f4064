-- What is promised of code without copies. A reader can stop here.
pub mod Laws
-- Which temporaries are read once.
pub mod Once
-- A result goes at once to where the next instruction copies it.
pub mod Directed
-- What is copied is read where it was copied from.
pub mod Shortened
-- Blocks that no way leads to go.
pub mod Reached
-- Parameters go at once to their variables.
pub mod Taken
-- What the code keeps while it works.
pub mod Kept
