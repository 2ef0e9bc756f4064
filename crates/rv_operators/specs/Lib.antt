-- What a straight sequence of instructions does.
pub mod Claims
-- Which sequence stands for an operator at a width.
pub mod Codes
-- From what instructions do to runs of the machine.
pub mod Runs
