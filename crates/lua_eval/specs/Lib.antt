-- The promise: what remains of an evaluation that is suspended, by the meaning of Lua code in lua_model.
pub mod Rest
-- Where the uses of locals find their cells, which an evaluation needs. A reader can stop here.
pub mod Slots
-- Views of the code, which private contracts cite. How frames go on, and the language of a tree.
pub mod Frames
-- What the steps do.
pub mod Steps
-- What is done at once, without a frame.
pub mod AtOnce
-- Texts in a heap.
pub mod Texts
-- The environment of a call in progress.
pub mod Calls
-- Calls, whose function is evaluated first.
pub mod CallPlans
-- The fields of a constructor.
pub mod Fields
-- Paths of function definitions.
pub mod Paths
-- The operands of an operator.
pub mod Operands
-- The numbers of a numeric `for`.
pub mod Numbers
-- Stores in names.
pub mod Stores
-- What values are read from.
pub mod Reads
-- What is left of an `if`.
pub mod Choices
-- Where assignments store.
pub mod Spots
-- Stores that ask no handler.
pub mod Storing
-- What is left of statements, of which some were executed at once.
pub mod Running
-- What is left of calls, of which some was done at once.
pub mod Called
-- What statements do with the values of the calls that they make.
pub mod Waits
-- What is left of statements, with the calls that they make.
pub mod Waiting
-- What is left of a numeric `for`, of which some turns were done at once.
pub mod Turns
