-- The promise: what the machine does.
pub mod Machine
-- The run of an image, and what a call that runs one does.
pub mod ImageRun
-- What runs keep, and how many steps they take. A reader can stop behind what these name of words, arithmetic, memory and text.
pub mod Laws
pub mod Count
-- Words and their signed values, what instructions compute, and memory.
pub mod Word
pub mod Arithmetic
pub mod Memory
-- The instructions of text.
pub mod Program
-- Views of the code, which private contracts cite: decoded words, what a sink took, steps and runs, and places of text.
pub mod Decoded
pub mod Output
pub mod Steps
pub mod Runs
pub mod Shown
pub mod Place
