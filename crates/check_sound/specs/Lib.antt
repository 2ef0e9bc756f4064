-- The promise: which worlds are sound, how worlds follow one another, and what each layer of a staging keeps. A reader can begin here.
pub mod Sound
pub mod Exports
pub mod Growing
pub mod Layers
-- What a check reached, as a store of its own.
pub mod Reached
