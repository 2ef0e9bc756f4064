-- The promise: the text that is generated.
pub mod Generated
