-- What a source is staged and compiled to. A reader can stop here.
pub mod Emitted
