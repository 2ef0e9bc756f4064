-- The promise: what a text is with its locals renamed, and what the call answers. A reader can stop here.
pub mod Renamed
pub mod Call
-- Views of the code: what its passes over the nodes come to.
pub mod Passes
