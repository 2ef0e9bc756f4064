-- What a run of typed terms gives. A reader can stop here.
pub mod Meaning
-- What a run has: its variables, where they lie, and how values stand in memory.
pub mod Running
pub mod Frames
pub mod Values
-- What it depends on, and what larger and smaller counts do to it.
pub mod Laws
