-- The promise: what `rename` gives of a text reads, binds alike, has its tokens where they were, and is UTF-8 where the text is. A reader can
-- stop here.
pub mod Renamed
