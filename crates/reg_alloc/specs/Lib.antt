-- Which assignments are right.
pub mod Right
-- The intervals of temporaries.
pub mod Intervals
-- Views of the code, which private contracts cite.
pub mod Homes
pub mod Noted
pub mod Scans
