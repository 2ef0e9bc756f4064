-- The promise: what remains of a check and of a layout that are suspended, by their meaning in check_model.
pub mod Rest
-- What a layout keeps. A reader can stop here.
pub mod Keeping
-- That it is kept by one step and the next.
pub mod Kept
-- Views of the code, which private contracts cite. How checks and layouts go on, and their languages.
pub mod CheckFrames
pub mod LayoutFrames
-- What their steps do.
pub mod Steps
-- How types are laid out.
pub mod Kinds
-- What is to be gone through for what it mentions.
pub mod Parts
