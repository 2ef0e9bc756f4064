-- Functions one behind the other in a text. A reader can stop here.
pub mod Linked
-- Runs of an image that is linked so.
pub mod Images
-- Views of the code, which private contracts cite.
pub mod Filling
