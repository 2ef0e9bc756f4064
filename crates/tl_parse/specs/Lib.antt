-- The promise of `parse`, over reading of texts in tl_tree. A reader can stop here.
pub mod Whole
-- Views of the code, which private contracts cite.
pub mod Views
