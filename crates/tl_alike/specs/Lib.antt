-- The promise: the trees of texts that bind alike are alike. A reader can stop here.
pub mod Alike
-- Which children of a node declare a name, select with one, or are read as code.
pub mod Roles
-- Plans that do the same, and layers that mean the same.
pub mod Plans
