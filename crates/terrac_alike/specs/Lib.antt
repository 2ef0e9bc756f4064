-- The promise: what is due for a source is due for one that binds alike. A reader can stop here.
pub mod Alike
