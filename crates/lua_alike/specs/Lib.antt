-- The promise: Lua code means the same in trees that are alike. A reader can stop here.
pub mod Same
