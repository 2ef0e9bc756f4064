-- The promise: Terra code is specialised alike in trees that are alike. A reader can stop here.
pub mod Same
