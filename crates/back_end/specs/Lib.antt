-- What compiling gives. A reader can stop here.
pub mod Compiled
-- What can be compiled.
pub mod Ready
-- When an image agrees with a function.
pub mod Agrees
-- Images whose code counts, and when they agree with a function.
pub mod Units
-- How an image is laid out, and the type codes of its symbols.
pub mod Laid
pub mod Codes
-- Which terms are compiled as yet: those that call no function that is a value.
pub mod Plain
-- Views of the code, which private contracts cite, and of which what is laid out speaks.
pub mod Symbols
pub mod Working
pub mod Worklist
