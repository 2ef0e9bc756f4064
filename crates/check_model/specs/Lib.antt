-- The promise: what typing a body, a check and a layout mean. A reader can begin here, and go on with the plans that they name.
pub mod Bodies
pub mod Checks
pub mod Layouts
-- What each turn keeps, and which answers fit.
pub mod Keeping
-- What stands in a body.
pub mod Statements
pub mod Expressions
pub mod Operators
pub mod Calls
pub mod Converting
-- What plans are made of, and what they read.
pub mod Plans
pub mod Structs
pub mod Rows
pub mod Typing
