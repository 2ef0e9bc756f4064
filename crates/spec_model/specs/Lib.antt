-- The promise: what specialising means. A reader can begin here, and go on with the plans that it names.
pub mod Meaning
-- What is defined and declared.
pub mod Definitions
pub mod Structs
pub mod Quotes
-- What stands in Terra code.
pub mod Statements
pub mod Expressions
pub mod Names
pub mod Types
-- What plans are made of, and what they make and read.
pub mod Plans
pub mod Making
pub mod Nodes
