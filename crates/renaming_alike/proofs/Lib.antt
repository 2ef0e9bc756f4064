-- What new names are, and what each finds.
pub mod Numbering
pub mod Finding
pub mod Declared
pub mod BindsAlike
pub mod Letters
-- Nodes and their parents.
pub mod Parents
-- What nodes declare as names owners declare.
pub mod Placing
pub mod OwnersDeclare
-- The whole.
pub mod RenamedAlike
