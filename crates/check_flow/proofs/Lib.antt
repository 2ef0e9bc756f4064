-- Lemmas: what steps do that ask.
pub mod Asking
pub mod Answering
pub mod Laying
pub mod Taking
-- What is to be gone through, and what it mentions.
pub mod Mentioning
pub mod Nodes
pub mod Events
pub mod Going
pub mod Through
-- Entries of structs.
pub mod Reading
-- What is kept.
pub mod Keeping
