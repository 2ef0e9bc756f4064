-- What compiling asks of a store.
pub mod Ready
-- Faults have places of a text.
pub mod Places
