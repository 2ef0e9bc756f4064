-- What calls of the library leave of sound worlds.
pub mod Leaving
-- What the layers of a staging keep that are calls of the library.
pub mod Layers
