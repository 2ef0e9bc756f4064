-- What specialisation promises of worlds.
pub mod Sound
pub mod Places
