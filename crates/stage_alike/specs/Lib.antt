-- The promise: texts that bind alike stage alike. A reader can stop here.
pub mod Same
