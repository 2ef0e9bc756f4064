-- The layers as one.
pub mod Layers
-- Layers of their own: functions of the library that ask, and result types.
pub mod Asking
pub mod Results
-- What each turn keeps.
pub mod Keeping
