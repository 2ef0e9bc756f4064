-- The promise: what remains of the typing of a body that is suspended, by the meaning of typing in check_model.
pub mod Rest
-- What later worlds keep of earlier ones. A reader can stop here.
pub mod Keeping
-- That it is kept by one step and the next.
pub mod Kept
-- Views of the code, which private contracts cite. How frames go on, and the language of bodies.
pub mod Frames
-- What the steps do.
pub mod Steps
-- Definitions of functions.
pub mod Functions
-- What forms of types say.
pub mod Forms
-- What is called without being typed.
pub mod Callees
-- What asks Lua.
pub mod Asking
-- Comparisons with `nil`.
pub mod Retyping
-- What is ahead in a typed quote, and what that does with names.
pub mod Quoted
