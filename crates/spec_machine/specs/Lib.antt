-- The promise: what remains of a specialisation that is suspended, by the meaning of specialising in spec_model.
pub mod Rest
-- What later worlds keep of earlier ones. A reader can stop here.
pub mod Keeping
-- That it is kept by one step and the next.
pub mod Kept
-- Views of the code, which private contracts cite. How frames go on, and the language of a tree.
pub mod Frames
-- What the steps do.
pub mod Steps
-- Parameters and declarations.
pub mod Agreeing
-- Values as statements.
pub mod Splices
-- The limits of nodes and levels.
pub mod Limits
-- What stands in the place of a variable.
pub mod Variables
-- Types among values, and the terms of quotes.
pub mod Among
