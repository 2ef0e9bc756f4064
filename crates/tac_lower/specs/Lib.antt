-- What is promised of lowered code. A reader can stop here.
pub mod Laws
-- The code of a typed term, its pieces, and code in a line.
pub mod Lowering
pub mod Pieces
pub mod Items
-- What lowering needs of a typed term.
pub mod Needs
-- What the code has of all this.
pub mod Data
pub mod Works
pub mod Parts
pub mod Views
