-- Views of the code: the promise is that of terra_meaning, over the trees of a store's nodes.
pub mod Trees
-- What the code has and gives, as the meaning has it.
pub mod Data
pub mod Variables
pub mod Views
pub mod Framing
pub mod Rounds
pub mod Beginning
