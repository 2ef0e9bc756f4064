-- The answers and ends that the layers share, and what they keep of the world.
pub mod Ends
pub mod Kept
-- One page for each layer: its plans, its frames, its meaning.
pub mod Total
pub mod Nest
pub mod Sums
-- What remains of each where it is suspended: the same three lines for every layer.
pub mod Rest
-- The stage of all of them.
pub mod Staged
