-- Which temporaries are live where each block begins.
pub mod Rows
-- The blocks at whose begin one temporary is live, and views of the search.
pub mod Reach
-- Sets of temporaries as flags, and what is live within a block.
pub mod Sets
-- Views of the code, which private contracts cite.
pub mod Flows
