-- Grammars as data, and their two meanings. Here by one name: what a grammar is made of (`Notation`), which lists of
-- tokens it reads (`Reading`), and what reading from left to right gives (`Running`).
pub use Rattle.tl_tree.specs.Notation.{Use, is_none_left, opens_too_deep, chain_too_long, is_too_deep, calls}
pub use Rattle.tl_tree.specs.Notation.{is_ambiguous, is_too_large, breaks, bar, is_of, begins, Grammar, Table, down}
pub use Rattle.tl_tree.specs.Notation.{all_levels, give, token, bind, when, many}
pub use Rattle.tl_tree.specs.Reading.{Rule, Parts, Opened, Turns, Reads, parts_at, Whole, stop, turn}
pub use Rattle.tl_tree.specs.Running.{Outcome, ◌>>=◌, blame, unexpected, unless, Readers, opened, turns, run}
pub use Rattle.tl_tree.specs.Running.{readers_at, below, Took, Stop}
