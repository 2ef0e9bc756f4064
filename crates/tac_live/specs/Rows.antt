-- Which temporaries are live where each block begins.
use Rattle.std.specs.Prelude.{◌≡◌, ℕ, ◌<◌, ◌≤◌, ◌↔◌, Bool, true, false, List, [], length, slice_index_or}
use Rattle.tac_form.specs.declared.graph.FlowBlock.{FlowBlock}
use Rattle.tac_form.specs.Live.{has, IsLive}

-- a row of temporaries for each block
abbrev pub in_rows : List (List ℕ) → (block t : ℕ) → Bool
in_rows rows b t = has (slice_index_or rows b []) t

-- The rows have exactly the temporaries below a number that are live where their blocks begin.
pub record AreLiveRows (graph : List FlowBlock) (count : ℕ) (rows : List (List ℕ)) : Type 0 where
  pub long : length rows ≡ length graph
  pub exact : (b t : ℕ) → t < count → (in_rows rows b t ≡ true) ↔ IsLive graph b 0 t
  pub no_others : (b t : ℕ) → count ≤ t → in_rows rows b t ≡ false
