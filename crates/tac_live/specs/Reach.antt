-- Views of the code, which private contracts cite: the search for the blocks at whose begin one temporary is live.
use Rattle.std.specs.Prelude.{◌≡◌, ℕ, ◌+◌, ◌<◌, ◌↔◌, Bool, true, false, not, nat_eq, List, [], ◌∷◌, ◌++◌, length}
use Rattle.std.specs.Prelude.{Option, Some, None, slice_get, slice_set, slice_index_or, count_by}
use Rattle.tac_form.specs.declared.graph.FlowBlock.{FlowBlock}
use Rattle.tac_form.specs.Live.{has, IsLive}
use Rattle.tac_live.specs.Flows.{is_marked, in_block, exposes, writes, leads, IsFlowOf}

-- which blocks were found, as marks, and in the order in which they were found
pub record Search : Type 0 where
  pub marks : List ℕ
  pub found : List ℕ

abbrev pub search : List ℕ → List ℕ → Search
search marks found = record { marks = marks; found = found }

abbrev pub found_if : (before : Bool) → (b turn : ℕ) → Search → Search
found_if true b turn s = s
found_if false b turn s = record { marks = slice_set s.marks b turn; found = s.found ++ b ∷ [] }

abbrev pub reached_at : (mark : Option ℕ) → (b turn : ℕ) → Search → Search
reached_at None b turn s = s
reached_at (Some m) b turn s = found_if (nat_eq m turn) b turn s

abbrev pub reached : (b turn : ℕ) → Search → Search
reached b turn s = reached_at (slice_get s.marks b) b turn s

abbrev pub reached_unless : (stops : Bool) → (b turn : ℕ) → Search → Search
reached_unless true b turn s = s
reached_unless false b turn s = reached b turn s

abbrev pub all_reached : (stops : List ℕ) → (bs : List ℕ) → (turn : ℕ) → Search → Search
all_reached stops [] turn s = s
all_reached stops (b ∷ bs) turn s = all_reached stops bs turn (reached_unless (is_marked stops b turn) b turn s)

-- exactly the blocks at whose begin a temporary is live
abbrev pub AreLive : List FlowBlock → (t : ℕ) → (found : List ℕ) → Type 0
AreLive graph t found = (b : ℕ) → (has found b ≡ true) ↔ IsLive graph b 0 t

-- whatever the graph and the temporary are by which the search goes
abbrev pub FindsLive : (exposed writers : List ℕ) → (before : List (List ℕ)) → (found : List ℕ) → Type 0
FindsLive exposed writers before found =
    (graph : List FlowBlock) (t : ℕ) → IsFlowOf graph t exposed writers before → AreLive graph t found

-- how many marks are not of a turn
abbrev pub unmarked_count : List ℕ → (turn : ℕ) → ℕ
unmarked_count marks turn = count_by (λ m. not (nat_eq m turn)) marks

-- what was found is marked and below the number of blocks, and no other mark is of the turn
pub record IsSearch (count turn : ℕ) (s : Search) : Type 0 where
  pub long : length s.marks ≡ count
  pub marks_are : (b : ℕ) → is_marked s.marks b turn ≡ has s.found b
  pub low : (b : ℕ) → slice_index_or s.marks b 0 < turn + 1
  pub fits : length s.found + unmarked_count s.marks turn ≡ count

-- from the first so many of what was found the search has gone on
pub record IsSearchOf (graph : List FlowBlock) (t i : ℕ) (found : List ℕ) : Type 0 where
  pub sound : (b : ℕ) → has found b ≡ true → IsLive graph b 0 t
  pub begun : (b : ℕ) → in_block exposes (slice_get graph b) t ≡ true → has found b ≡ true
  pub gone : (j p : ℕ) → j < i → in_block leads (slice_get graph p) (slice_index_or found j 0) ≡ true →
      in_block writes (slice_get graph p) t ≡ false → has found p ≡ true
