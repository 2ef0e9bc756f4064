-- Where a temporary is in use. A place is a block and a number of steps in it: before the step of that number, or,
-- behind the last, before the block's exit.
use Rattle.std.specs.Prelude.{ℕ, zero, suc, Bool, false, not, ◌&&◌, ◌||◌, nat_eq, IsTrue, List, Option, Some, None, slice_get}
use Rattle.std.specs.Prelude.{◌⊎◌}
use Rattle.std.specs.List.{list_any}
use Rattle.tac_form.specs.declared.graph.Step.{Step}
use Rattle.tac_form.specs.declared.graph.FlowBlock.{FlowBlock}

abbrev pub has : List ℕ → ℕ → Bool
has ts t = list_any (λ u. nat_eq u t) ts

abbrev pub is_written : Option ℕ → ℕ → Bool
is_written None t = false
is_written (Some d) t = nat_eq d t

-- read by a step, or read after it and not written by it
abbrev pub before_step : Step → (after : Bool) → ℕ → Bool
before_step s after t = has s.reads t || (not (is_written s.write t) && after)

-- read by an exit, or in a block that follows
abbrev pub before_exit : FlowBlock → (begins : ℕ → Bool) → ℕ → Bool
before_exit block begins t = has block.reads t || list_any begins block.next

abbrev pub at_step : FlowBlock → Option Step → (begins : ℕ → Bool) → (after : Bool) → ℕ → Bool
at_step block (Some s) begins after t = before_step s after t
at_step block None begins after t = before_exit block begins t

abbrev pub at_place : Option FlowBlock → (at : ℕ) → (begins : ℕ → Bool) → (after : Bool) → ℕ → Bool
at_place None at begins after t = false
at_place (Some block) at begins after t = at_step block (slice_get block.steps at) begins after t

-- whether a way of fewer than so many steps leads from a place to a read of the temporary, with no write between
abbrev pub read_within : List FlowBlock → (steps block at t : ℕ) → Bool
read_within graph zero b at t = false
read_within graph (suc k) b at t =
    at_place (slice_get graph b) at (λ c. read_within graph k c 0 t) (read_within graph k b (suc at) t) t

-- live: there is a way to a read with no write between
abbrev pub IsLive : List FlowBlock → (block at t : ℕ) → Type 0
IsLive graph b at t = (k : ℕ) × IsTrue (read_within graph k b at t)

abbrev pub step_writes : Option Step → ℕ → Bool
step_writes None t = false
step_writes (Some s) t = is_written s.write t

abbrev pub written_in : Option FlowBlock → ℕ → ℕ → Bool
written_in None at t = false
written_in (Some block) at t = step_writes (slice_get block.steps at) t

-- directly after a step that writes the temporary
abbrev pub is_just_written : List FlowBlock → (block at t : ℕ) → Bool
is_just_written graph b zero t = false
is_just_written graph b (suc at) t = written_in (slice_get graph b) at t

-- in use: live there, or written by the step before
abbrev pub InUse : List FlowBlock → (block at t : ℕ) → Type 0
InUse graph b at t = IsLive graph b at t ⊎ IsTrue (is_just_written graph b at t)
