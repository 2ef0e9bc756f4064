-- The intervals of temporaries: from the first to the last place at which they are in use, in the order of the code.
use Rattle.std.specs.Prelude.{◌≡◌, ℕ, suc, ◌+◌, ◌<◌, ◌≤◌, List, length, take, sum_by, Option, Some, slice_get, MatchOption}
use Rattle.tac_form.specs.declared.graph.FlowBlock.{FlowBlock}
use Rattle.tac_form.specs.Live.{InUse}
use Rattle.reg_alloc.specs.declared.assignment.Home.{Home}
use Rattle.reg_alloc.specs.declared.assignment.Home.TheVariants.{Slot}

-- a block has a place before each of its steps, and one before its exit
abbrev pub places_in : FlowBlock → ℕ
places_in block = suc (length block.steps)

abbrev pub IsPlace : List FlowBlock → (block at : ℕ) → Type 0
IsPlace graph block at = MatchOption (slice_get graph block) ⊥ (λ b. at ≤ length b.steps)

-- The number of a place in the order of the code: blocks in their order, and the places of a block in theirs.
abbrev pub place_number : List FlowBlock → (block at : ℕ) → ℕ
place_number graph block at = sum_by places_in (take block graph) + at

-- a temporary is in use at the place of a number
pub record IsUsedAt (graph : List FlowBlock) (t number : ℕ) : Type 0 where
  pub block : ℕ
  pub at : ℕ
  pub there : IsPlace graph block at
  pub numbered : place_number graph block at ≡ number
  pub used : InUse graph block at t

-- The interval of a temporary reaches from the first to the last place at which it is in use: it contains the places that
-- lie between two of these, and these.
pub record IsWithin (graph : List FlowBlock) (t number : ℕ) : Type 0 where
  pub from : ℕ
  pub to : ℕ
  pub begins : from ≤ number
  pub ends : number ≤ to
  pub first_used : IsUsedAt graph t from
  pub last_used : IsUsedAt graph t to

-- A place lies in the intervals of eleven temporaries, which are more than there are registers from x18 to x27.
pub record IsCrowded (graph : List FlowBlock) : Type 0 where
  pub number : ℕ
  pub temps : ℕ → ℕ
  pub apart : (i j : ℕ) → i < 11 → j < 11 → temps i ≡ temps j → i ≡ j
  pub within : (i : ℕ) → i < 11 → IsWithin graph (temps i) number

abbrev pub HasSlot : List (Option Home) → Type 0
HasSlot homes = (t s : ℕ) × (slice_get homes t ≡ Some (Some (Slot s)))
