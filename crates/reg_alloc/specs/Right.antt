-- Which assignments are right.
use Rattle.std.specs.Prelude.{◌≢◌, ℕ, Bool, false, ◌&&◌, nat_le, nat_lt, IsTrue, List, length, Option, Some, slice_get}
use Rattle.tac_form.specs.declared.tac.Tac.{Tac}
use Rattle.reg_alloc.specs.declared.assignment.Home.{Home}
use Rattle.reg_alloc.specs.declared.assignment.Home.TheVariants.{Register, Slot}
use Rattle.tac_form.specs.Graph.{graph_of}
use Rattle.tac_form.specs.Live.{InUse}

-- one of the registers from x18 to x27, which calls keep, or a slot: an assignment has as many as temporaries
abbrev pub is_home : (slots : ℕ) → Home → Bool
is_home slots (Register x) = nat_le 18 x && nat_le x 27
is_home slots (Slot s) = nat_lt s slots

abbrev pub is_some_home : (slots : ℕ) → Option (Option Home) → Bool
is_some_home slots (Some (Some h)) = is_home slots h
is_some_home slots _ = false

abbrev pub has_home : List (Option Home) → ℕ → Bool
has_home homes t = is_some_home (length homes) (slice_get homes t)

-- Each temporary that is ever in use has a home, and no two that are in use at one place share it.
pub record IsRight (code : Tac) (homes : List (Option Home)) : Type 0 where
  pub homes_are : (block at t : ℕ) → InUse (graph_of code) block at t → IsTrue (has_home homes t)
  pub apart : (block at t u : ℕ) → InUse (graph_of code) block at t → InUse (graph_of code) block at u → t ≢ u →
      slice_get homes t ≢ slice_get homes u
