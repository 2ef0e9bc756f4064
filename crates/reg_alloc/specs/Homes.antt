-- Views of the code, which private contracts cite: homes that are taken one after the other.
use Rattle.std.specs.Prelude.{◌≡◌, ◌≢◌, ℕ, zero, suc, ◌+◌, ◌-◌, ◌<◌, ◌≤◌, Bool, true, false, ◌&&◌, ◌||◌, nat_lt, nat_le, if◌then◌else◌}
use Rattle.std.specs.Prelude.{List, length, Option, Some, None, slice_get, slice_set, slice_index_or}
use Rattle.std.specs.List.{list_all}
use Rattle.reg_alloc.specs.declared.assignment.Home.{Home}
use Rattle.reg_alloc.specs.declared.assignment.Home.TheVariants.{Register, Slot}
use Rattle.tac_form.specs.declared.graph.Step.{Step}
use Rattle.tac_form.specs.declared.graph.FlowBlock.{FlowBlock}
use Rattle.tac_form.specs.Live.{step_writes}
use Rattle.reg_alloc.specs.Right.{has_home}
use Rattle.tac_live.specs.Rows.{in_rows}
use Rattle.tac_live.specs.Sets.{at, before_from}

-- the number of a home among all: the slots, and behind them the registers
abbrev pub home_number : (slots : ℕ) → Option Home → Option ℕ
home_number slots None = None
home_number slots (Some (Register x)) = if nat_le 18 x && nat_le x 27 then Some (slots + (x - 18)) else None
home_number slots (Some (Slot s)) = if nat_lt s slots then Some s else None

-- a home with a number was free and is taken now
abbrev pub TakesNumber : Option ℕ → List Bool → List Bool → Bool → Type 0
TakesNumber None old new free = free ≡ false
TakesNumber (Some n) old new free =
    (free ≡ true → (at old n ≡ false) × (new ≡ slice_set old n true)) × (free ≡ false → at old n ≡ true)

abbrev pub Takes : (slots : ℕ) → Option Home → List Bool → List Bool → Bool → Type 0
Takes slots home old new free = TakesNumber (home_number slots home) old new free

-- the homes of the temporaries below a number are right where these are in use
pub record AreRightBelow (homes : List (Option Home)) (below : ℕ) (used : ℕ → Bool) : Type 0 where
  pub homes_are : (t : ℕ) → t < below → used t ≡ true → has_home homes t ≡ true
  pub apart : (t u : ℕ) → t < below → u < below → used t ≡ true → used u ≡ true → t ≢ u → slice_get homes t ≢ slice_get homes u

abbrev pub IsRightSet : List (Option Home) → List Bool → Type 0
IsRightSet homes set = AreRightBelow homes (length homes) (λ t. at set t)

-- what is in use at a place of a block, by what is live where blocks begin
abbrev pub just_written : List Step → ℕ → ℕ → Bool
just_written steps zero t = false
just_written steps (suc i) t = step_writes (slice_get steps i) t

abbrev pub used_from : List (List ℕ) → FlowBlock → ℕ → ℕ → Bool
used_from rows block i t = just_written block.steps i t || before_from block i (λ c. in_rows rows c t) t

abbrev pub IsBlockRight : List (Option Home) → List (List ℕ) → FlowBlock → Type 0
IsBlockRight homes rows block =
    (i : ℕ) → i ≤ length block.steps → AreRightBelow homes (length homes) (λ t. used_from rows block i t)

-- the first blocks are right
abbrev pub AreBlocksRight : List (Option Home) → List (List ℕ) → List FlowBlock → ℕ → Type 0
AreBlocksRight homes rows graph below =
    (c : ℕ) (block : FlowBlock) → c < below → slice_get graph c ≡ Some block → IsBlockRight homes rows block

-- the homes of the temporaries below a number are right and taken, and no others are
pub record IsTaken (homes : List (Option Home)) (set : List Bool) (below : ℕ) (taken : List Bool) : Type 0 where
  pub long : length taken ≡ length homes + 10
  pub right : AreRightBelow homes below (λ t. at set t)
  pub theirs : (t n : ℕ) → t < below → at set t ≡ true →
      home_number (length homes) (slice_index_or homes t None) ≡ Some n → at taken n ≡ true
  pub no_others : (n : ℕ) → at taken n ≡ true →
      (t : ℕ) × (t < below) × (at set t ≡ true) × (home_number (length homes) (slice_index_or homes t None) ≡ Some n)

-- all temporaries have numbers below this
abbrev pub all_below : ℕ → List ℕ → Bool
all_below count ts = list_all (λ t. nat_lt t count) ts

abbrev pub write_below : ℕ → Option ℕ → Bool
write_below count None = true
write_below count (Some t) = nat_lt t count

abbrev pub step_below : ℕ → Step → Bool
step_below count s = write_below count s.write && all_below count s.reads

abbrev pub steps_below : ℕ → List Step → Bool
steps_below count ss = list_all (step_below count) ss

abbrev pub block_below : ℕ → FlowBlock → Bool
block_below count b = steps_below count b.steps && all_below count b.reads

abbrev pub are_below : ℕ → List FlowBlock → Bool
are_below count graph = list_all (block_below count) graph

-- a home is taken where its temporary is in use, and else nothing
abbrev pub TakesIf : Bool → (slots : ℕ) → Option Home → List Bool → List Bool → Bool → Type 0
TakesIf false slots home old new free = (free ≡ true) × (new ≡ old)
TakesIf true slots home old new free = Takes slots home old new free
