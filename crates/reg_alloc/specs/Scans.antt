-- Views of the code, which private contracts cite: the scan over intervals, which gives homes.
use Rattle.std.specs.Prelude.{◌≡◌, ◌≢◌, ℕ, ◌+◌, ◌<◌, ◌≤◌, Bool, true, false, nat_lt, IsTrue, ◌⊎◌, List, length}
use Rattle.std.specs.Prelude.{Option, Some, None, slice_get, slice_set, slice_index_or}
use Rattle.reg_alloc.specs.declared.assignment.Home.{Home}
use Rattle.reg_alloc.specs.declared.assignment.Home.TheVariants.{Register, Slot}
use Rattle.reg_alloc.specs.declared.spans.Span.{Span}
use Rattle.reg_alloc.specs.declared.scan.Holder.{Holder}
use Rattle.reg_alloc.specs.Right.{has_home}
use Rattle.reg_alloc.specs.Noted.{Covers, span_at}
use Rattle.reg_alloc.specs.Intervals.{HasSlot}

abbrev pub home_at : List (Option Home) → ℕ → Option Home
home_at homes t = slice_index_or homes t None

-- the holder of a register, from x18 on, is the temporary that got it last
abbrev pub holder_at : List (Option Holder) → ℕ → Option Holder
holder_at holders r = slice_index_or holders r None

-- a register is free from a place on
abbrev pub is_free : Option Holder → (place : ℕ) → Bool
is_free None place = true
is_free (Some h) place = nat_lt h.last place

abbrev pub AllBusy : List (Option Holder) → (place : ℕ) → Type 0
AllBusy holders place = (r : ℕ) → r < length holders → is_free (holder_at holders r) place ≡ false

-- the place up to which a register is held
abbrev pub last_of : Option Holder → ℕ
last_of None = 0
last_of (Some h) = h.last

-- the homes so far, the holders of the registers, and how many slots were given
pub record Scan : Type 0 where
  pub homes : List (Option Home)
  pub holders : List (Option Holder)
  pub slots : ℕ

abbrev pub scan_of : List (Option Home) → List (Option Holder) → ℕ → Scan
scan_of homes holders slots = record { homes = homes; holders = holders; slots = slots }

-- a temporary gets a register up to a place
abbrev pub held : (r t last : ℕ) → Scan → Scan
held r t last s = record {
  homes = slice_set s.homes t (Some (Register (18 + r)));
  holders = slice_set s.holders r (Some (record { temp = t; last = last }));
  slots = s.slots;
}

-- a temporary gets the next slot
abbrev pub spilled : (t : ℕ) → Scan → Scan
spilled t s = record { homes = slice_set s.homes t (Some (Slot s.slots)); holders = s.holders; slots = s.slots + 1 }

-- the first way: a register is free
pub record TakesFree (old : Scan) (t : ℕ) (s : Span) (new : Scan) : Type 0 where
  pub register : ℕ
  pub there : register < length old.holders
  pub free : is_free (holder_at old.holders register) s.first ≡ true
  pub new_is : new ≡ held register t s.last old

-- the second: none is, and one whose holder ends later goes over, while the holder gets a slot
pub record TakesOver (old : Scan) (t : ℕ) (s : Span) (new : Scan) : Type 0 where
  pub register : ℕ
  pub holder : Holder
  pub there : register < length old.holders
  pub busy : AllBusy old.holders s.first
  pub holder_is : holder_at old.holders register ≡ Some holder
  pub later : s.last < holder.last
  pub latest : (r : ℕ) → r < length old.holders → last_of (holder_at old.holders r) ≤ holder.last
  pub new_is : new ≡ held register t s.last (spilled holder.temp old)

-- the third: none is, and none ends later
pub record TakesSlot (old : Scan) (t : ℕ) (s : Span) (new : Scan) : Type 0 where
  pub busy : AllBusy old.holders s.first
  pub none_later : (r : ℕ) → r < length old.holders → last_of (holder_at old.holders r) ≤ s.last
  pub new_is : new ≡ spilled t old

-- a temporary whose interval begins gets a home
abbrev pub Begins : (old : Scan) → (t : ℕ) → Span → (new : Scan) → Type 0
Begins old t s new = TakesFree old t s new ⊎ TakesOver old t s new ⊎ TakesSlot old t s new

abbrev pub BeginsIf : (old : Scan) → (t : ℕ) → Option Span → (new : Scan) → Type 0
BeginsIf old t None new = new ≡ old
BeginsIf old t (Some s) new = Begins old t s new

-- eleven intervals contain one place
pub record AreCrowded (spans : List (Option Span)) : Type 0 where
  pub place : ℕ
  pub temps : ℕ → ℕ
  pub apart : (i j : ℕ) → i < 11 → j < 11 → temps i ≡ temps j → i ≡ j
  pub covers : (i : ℕ) → i < 11 → Covers spans (temps i) place

abbrev pub AreDisjoint : Span → Span → Type 0
AreDisjoint s r = (s.last < r.first) ⊎ (r.last < s.first)

-- Homes for intervals: each temporary with an interval has one, two with one home have disjoint intervals, and there is a
-- slot only where eleven intervals contain one place.
pub record AreHomes (spans : List (Option Span)) (homes : List (Option Home)) : Type 0 where
  pub long : length homes ≡ length spans
  pub homes_are : (t : ℕ) (s : Span) → span_at spans t ≡ Some s → IsTrue (has_home homes t)
  pub apart : (t u : ℕ) (s r : Span) → span_at spans t ≡ Some s → span_at spans u ≡ Some r → t ≢ u →
      slice_get homes t ≡ slice_get homes u → AreDisjoint s r
  pub few : HasSlot homes → AreCrowded spans

abbrev pub is_slot : Option Home → Bool
is_slot (Some (Slot s)) = true
is_slot _ = false
