-- What the code of each instruction does, whatever is in use before and after it.
use Rattle.std.proofs.Common.{◌≡◌, ◌≢◌, ℕ, ◌+◌, ◌^◌, ◌<◌, ◌≤◌, false, true, List, [], ◌++◌, length, Option, Some, None}
use Rattle.tl_base.specs.declared.place.Place.{Place}
use Rattle.rv_isa.specs.declared.instr.Instr.{Instr}
use Rattle.rv_machine.specs.Machine.{State}
use Rattle.terra_words.specs.declared.words.BinaryOperator.{BinaryOperator}
use Rattle.terra_words.specs.declared.words.FaultKind.TheVariants.{BadAddress, DivZero}
use Rattle.terra_words.specs.Words.{applied, divides, wrapped}
use Rattle.terra_words.specs.Runs.{put_bytes}
use Rattle.terra_memory.specs.Numbers.{low_bytes, number_of}
use Rattle.terra_memory.specs.Region.{Contents, end_address, range_of}
use Rattle.tac_form.specs.declared.tac.Size.{Size}
use Rattle.tac_form.specs.declared.tac.Address.{Address}
use Rattle.tac_form.specs.declared.tac.Address.TheVariants.{Word, Frame}
use Rattle.tac_form.specs.declared.tac.Spot.TheVariants as spots
use Rattle.tac_form.specs.declared.tac.Number.{Number}
use Rattle.tac_form.specs.declared.tac.Operand.{Operand}
use Rattle.tac_form.specs.declared.tac.Instruction.TheVariants.{Copy}
use Rattle.tac_form.specs.Flow.{bytes_of, put, width_of}
use Rattle.rv_operators.specs.Runs.{Stands}
use Rattle.rv_select.specs.Places.{HasHome, IsFirst, IsHeld, Layout, World, Holds, Housed, IsRead, value_in}
use Rattle.rv_select.specs.Shapes.{copied, computed, divisor_tested, held_after, is_five, is_turned, loaded, located, put_at, stored}
use Rattle.rv_select.specs.Steps.{AreFewer, Comes, Ends, Follows, IsPlace, behind, with_temp}

-- The machine comes somewhere with the word of a temporary in T0, or in the register that is its home.
pub record Gives (y : Layout) (program : List (Option Instr)) (Next : ℕ → Type 0) (w : World) (base most target d : ℕ) (m : State) : Type 0 where
  pub comes : Comes y program Next w base most target [] m
  pub five : IsHeld y (Some d) w.temps comes.after

-- a copy
abbrev pub CopiesAreCarried : Type 1
CopiesAreCarried =
    (y : Layout) (held : Option ℕ) (d : ℕ) (a : Operand) (Used Next : ℕ → Type 0) (w : World) (base : ℕ) (program : List (Option Instr)) (m : State) →
    Stands program m.pc (copied y held d a) → IsHeld y held w.temps m → Holds y Used w base m → Housed y Used → Housed y Next →
    IsFirst y held Used a → Next d → HasHome y d → Follows Used Next d →
    (c : Comes y program Next (with_temp w d (value_in w.temps a)) base (length (copied y held d a)) (behind m (copied y held d a)) [] m) ×
    IsHeld y (held_after (Copy d a)) (with_temp w d (value_in w.temps a)).temps c.after

-- an operator on numbers, whose divisor isn't zero
abbrev pub OperatorsAreCarried : Type 1
OperatorsAreCarried =
    (y : Layout) (held : Option ℕ) (d : ℕ) (op : BinaryOperator) (form : Number) (a b : Operand) (Used Next : ℕ → Type 0) (w : World) (base : ℕ)
    (program : List (Option Instr)) (m : State) →
    Stands program m.pc (computed y held d op (width_of form) a b) → IsHeld y held w.temps m → (divides op ≡ true → value_in w.temps b ≢ 0) →
    Holds y Used w base m → Housed y Used → Housed y Next →
    (is_turned held op b ≡ false → is_five y held b ≡ false → IsFirst y held Used a × IsRead y Used b) →
    (is_five y held b ≡ true → IsFirst y held Used b) → (is_turned held op b ≡ false → is_five y held b ≡ true → IsFirst y held Used a) →
    (is_turned held op b ≡ true → IsFirst y held Used b × IsRead y Used a) → Next d → Follows Used Next d →
    Gives y program Next (with_temp w d (applied (width_of form) op (value_in w.temps a) (value_in w.temps b))) base
    (length (computed y held d op (width_of form) a b)) (behind m (computed y held d op (width_of form) a b)) d m

-- a test of a divisor: the run goes on where it isn't zero, and ends by a fault where it is
abbrev pub DivisorsAreTested : Type 1
DivisorsAreTested =
    (y : Layout) (held : Option ℕ) (at : Place) (a : Operand) (Used Next : ℕ → Type 0) (w : World) (base : ℕ) (program : List (Option Instr)) (m : State) →
    Stands program m.pc (divisor_tested y held at a) → IsHeld y held w.temps m → IsPlace at → Holds y Used w base m → Housed y Used → IsFirst y held Used a → AreFewer Used Next →
    (value_in w.temps a ≢ 0 → Comes y program Next w base (length (divisor_tested y held at a)) (behind m (divisor_tested y held at a)) [] m)
    × (value_in w.temps a ≡ 0 → Ends program DivZero at (length (divisor_tested y held at a)) m)

-- the address of an offset of the frame in the region
abbrev pub AddressesAreCarried : Type 1
AddressesAreCarried =
    (y : Layout) (d offset : ℕ) (Used Next : ℕ → Type 0) (w : World) (base : ℕ) (program : List (Option Instr)) (m : State) →
    Stands program m.pc (located offset ++ put_at y d) → w.placed + offset < 2 ^ 64 →
    Holds y Used w base m → Housed y Used → Housed y Next → Next d → Follows Used Next d →
    Gives y program Next (with_temp w d (w.placed + offset)) base (length (located offset ++ put_at y d)) (behind m (located offset ++ put_at y d)) d m

-- an address, and what has to be there where it is reached without a test
abbrev pub address_in : World → Address → ℕ
address_in w (Word a) = value_in w.temps a
address_in w (Frame offset) = w.placed + offset

abbrev pub IsReached : Layout → (held : Option ℕ) → (ℕ → Type 0) → World → (size : ℕ) → Address → Type 0
IsReached y held Used w size (Word a) = IsFirst y held Used a
IsReached y held Used w size (Frame offset) = w.placed + offset + size ≤ end_address w.region

-- what three-address code sees with another region
abbrev pub with_region : World → Contents → World
with_region w r = record w { region = r }

-- a load from the region
abbrev pub RegionLoadsAreCarried : Type 1
RegionLoadsAreCarried =
    (y : Layout) (held : Option ℕ) (d : ℕ) (form : Number) (at : Place) (a : Address) (Used Next : ℕ → Type 0) (w : World) (base : ℕ) (program : List (Option Instr)) (m : State) →
    Stands program m.pc (loaded y held d form (spots.Region at a)) → IsHeld y held w.temps m → IsPlace at → IsReached y held Used w (bytes_of form.size) a →
    Holds y Used w base m → Housed y Used → Housed y Next → Next d → Follows Used Next d →
    ((bs : List ℕ) → range_of w.region (address_in w a) (bytes_of form.size) ≡ Some bs →
    Gives y program Next (with_temp w d (wrapped (width_of form) (number_of bs))) base (length (loaded y held d form (spots.Region at a)))
    (behind m (loaded y held d form (spots.Region at a))) d m)
    × (range_of w.region (address_in w a) (bytes_of form.size) ≡ None → Ends program BadAddress at (length (loaded y held d form (spots.Region at a))) m)

-- a store to the region
abbrev pub RegionStoresAreCarried : Type 1
RegionStoresAreCarried =
    (y : Layout) (held : Option ℕ) (size : Size) (at : Place) (a : Address) (b : Operand) (Used Next : ℕ → Type 0) (w : World) (base : ℕ) (program : List (Option Instr)) (m : State) →
    Stands program m.pc (stored y held (spots.Region at a) size b) → IsHeld y held w.temps m → IsPlace at → IsReached y held Used w (bytes_of size) a → IsRead y Used b →
    Holds y Used w base m → Housed y Used → AreFewer Used Next →
    ((r : Contents) → put_bytes w.region (address_in w a) (low_bytes (bytes_of size) (value_in w.temps b)) ≡ Some r →
    Comes y program Next (with_region w r) base (length (stored y held (spots.Region at a) size b)) (behind m (stored y held (spots.Region at a) size b)) [] m)
    × (put_bytes w.region (address_in w a) (low_bytes (bytes_of size) (value_in w.temps b)) ≡ None →
    Ends program BadAddress at (length (stored y held (spots.Region at a) size b)) m)

-- what three-address code sees when an area has other bytes
abbrev pub with_area : World → ℕ → List ℕ → World
with_area w n bs = record w { areas = put w.areas n bs }
