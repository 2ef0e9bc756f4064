-- Places of text, and accesses where eight bytes lie wholly in an area.
use Rattle.std.proofs.Common.{◌≡◌, ℕ, ◌+◌, ◌-◌, ◌^◌, ◌<◌, ◌≤◌, List, length, map, Option, Some, None, ap, ◌∙◌, arith}
use Rattle.std.specs.Prelude.{if◌then◌else◌, nat_le, slice_get, option_map, IfSome}
use Rattle.std.proofs.lemmas.Bool.{le-ltb, le-leb, lt-leb}
use Rattle.rv_isa.specs.declared.operation.LoadOp.{LoadOp}
use Rattle.rv_isa.specs.declared.operation.LoadOp.TheVariants.{Lb, Lh, Lw, Ld, Lbu, Lhu, Lwu}
use Rattle.rv_isa.specs.declared.operation.StoreOp.{StoreOp}
use Rattle.rv_isa.specs.declared.operation.StoreOp.TheVariants.{Sb, Sh, Sw, Sd}
use Rattle.rv_machine.specs.declared.decoded.Decoded.{Decoded}
use Rattle.rv_machine.specs.declared.memory.Place.TheVariants.{Region, Private}
use Rattle.rv_machine.specs.Word.{low}
use Rattle.rv_machine.specs.Place.{address_at}
use Rattle.rv_machine.specs.Decoded.{found_of}
use Rattle.rv_machine.specs.Machine.{fetch}
use Rattle.rv_machine.specs.Memory.{offset_in, place_of, place_in, place_in_private, load_width, store_width}
use Rattle.rv_machine.proofs.Programs.{fetch_at}

-- the word at the address of a place is the one of that number
pub fetch_place : (text : List Decoded) (place : ℕ) → place < 2 ^ 64 → length text < 2 ^ 62 - 2 ^ 14 → fetch (map found_of text) (address_at place) ≡ option_map found_of (slice_get text place)
unfolding address_at low
fetch_place text place fits short =
    fetch_at text (address_at place) place
    (λ from even. omega arith)
    (λ before. omega arith)
    (λ odd. omega arith)
    short

pub if_some : {A : Type 0} (o : Option A) (P : Type 0) → P → IfSome o (λ a. P)
if_some (Some a) P p = p
if_some None P p = tt

pub load_width-small : (op : LoadOp) → load_width op ≤ 8
load_width-small Lb = omega arith
load_width-small Lh = omega arith
load_width-small Lw = omega arith
load_width-small Ld = omega arith
load_width-small Lbu = omega arith
load_width-small Lhu = omega arith
load_width-small Lwu = omega arith

pub store_width-small : (op : StoreOp) → store_width op ≤ 8
store_width-small Sb = omega arith
store_width-small Sh = omega arith
store_width-small Sw = omega arith
store_width-small Sd = omega arith

within : (start size address width at : ℕ) → address ≡ start + at → at + width ≤ size → offset_in start size address width ≡ Some at
unfolding offset_in
within start size address width at is fits =
    let same : address - start ≡ at = omega arith in
    ap (λ b. if b then None else (if nat_le (address - start + width) size then Some (address - start) else None)) (le-ltb address start (omega arith))
    ∙ ap (λ b. if b then Some (address - start) else None) (le-leb (address - start + width) size (omega arith))
    ∙ ap Some same

past : (start size address width : ℕ) → start + size < address → offset_in start size address width ≡ None
unfolding offset_in
past start size address width beyond =
    ap (λ b. if b then None else (if nat_le (address - start + width) size then Some (address - start) else None)) (le-ltb address start (omega arith))
    ∙ ap (λ b. if b then Some (address - start) else None) (lt-leb (address - start + width) size (omega arith))

-- bytes that begin where eight bytes lie in private memory lie there, and so for the region
pub in_private : (region private address width at : ℕ) → region ≤ 67108864 → address ≡ 2 ^ 32 + at → at + 8 ≤ private → width ≤ 8 → place_of region private address width ≡ Some (Private at)
unfolding place_of
in_private region private address width at small is fits short =
    ap (λ o. place_in o (offset_in (2 ^ 32) private address width)) (past 0x40000000 region address width (omega arith))
    ∙ ap place_in_private (within (2 ^ 32) private address width at is (omega arith))

pub in_region : (region private address width at : ℕ) → address ≡ 0x40000000 + at → at + 8 ≤ region → width ≤ 8 → place_of region private address width ≡ Some (Region at)
unfolding place_of
in_region region private address width at is fits short =
    ap (λ o. place_in o (offset_in (2 ^ 32) private address width)) (within 0x40000000 region address width at is (omega arith))
