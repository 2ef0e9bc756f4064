-- Where the bytes of a file stand, and what is read of them.
use Rattle.std.proofs.Common.{◌≡◌, ℕ, zero, suc, ◌+◌, ◌^◌, ◌<◌, ◌≤◌, Bool, true, List, [], ◌∷◌, ◌++◌, length, get_or, slice_range, None}
use Rattle.std.proofs.Common.{refl, sym, ap, subst, ◌∙◌, arith, add-zero}
use Rattle.std.specs.Str.{bytes_eq}
use Rattle.std.proofs.lemmas.Bool.{eq-eqb}
use Rattle.std.proofs.lemmas.List.{length-append, get_or_append_left, get_or-append-add, ext_get_or, append-nil}
use Rattle.std.proofs.lemmas.Slice.Eq.{bytes_eq-Decides}
use Rattle.byteorder.specs.Endian.{little_from, little_bytes}
use Rattle.byteorder.specs.Numbers.{little_number-reads_back, length-bytes_low_first}
use Rattle.elf_image.specs.declared.error.ImageError.TheVariants.{BadField}
use Rattle.elf_image.specs.declared.rule.Rule.{Rule}
use Rattle.elf_image.specs.declared.rule.Rule.TheVariants.{Is}
use Rattle.elf_image.specs.Fields.{number_at, allows, unless, bad_bytes}
use Rattle.elf_image.specs.Written.{numbers}
use Rattle.elf_image.proofs.ReadLawful.{length-range, range_at}

-- the bytes `part` stand in `bytes` from offset `at` on
pub record Has (bytes : List ℕ) (at : ℕ) (part : List ℕ) : Type 0 where
  pub inside : at + length part ≤ length bytes
  pub each : (k : ℕ) → k < length part → get_or bytes (at + k) 0 ≡ get_or part k 0

pub Has-all : (bytes : List ℕ) → Has bytes 0 bytes
Has-all bytes = record { inside = omega arith; each = λ k lt. ap (λ (j : ℕ). get_or bytes j 0) (omega arith) }

pub Has-left : (bytes : List ℕ) (at : ℕ) (a b : List ℕ) → Has bytes at (a ++ b) → Has bytes at a
Has-left bytes at a b h =
    let len = length-append a b in
    let inside : at + length (a ++ b) ≤ length bytes = h.inside in
    record {
      inside = omega arith;
      each = λ k lt. h.each k (omega arith) ∙ get_or_append_left a b 0 k lt;
    }

pub Has-right : (bytes : List ℕ) (at : ℕ) (a b : List ℕ) → Has bytes at (a ++ b) → Has bytes (at + length a) b
Has-right bytes at a b h =
    let len = length-append a b in
    let inside : at + length (a ++ b) ≤ length bytes = h.inside in
    record {
      inside = omega arith;
      each = λ k lt.
          let place : at + length a + k ≡ at + (length a + k) = omega arith in
          ap (λ (j : ℕ). get_or bytes j 0) place ∙ h.each (length a + k) (omega arith) ∙ get_or-append-add a b k 0;
    }

-- the same at an offset that is known otherwise
pub Has-at : (bytes : List ℕ) (at at' : ℕ) (part : List ℕ) → at ≡ at' → Has bytes at part → Has bytes at' part
Has-at bytes at at' part e h = subst (λ (k : ℕ). Has bytes k part) e h

pub Has-next : (bytes : List ℕ) (at next : ℕ) (a b : List ℕ) → Has bytes at (a ++ b) → at + length a ≡ next → Has bytes next b
Has-next bytes at next a b h e = Has-at bytes (at + length a) next b e (Has-right bytes at a b h)

-- ---- numbers

from-has : (n i : ℕ) (bytes part : List ℕ) (at : ℕ) → Has bytes at part → i + n ≤ length part → little_from (at + i) n bytes ≡ little_from i n part
from-has zero i bytes part at h le = refl
from-has (suc n) i bytes part at h le =
    let byte : get_or bytes (at + i) 0 ≡ get_or part i 0 = h.each i (omega arith) in
    let step : little_from (suc (at + i)) n bytes ≡ little_from (at + suc i) n bytes = ap (λ (j : ℕ). little_from j n bytes) (omega arith) in
    let rest : little_from (suc (at + i)) n bytes ≡ little_from (suc i) n part = step ∙ from-has n (suc i) bytes part at h (omega arith) in
    rw (byte, rest) refl

-- a number that was written is read
pub number-has : (size value at : ℕ) (bytes : List ℕ) → Has bytes at (little_bytes size value) → value < 256 ^ size → number_at size bytes at ≡ value
unfolding number_at
number-has size value at bytes h lt =
    let len : length (little_bytes size value) ≡ size = length-bytes_low_first 0 size value in
    let start : little_from at size bytes ≡ little_from (at + 0) size bytes = ap (λ (j : ℕ). little_from j size bytes) (sym (add-zero at)) in
    let read : little_from 0 size (little_bytes size value) ≡ value = ap (λ (xs : List ℕ). little_from 0 size xs) (sym (append-nil (little_bytes size value))) ∙ little_number-reads_back size value [] lt in
    start ∙ from-has size 0 bytes (little_bytes size value) at h (omega arith) ∙ read

-- the bytes of rows
abbrev pub rows_size : List (ℕ × ℕ) → ℕ
rows_size [] = 0
rows_size (row ∷ rows) = row.0 + rows_size rows

pub length-numbers : (rows : List (ℕ × ℕ)) → length (numbers rows) ≡ rows_size rows
unfolding numbers
length-numbers [] = refl
length-numbers (row ∷ rows) =
    let a = length-append (little_bytes row.0 row.1) (numbers rows) in
    let b : length (little_bytes row.0 row.1) ≡ row.0 = length-bytes_low_first 0 row.0 row.1 in
    let c = length-numbers rows in
    omega arith

-- each number fits its bytes
abbrev pub AllFit : List (ℕ × ℕ) → Type 0
AllFit [] = Unit {0}
AllFit (row ∷ rows) = (row.1 < 256 ^ row.0) × AllFit rows

-- the rows are read from `base + offset` on
abbrev pub Holds : List ℕ → ℕ → ℕ → List (ℕ × ℕ) → Type 0
Holds bytes base offset [] = Unit {0}
Holds bytes base offset (row ∷ rows) = (number_at row.0 bytes (base + offset) ≡ row.1) × Holds bytes base (offset + row.0) rows

pub holds : (bytes : List ℕ) (base offset : ℕ) (rows : List (ℕ × ℕ)) → Has bytes (base + offset) (numbers rows) → AllFit rows → Holds bytes base offset rows
unfolding numbers
holds bytes base offset [] h f = tt
holds bytes base offset (row ∷ rows) h f =
    let len : length (little_bytes row.0 row.1) ≡ row.0 = length-bytes_low_first 0 row.0 row.1 in (
      number-has row.0 row.1 (base + offset) bytes (Has-left bytes (base + offset) (little_bytes row.0 row.1) (numbers rows) h) f.0,
      holds bytes base (offset + row.0) rows (Has-next bytes (base + offset) (base + (offset + row.0)) (little_bytes row.0 row.1) (numbers rows) h (omega arith)) f.1,
    )

-- ---- runs of bytes

pub range-has : (bytes : List ℕ) (at size : ℕ) (part : List ℕ) → Has bytes at part → length part ≡ size → slice_range bytes at (at + size) ≡ part
range-has bytes at size part h e =
    let inside : at + length part ≤ length bytes = h.inside in
    let len = length-range at size bytes (omega arith) in
    ext_get_or 0 (slice_range bytes at (at + size)) part (omega arith) (λ k lt. range_at at size k bytes (omega arith) ∙ h.each k (omega arith))

pub bytes_eq-refl : (xs : List ℕ) → bytes_eq xs xs ≡ true
bytes_eq-refl xs = (bytes_eq-Decides xs xs).1 refl

-- ---- what a field may hold

pub is_allowed : (n value : ℕ) → n ≡ value → allows (Is value) n ≡ true
is_allowed n value e = eq-eqb n value e

pub by_rule : (rule : Rule) (n value : ℕ) → n ≡ value → allows rule value ≡ true → allows rule n ≡ true
by_rule rule n value e h = ap (allows rule) e ∙ h

-- a field of bytes that stand there
pub bytes_stand : (bytes : List ℕ) (base offset : ℕ) (part : List ℕ) → Has bytes (base + offset) part → bad_bytes bytes base offset part ≡ None
unfolding bad_bytes
bytes_stand bytes base offset part h =
    let e : slice_range bytes (base + offset) (base + offset + length part) ≡ part = range-has bytes (base + offset) (length part) part h refl in
    ap (λ (xs : List ℕ). unless (bytes_eq xs part) (BadField (base + offset))) e ∙ ap (λ (t : Bool). unless t (BadField (base + offset))) (bytes_eq-refl part)
