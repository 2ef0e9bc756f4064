-- Numbers in a file.
use Rattle.std.proofs.Common.{◌≡◌, ℕ, zero, suc, ◌+◌, List, length, drop, refl, ap, ◌∙◌, arith, add-zero}
use Rattle.std.specs.List.{between}
use Rattle.std.proofs.lemmas.List.{get_or-drop}
use Rattle.std.proofs.lemmas.Slice.{between_to_end}
use Rattle.byteorder.specs.Endian.{little_from}
use Rattle.elf_image.specs.Fields.{number_at}

little_from-drop : (n i at : ℕ) (xs : List ℕ) → little_from i n (drop at xs) ≡ little_from (at + i) n xs
little_from-drop zero i at xs = refl
little_from-drop (suc n) i at xs =
    let step : little_from (at + suc i) n xs ≡ little_from (suc (at + i)) n xs = ap (λ (k : ℕ). little_from k n xs) (omega arith) in
    let rest : little_from (suc i) n (drop at xs) ≡ little_from (suc (at + i)) n xs = little_from-drop n (suc i) at xs ∙ step in
    rw (get_or-drop, rest) refl

-- what a read of the bytes from `at` on gives
pub number_at-drop : (size at : ℕ) (bytes : List ℕ) → little_from 0 size (drop at bytes) ≡ number_at size bytes at
unfolding number_at
number_at-drop size at bytes = little_from-drop size 0 at bytes ∙ ap (λ (k : ℕ). little_from k size bytes) (add-zero at)

-- the same of the slice from `at` to the end
pub number_at-rest : (size at : ℕ) (bytes : List ℕ) → little_from 0 size (between at (length bytes) bytes) ≡ number_at size bytes at
number_at-rest size at bytes =
    ap (λ (xs : List ℕ). little_from 0 size xs) (between_to_end bytes at (length bytes) (omega arith)) ∙ number_at-drop size at bytes
