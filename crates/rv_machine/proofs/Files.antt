-- The numbers in the fields of files are those of memory.
use Rattle.std.proofs.Common.{◌≡◌, ℕ, zero, suc, ◌+◌, ◌*◌, ◌≤◌, List, ◌∷◌, length, get_or, take, drop, refl, sym, ap, ◌∙◌, arith}
use Rattle.std.proofs.lemmas.List.{drop_more}
use Rattle.byteorder.specs.Endian.{little_from, little_number}
use Rattle.terra_memory.specs.Numbers.{number_of}

little_from-number_of : (i count : ℕ) (bytes : List ℕ) → i + count ≤ length bytes → little_from i count bytes ≡ number_of (take count (drop i bytes))
unfolding number_of
little_from-number_of i zero bytes inside = refl
little_from-number_of i (suc count) bytes inside =
    let first : drop i bytes ≡ get_or bytes i 0 ∷ drop (i + 1) bytes = drop_more bytes i 0 (omega arith) in
    let next : i + 1 ≡ suc i = omega arith in
    let rest : little_from (suc i) count bytes ≡ number_of (take count (drop (suc i) bytes)) = little_from-number_of (suc i) count bytes (omega arith) in
    ap (λ n. get_or bytes i 0 + 256 * n) (rest ∙ ap (λ n. number_of (take count (drop n bytes))) (sym next))
    ∙ sym (ap (λ b. number_of (take (suc count) b)) first)

pub little_number-number_of : (count : ℕ) (bytes : List ℕ) → count ≤ length bytes → little_number count bytes ≡ number_of (take count bytes)
little_number-number_of count bytes inside = little_from-number_of 0 count bytes (omega arith)
