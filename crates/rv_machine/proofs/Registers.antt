-- The registers at the start.
use Rattle.std.proofs.Common.{◌≡◌, ℕ, zero, suc, ◌+◌, ◌-◌, List, ◌∷◌, ◌++◌, length, get_or, refl, sym, ap, ◌∙◌, arith}
use Rattle.std.specs.Prelude.{slice_index}
use mathlib.Core.Path.{fun_ext}
use Rattle.rv_machine.specs.Machine.{start_registers}
use Rattle.std.proofs.Common.{drop, replicate, ⊎_elim}
use Rattle.std.specs.Prelude.{nat_eq, nat_lt, if◌then◌else◌}
use Rattle.std.proofs.lemmas.Bool.{cases_lt, le-ltb, ne_eqb}
use Rattle.std.proofs.lemmas.List.{get_or-replicate, get_or_past, get_or-drop, length-replicate, get_or_append_left, get_or-append_right}

zeros_at : (n i : ℕ) → get_or {A = ℕ} (replicate n 0) i 0 ≡ 0
zeros_at n i =
    ⊎_elim
    (λ lt. get_or-replicate n i 0 0 lt)
    (λ ge. get_or_past (replicate n 0) i 0 (omega (arith, length-replicate {A = ℕ} n 0)))
    (cases_lt i n)

-- the arguments, and zeros past them
arguments_at : (arguments : List ℕ) (count k i : ℕ) → get_or {A = ℕ} (arguments ++ drop k (replicate count 0)) i 0 ≡ get_or arguments i 0
arguments_at arguments count k i =
    ⊎_elim
    (λ lt. get_or_append_left arguments (drop k (replicate count 0)) 0 i lt)
    (λ ge.
    get_or-append_right arguments (drop k (replicate count 0)) (length arguments) i 0 refl ge
    ∙ get_or-drop k (replicate count 0) (i - length arguments) 0
    ∙ zeros_at count (k + (i - length arguments))
    ∙ sym (get_or_past arguments i 0 ge))
    (cases_lt i (length arguments))

start_registers-past : (end heap limit : ℕ) (arguments : List ℕ) (n m : ℕ) → n ≡ m + 10 → start_registers end heap limit arguments n ≡ slice_index arguments m
start_registers-past end heap limit arguments n m e =
    ap (λ b. if b then end else (if nat_eq n 3 then heap else (if nat_eq n 4 then limit else (if nat_lt n 10 then 0 else slice_index arguments (n - 10))))) (ne_eqb n 2 (λ h. omega arith))
    ∙ ap (λ b. if b then heap else (if nat_eq n 4 then limit else (if nat_lt n 10 then 0 else slice_index arguments (n - 10)))) (ne_eqb n 3 (λ h. omega arith))
    ∙ ap (λ b. if b then limit else (if nat_lt n 10 then 0 else slice_index arguments (n - 10))) (ne_eqb n 4 (λ h. omega arith))
    ∙ ap (λ b. if b then 0 else slice_index arguments (n - 10)) (le-ltb n 10 (omega arith))
    ∙ (let place : n - 10 ≡ m = omega arith in ap (slice_index arguments) place)

-- x2, then zeros, then the arguments at x10 and after it
registers_at : (end heap limit : ℕ) (arguments : List ℕ) (k n : ℕ) → slice_index (0 ∷ 0 ∷ end ∷ heap ∷ limit ∷ 0 ∷ 0 ∷ 0 ∷ 0 ∷ 0 ∷ (arguments ++ drop k (replicate 22 0))) n ≡ start_registers end heap limit arguments n
registers_at end heap limit arguments k zero = refl
registers_at end heap limit arguments k (suc zero) = refl
registers_at end heap limit arguments k (suc (suc zero)) = refl
registers_at end heap limit arguments k (suc (suc (suc zero))) = refl
registers_at end heap limit arguments k (suc (suc (suc (suc zero)))) = refl
registers_at end heap limit arguments k (suc (suc (suc (suc (suc zero))))) = refl
registers_at end heap limit arguments k (suc (suc (suc (suc (suc (suc zero)))))) = refl
registers_at end heap limit arguments k (suc (suc (suc (suc (suc (suc (suc zero))))))) = refl
registers_at end heap limit arguments k (suc (suc (suc (suc (suc (suc (suc (suc zero)))))))) = refl
registers_at end heap limit arguments k (suc (suc (suc (suc (suc (suc (suc (suc (suc zero))))))))) = refl
registers_at end heap limit arguments k (suc (suc (suc (suc (suc (suc (suc (suc (suc (suc i)))))))))) =
    arguments_at arguments 22 k i
    ∙ sym (start_registers-past end heap limit arguments (suc (suc (suc (suc (suc (suc (suc (suc (suc (suc i)))))))))) i (omega arith))

pub registers_for : (end heap limit : ℕ) (arguments : List ℕ) (k : ℕ) → slice_index (0 ∷ 0 ∷ end ∷ heap ∷ limit ∷ 0 ∷ 0 ∷ 0 ∷ 0 ∷ 0 ∷ (arguments ++ drop k (replicate 22 0))) ≡ start_registers end heap limit arguments
registers_for end heap limit arguments k = fun_ext (registers_at end heap limit arguments k)

-- 32 zeros as a map
pub zero_registers : ◌≡◌ {A = ℕ → ℕ} (slice_index (replicate 32 0)) (λ number. 0)
zero_registers = fun_ext (zeros_at 32)
