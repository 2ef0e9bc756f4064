-- How shortened code goes on: an instruction stays, with its operands' names, or is a copy that goes.
use Rattle.std.proofs.Common.{◌≡◌, ℕ, Bool, true, List, [], ◌∷◌, refl, sym, subst, ⊎_elim}
use Rattle.std.specs.Prelude.{if◌then◌else◌}
use Rattle.std.proofs.lemmas.Bool.{cases_Bool}
use Rattle.tac_form.specs.declared.tac.Operand.TheVariants.{Temp}
use Rattle.tac_form.specs.declared.tac.Instruction.{Instruction}
use Rattle.tac_form.specs.declared.tac.Instruction.TheVariants.{Copy}
use Rattle.tac_form.specs.declared.tac.Exit.{Exit}
use Rattle.tac_form.specs.Flow.{put}
use Rattle.tac_copies.specs.Shortened.{named_in, named_exit, goes, Code, with_first, shortened_at, shortened}

step-at : (P : Code → Type 0) (once : ℕ → Bool) (names : ℕ → ℕ) (i : Instruction) (is : List Instruction) (e : Exit)
    (rest : (ℕ → ℕ) → Code) → P (with_first (named_in names i) (rest names)) →
    ((t s : ℕ) → i ≡ Copy t (Temp s) → goes once t (names s) is e ≡ true → P (rest (put names t (names s)))) →
    P (shortened_at once names (named_in names i) is e rest)
step-at P once names (Copy t (Temp s)) is e rest stays removed =
    ⊎_elim
    (λ h. subst (λ b. P (if b then rest (put names t (names s)) else with_first (Copy t (Temp (names s))) (rest names))) (sym h)
    (removed t s refl h))
    (λ h. subst (λ b. P (if b then rest (put names t (names s)) else with_first (Copy t (Temp (names s))) (rest names))) (sym h) stays)
    (cases_Bool (goes once t (names s) is e))
step-at P once names i is e rest stays removed = stays

-- what holds in both cases holds
pub by-step : (P : Code → Type 0) (once : ℕ → Bool) (names : ℕ → ℕ) (i : Instruction) (is : List Instruction) (e : Exit) →
    P (with_first (named_in names i) (shortened once names is e)) →
    ((t s : ℕ) → i ≡ Copy t (Temp s) → goes once t (names s) is e ≡ true → P (shortened once (put names t (names s)) is e)) →
    P (shortened once names (i ∷ is) e)
by-step P once names i is e stays removed = step-at P once names i is e (λ names'. shortened once names' is e) stays removed

-- what the names of an exit's operand don't change
pub exit-kept : {A : Type 0} (f : Exit → A) → ((names : ℕ → ℕ) (e : Exit) → f (named_exit names e) ≡ f e) →
    (once : ℕ → Bool) (names : ℕ → ℕ) (is : List Instruction) (e : Exit) → f (shortened once names is e).exit ≡ f e
exit-kept f same once names [] e = same names e
exit-kept f same once names (i ∷ is) e =
    by-step (λ c. f c.exit ≡ f e) once names i is e (exit-kept f same once names is e)
    (λ t s is_copy gone. exit-kept f same once (put names t (names s)) is e)
