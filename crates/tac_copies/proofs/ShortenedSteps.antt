-- What is copied is read where it was copied from, one instruction after the other from the front on.
use Rattle.std.proofs.Common.{◌≡◌, ℕ, ◌+◌, Bool, true, false, List, [], ◌∷◌, ◌++◌, Option, Some, None, refl, sym, ap, ◌∙◌, drop, take, ◌-◌}
use Rattle.std.proofs.Common.{◌<◌, length, get_or}
use Rattle.std.specs.Prelude.{if◌then◌else◌, slice_get}
use Rattle.std.proofs.lemmas.List.{append_assoc, take_rest}
use Rattle.std.proofs.lemmas.Option.{slice_get-get_or}
use Rattle.tac_form.specs.declared.tac.Operand.TheVariants.{Temp, Constant}
use Rattle.tac_form.specs.declared.tac.Instruction.{Instruction}
use Rattle.tac_form.specs.declared.tac.Instruction.TheVariants.{Compute, TestDivisor, Copy, Locate, Load, Store, Move, Clear, Call}
use Rattle.tac_form.specs.declared.tac.Instruction.TheVariants.{CallValue, PutByte, Write, Alloc}
use Rattle.tac_form.specs.declared.tac.Exit.{Exit}
use Rattle.tac_form.specs.Flow.{put}
use Rattle.tac_copies.specs.Kept.{behind, gone}
use Rattle.tac_copies.specs.Shortened.{Code, named_in, goes, shortened, shortened_at, with_first}
use Rattle.tac_copies.proofs.Fronts.{drop-at}

-- the instruction and those behind it, by which copy goes
abbrev by_gone : Option (ℕ × ℕ) → (ℕ → ℕ) → Instruction → ((ℕ → ℕ) → Code) → Code
by_gone None names i rest = with_first i (rest names)
by_gone (Some p) names i rest = rest (put names p.0 p.1)

-- what a slice gives stands in the list
read-at : (is js : List Instruction) (k : ℕ) (i : Instruction) → js ≡ is → k < length js → i ≡ get_or js k i → slice_get is k ≡ Some i
read-at is js k i q less read = ap (λ l. slice_get l k) (sym q) ∙ slice_get-get_or js k i less ∙ ap Some (sym read)

module _ (once : ℕ → Bool) where
  tested : (b : Bool) (t s : ℕ) (names : ℕ → ℕ) (i : Instruction) (rest : (ℕ → ℕ) → Code) →
      (if b then rest (put names t s) else with_first i (rest names)) ≡ by_gone (if b then Some (t, s) else None) names i rest
  tested true t s names i rest = refl
  tested false t s names i rest = refl

  at-is : (names : ℕ → ℕ) (i : Instruction) (is : List Instruction) (e : Exit) (rest : (ℕ → ℕ) → Code) →
      shortened_at once names i is e rest ≡ by_gone (gone once i is e) names i rest
  at-is names (Copy d (Temp t)) is e rest = tested (goes once d t is e) d t names (Copy d (Temp t)) rest
  at-is names (Compute d op form a b) is e rest = refl
  at-is names (TestDivisor at a) is e rest = refl
  at-is names (Locate d offset) is e rest = refl
  at-is names (Load d form spot) is e rest = refl
  at-is names (Store spot size a) is e rest = refl
  at-is names (Move to from size) is e rest = refl
  at-is names (Clear n size) is e rest = refl
  at-is names (Call to at f arguments) is e rest = refl
  at-is names (CallValue to at sig a arguments) is e rest = refl
  at-is names (PutByte a) is e rest = refl
  at-is names (Write at a b) is e rest = refl
  at-is names (Alloc d a) is e rest = refl
  at-is names (Copy d (Constant c)) is e rest = refl

  first-is : (names : ℕ → ℕ) (i : Instruction) (is : List Instruction) (e : Exit) (o : Option (ℕ × ℕ)) →
      gone once (named_in names i) is e ≡ o →
      shortened once names (i ∷ is) e ≡ by_gone o names (named_in names i) (λ names'. shortened once names' is e)
  first-is names i is e o h =
      at-is names (named_in names i) is e (λ names'. shortened once names' is e)
      ∙ ap (λ p. by_gone p names (named_in names i) (λ names'. shortened once names' is e)) h

  asked : (is js : List Instruction) (names : ℕ → ℕ) (e : Exit) (k : ℕ) (i j : Instruction) (o : Option (ℕ × ℕ)) → js ≡ is →
      j ≡ named_in names i → o ≡ gone once j (take (length js - (k + 1)) (drop (k + 1) js)) e →
      gone once (named_in names i) (drop (k + 1) is) e ≡ o
  asked is js names e k i j o q named told =
      ap (λ x. gone once x (drop (k + 1) is) e) (sym named) ∙ ap (λ l. gone once j (drop (k + 1) l) e) (sym q)
      ∙ sym (told ∙ ap (λ l. gone once j l e) (take_rest js (k + 1)))

  -- ---- so many instructions are gone through

  stays : (made is : List Instruction) (names : ℕ → ℕ) (e : Exit) (k : ℕ) (i : Instruction) → slice_get is k ≡ Some i →
      gone once (named_in names i) (drop (k + 1) is) e ≡ None →
      behind (made ++ named_in names i ∷ []) (shortened once names (drop (k + 1) is) e) ≡ behind made (shortened once names (drop k is) e)
  stays made is names e k i at h =
      ap (λ js. record { instructions = js; exit = (shortened once names (drop (k + 1) is) e).exit })
      (append_assoc made (named_in names i ∷ []) (shortened once names (drop (k + 1) is) e).instructions)
      ∙ ap (behind made) (sym (first-is names i (drop (k + 1) is) e None h) ∙ ap (λ js. shortened once names js e) (sym (drop-at is k i at)))

  leaves : (made is : List Instruction) (names : ℕ → ℕ) (e : Exit) (k t s : ℕ) (i : Instruction) → slice_get is k ≡ Some i →
      gone once (named_in names i) (drop (k + 1) is) e ≡ Some (t, s) →
      behind made (shortened once (put names t s) (drop (k + 1) is) e) ≡ behind made (shortened once names (drop k is) e)
  leaves made is names e k t s i at h =
      ap (behind made) (sym (first-is names i (drop (k + 1) is) e (Some (t, s)) h) ∙ ap (λ js. shortened once names js e) (sym (drop-at is k i at)))

  pub stays-all : (made made' is js : List Instruction) (names names' : ℕ → ℕ) (e : Exit) (k : ℕ) (i j : Instruction)
      (o : Option (ℕ × ℕ)) (whole : Code) → js ≡ is → k < length js → i ≡ get_or js k i → j ≡ named_in names i →
      o ≡ gone once j (take (length js - (k + 1)) (drop (k + 1) js)) e → behind made (shortened once names (drop k is) e) ≡ whole →
      o ≡ None → made' ≡ made ++ j ∷ [] → names' ≡ names → behind made' (shortened once names' (drop (k + 1) is) e) ≡ whole
  stays-all made made' is js names names' e k i j o whole q less read named told before none grown same =
      ap (λ m. behind m (shortened once names' (drop (k + 1) is) e)) (grown ∙ ap (λ x. made ++ x ∷ []) named)
      ∙ ap (λ n. behind (made ++ named_in names i ∷ []) (shortened once n (drop (k + 1) is) e)) same
      ∙ stays made is names e k i (read-at is js k i q less read) (asked is js names e k i j o q named told ∙ none) ∙ before

  pub leaves-all : (made made' is js : List Instruction) (names names' : ℕ → ℕ) (e : Exit) (k : ℕ) (i j : Instruction)
      (o : Option (ℕ × ℕ)) (whole : Code) → js ≡ is → k < length js → i ≡ get_or js k i → j ≡ named_in names i →
      o ≡ gone once j (take (length js - (k + 1)) (drop (k + 1) js)) e → behind made (shortened once names (drop k is) e) ≡ whole →
      (t s : ℕ) → o ≡ Some (t, s) → made' ≡ made → names' ≡ put names t s →
      behind made' (shortened once names' (drop (k + 1) is) e) ≡ whole
  leaves-all made made' is js names names' e k i j o whole q less read named told before t s some same put-is =
      ap (λ m. behind m (shortened once names' (drop (k + 1) is) e)) same
      ∙ ap (λ n. behind made (shortened once n (drop (k + 1) is) e)) put-is
      ∙ leaves made is names e k t s i (read-at is js k i q less read) (asked is js names e k i j o q named told ∙ some) ∙ before
