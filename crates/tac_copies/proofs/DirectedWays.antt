-- Which instructions go together with the copy behind them.
use Rattle.std.proofs.Common.{◌≡◌, ℕ, Bool, true, false, ◌&&◌, List, [], ◌∷◌, refl, sym, ap, ◌∙◌}
use Rattle.std.specs.Prelude.{IsTrue, if◌then◌else◌}
use Rattle.std.proofs.lemmas.Bool.{false≢true, and_parts}
use Rattle.tac_form.specs.declared.tac.Operand.TheVariants.{Temp}
use Rattle.tac_form.specs.declared.tac.Instruction.{Instruction}
use Rattle.tac_form.specs.declared.tac.Instruction.TheVariants.{Copy}
use Rattle.tac_copies.specs.Directed.{makes, directed, before, directed_all}

-- ---- the way of the first instruction

-- not a copy of a temporary
plain : Instruction → Bool
plain (Copy x (Temp t)) = false
plain i = true

plain-directed : (x : ℕ) (i : Instruction) → plain i ≡ true → plain (directed x i) ≡ true
unfolding plain
plain-directed x (Copy y (Temp t)) h = h
plain-directed x i h = refl

record Headed (is : List Instruction) : Type 0 where
  first : Instruction
  rest : List Instruction
  split : is ≡ first ∷ rest
  is_plain : plain first ≡ true

module _ (once : ℕ → Bool) where
  before-copy : (x t : ℕ) (is : List Instruction) → before once (Copy x (Temp t)) is ≡ Copy x (Temp t) ∷ is
  before-copy x t [] = refl
  before-copy x t (Copy y (Temp u) ∷ is) = refl
  before-copy x t (i ∷ is) = refl

  before-plain : (i j : Instruction) (is : List Instruction) → plain j ≡ true → before once i (j ∷ is) ≡ i ∷ j ∷ is
  unfolding plain
  before-plain i (Copy x (Temp t)) is h = absurd (false≢true h)
  before-plain i j is h = refl

  headed-by : (b : Bool) (j x : Instruction) (is js : List Instruction) → plain j ≡ true → plain x ≡ true →
      Headed (if b then x ∷ is else j ∷ js)
  headed-by true j x is js h g = record { first = x; rest = is; split = refl; is_plain = g }
  headed-by false j x is js h g = record { first = j; rest = js; split = refl; is_plain = h }

  headed : (j : Instruction) (is : List Instruction) → plain j ≡ true → Headed (before once j is)
  headed j [] h = record { first = j; rest = []; split = refl; is_plain = h }
  headed j (Copy x (Temp t) ∷ is) h =
      headed-by (makes t j && once t) j (directed x j) is (Copy x (Temp t) ∷ is) h (plain-directed x j h)
  headed j (i ∷ is) h = record { first = j; rest = i ∷ is; split = refl; is_plain = h }

  -- a first instruction and the copy of its result go together, or it stands alone
  pub data Way (i : Instruction) (is : List Instruction) : Type 0 where
    together : (x t : ℕ) (js : List Instruction) → is ≡ Copy x (Temp t) ∷ js → IsTrue (makes t i) → IsTrue (once t) →
        directed_all once (i ∷ is) ≡ directed x i ∷ directed_all once js → Way i is
    alone : directed_all once (i ∷ is) ≡ i ∷ directed_all once is →
        ((x t : ℕ) (js : List Instruction) → is ≡ Copy x (Temp t) ∷ js → (makes t i && once t) ≡ false) → Way i is

  copy-way : (i : Instruction) (x t : ℕ) (js : List Instruction) (b : Bool) → makes t i && once t ≡ b → Way i (Copy x (Temp t) ∷ js)
  copy-way i x t js true h =
      let both = and_parts (makes t i) (once t) h in
      together x t js refl both.0 both.1
      (ap (before once i) (before-copy x t (directed_all once js))
      ∙ ap (λ b. if b then directed x i ∷ directed_all once js else i ∷ Copy x (Temp t) ∷ directed_all once js) h)
  copy-way i x t js false h =
      alone
      (ap (before once i) (before-copy x t (directed_all once js))
      ∙ ap (λ b. if b then directed x i ∷ directed_all once js else i ∷ Copy x (Temp t) ∷ directed_all once js) h
      ∙ ap (λ is. i ∷ is) (sym (before-copy x t (directed_all once js))))
      (λ y u ks e. let same : u ≡ t = cc in ap (λ z. makes z i && once z) same ∙ h)

  plain-way : (i j : Instruction) (js : List Instruction) → plain j ≡ true → Way i (j ∷ js)
  unfolding plain
  plain-way i j js h =
      let head = headed j (directed_all once js) h in
      alone
      (ap (before once i) head.split ∙ before-plain i head.first head.rest head.is_plain ∙ ap (λ is. i ∷ is) (sym head.split))
      (λ x t ks e. let same : j ≡ Copy x (Temp t) = cc in absurd (false≢true (sym (ap plain same) ∙ h)))

  pub way : (i : Instruction) (is : List Instruction) → Way i is
  unfolding plain
  way i [] = alone refl (λ x t js e. cc)
  way i (Copy x (Temp t) ∷ js) = copy-way i x t js (makes t i && once t) refl
  way i (j ∷ js) = plain-way i j js refl
