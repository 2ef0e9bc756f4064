-- A result goes at once to where the first of the instructions behind copies it, one instruction after the other from the front on.
use Rattle.std.proofs.Common.{◌≡◌, ℕ, ◌+◌, Bool, true, false, ◌&&◌, List, [], ◌∷◌, ◌++◌, Option, Some, None, refl, sym, ap, ◌∙◌, subst}
use Rattle.std.proofs.Common.{drop, take, ◌-◌, ◌<◌, length, get_or}
use Rattle.std.specs.Prelude.{if◌then◌else◌, slice_get}
use Rattle.std.proofs.lemmas.List.{append_assoc, take_rest}
use Rattle.std.proofs.lemmas.Option.{slice_get-get_or}
use Rattle.tac_form.specs.declared.tac.Operand.TheVariants.{Temp, Constant}
use Rattle.tac_form.specs.declared.tac.Instruction.{Instruction}
use Rattle.tac_form.specs.declared.tac.Instruction.TheVariants.{Compute, TestDivisor, Copy, Locate, Load, Store, Move, Clear, Call}
use Rattle.tac_form.specs.declared.tac.Instruction.TheVariants.{CallValue, PutByte, Write, Alloc}
use Rattle.tac_copies.specs.Directed.{before, directed, directed_all, makes}
use Rattle.tac_copies.specs.Kept.{copied_to}
use Rattle.tac_copies.proofs.Fronts.{drop-at, drop-two}

-- the instruction and those behind it, by where its result goes at once
abbrev by_target : Option ℕ → Instruction → List Instruction → List Instruction
by_target None i is = i ∷ is
by_target (Some x) i is = directed x i ∷ drop 1 is

-- it goes somewhere
abbrev Goes : Option ℕ → Type 0
Goes None = ⊥
Goes (Some x) = Unit {0}

module _ (once : ℕ → Bool) where
  tested : (b : Bool) (x : ℕ) (i j : Instruction) (is : List Instruction) →
      (if b then directed x i ∷ is else i ∷ j ∷ is) ≡ by_target (if b then Some x else None) i (j ∷ is)
  tested true x i j is = refl
  tested false x i j is = refl

  before-is : (i : Instruction) (is : List Instruction) → before once i is ≡ by_target (copied_to once i is) i is
  before-is i [] = refl
  before-is i (Copy d (Temp t) ∷ is) = tested (makes t i && once t) d i (Copy d (Temp t)) is
  before-is i (Compute d op form a b ∷ is) = refl
  before-is i (TestDivisor at a ∷ is) = refl
  before-is i (Locate d offset ∷ is) = refl
  before-is i (Load d form spot ∷ is) = refl
  before-is i (Store spot size a ∷ is) = refl
  before-is i (Move to from size ∷ is) = refl
  before-is i (Clear n size ∷ is) = refl
  before-is i (Call to at f arguments ∷ is) = refl
  before-is i (CallValue to at sig a arguments ∷ is) = refl
  before-is i (PutByte a ∷ is) = refl
  before-is i (Write at a b ∷ is) = refl
  before-is i (Alloc d a ∷ is) = refl
  before-is i (Copy d (Constant c) ∷ is) = refl

  -- a copy makes nothing
  copy-stays : (x t : ℕ) (is : List Instruction) → before once (Copy x (Temp t)) is ≡ Copy x (Temp t) ∷ is
  copy-stays x t [] = refl
  copy-stays x t (Compute d op form a b ∷ is) = refl
  copy-stays x t (TestDivisor at a ∷ is) = refl
  copy-stays x t (Locate d offset ∷ is) = refl
  copy-stays x t (Load d form spot ∷ is) = refl
  copy-stays x t (Store spot size a ∷ is) = refl
  copy-stays x t (Move to from size ∷ is) = refl
  copy-stays x t (Clear n size ∷ is) = refl
  copy-stays x t (Call to at f arguments ∷ is) = refl
  copy-stays x t (CallValue to at sig a arguments ∷ is) = refl
  copy-stays x t (PutByte a ∷ is) = refl
  copy-stays x t (Write at a b ∷ is) = refl
  copy-stays x t (Alloc d a ∷ is) = refl
  copy-stays x t (Copy d (Constant c) ∷ is) = refl
  copy-stays x u (Copy d (Temp t) ∷ is) = refl

  -- the first alone tells, and tells the same where its own result goes elsewhere
  head-only : (i j : Instruction) (is js : List Instruction) → copied_to once i (j ∷ is) ≡ copied_to once i (j ∷ js)
  head-only i (Compute d op form a b) is js = refl
  head-only i (TestDivisor at a) is js = refl
  head-only i (Locate d offset) is js = refl
  head-only i (Load d form spot) is js = refl
  head-only i (Store spot size a) is js = refl
  head-only i (Move to from size) is js = refl
  head-only i (Clear n size) is js = refl
  head-only i (Call to at f arguments) is js = refl
  head-only i (CallValue to at sig a arguments) is js = refl
  head-only i (PutByte a) is js = refl
  head-only i (Write at a b) is js = refl
  head-only i (Alloc d a) is js = refl
  head-only i (Copy d (Constant c)) is js = refl
  head-only i (Copy d (Temp t)) is js = refl

  head-directed : (x : ℕ) (i j : Instruction) (is js : List Instruction) →
      copied_to once i (directed x j ∷ is) ≡ copied_to once i (j ∷ js)
  head-directed x i (Compute d op form a b) is js = refl
  head-directed x i (TestDivisor at a) is js = refl
  head-directed x i (Locate d offset) is js = refl
  head-directed x i (Load d form spot) is js = refl
  head-directed x i (Store spot size a) is js = refl
  head-directed x i (Move to from size) is js = refl
  head-directed x i (Clear n size) is js = refl
  head-directed x i (Call to at f arguments) is js = refl
  head-directed x i (CallValue to at sig a arguments) is js = refl
  head-directed x i (PutByte a) is js = refl
  head-directed x i (Write at a b) is js = refl
  head-directed x i (Alloc d a) is js = refl
  head-directed x i (Copy d (Constant c)) is js = refl
  head-directed x i (Copy d (Temp t)) is js = refl

  head-kept : (o : Option ℕ) (i j : Instruction) (is js : List Instruction) →
      copied_to once i (by_target o j is) ≡ copied_to once i (j ∷ js)
  head-kept None i j is js = head-only i j is js
  head-kept (Some x) i j is js = head-directed x i j (drop 1 is) js

  same-target : (i : Instruction) (is : List Instruction) → copied_to once i (directed_all once is) ≡ copied_to once i is
  same-target i [] = refl
  same-target i (j ∷ is) =
      ap (copied_to once i) (before-is j (directed_all once is))
      ∙ head-kept (copied_to once j (directed_all once is)) i j (directed_all once is) is

  target-stays : (i : Instruction) (is : List Instruction) → Goes (copied_to once i is) →
      drop 1 (directed_all once is) ≡ directed_all once (drop 1 is)
  target-stays i [] h = absurd h
  target-stays i (Copy d (Temp t) ∷ is) h = ap (drop 1) (copy-stays d t (directed_all once is))
  target-stays i (Compute d op form a b ∷ is) h = absurd h
  target-stays i (TestDivisor at a ∷ is) h = absurd h
  target-stays i (Locate d offset ∷ is) h = absurd h
  target-stays i (Load d form spot ∷ is) h = absurd h
  target-stays i (Store spot size a ∷ is) h = absurd h
  target-stays i (Move to from size ∷ is) h = absurd h
  target-stays i (Clear n size ∷ is) h = absurd h
  target-stays i (Call to at f arguments ∷ is) h = absurd h
  target-stays i (CallValue to at sig a arguments ∷ is) h = absurd h
  target-stays i (PutByte a ∷ is) h = absurd h
  target-stays i (Write at a b ∷ is) h = absurd h
  target-stays i (Alloc d a ∷ is) h = absurd h
  target-stays i (Copy d (Constant c) ∷ is) h = absurd h

  first-is : (i : Instruction) (is : List Instruction) (o : Option ℕ) → copied_to once i is ≡ o →
      directed_all once (i ∷ is) ≡ by_target o i (directed_all once is)
  first-is i is o h =
      before-is i (directed_all once is) ∙ ap (λ p. by_target p i (directed_all once is)) (same-target i is ∙ h)

  -- ---- so many instructions are gone through

  stays : (made is : List Instruction) (k : ℕ) (i : Instruction) → slice_get is k ≡ Some i →
      copied_to once i (drop (k + 1) is) ≡ None →
      (made ++ i ∷ []) ++ directed_all once (drop (k + 1) is) ≡ made ++ directed_all once (drop k is)
  stays made is k i e h =
      append_assoc made (i ∷ []) (directed_all once (drop (k + 1) is))
      ∙ ap (λ js. made ++ js) (sym (first-is i (drop (k + 1) is) None h) ∙ ap (directed_all once) (sym (drop-at is k i e)))

  goes : (made is : List Instruction) (k x : ℕ) (i : Instruction) → slice_get is k ≡ Some i →
      copied_to once i (drop (k + 1) is) ≡ Some x →
      (made ++ directed x i ∷ []) ++ directed_all once (drop (k + 2) is) ≡ made ++ directed_all once (drop k is)
  goes made is k x i e h =
      append_assoc made (directed x i ∷ []) (directed_all once (drop (k + 2) is))
      ∙ ap (λ js. made ++ directed x i ∷ js) (ap (directed_all once) (drop-two is k)
      ∙ sym (target-stays i (drop (k + 1) is) (subst Goes (sym h) tt)))
      ∙ ap (λ js. made ++ js) (sym (first-is i (drop (k + 1) is) (Some x) h) ∙ ap (directed_all once) (sym (drop-at is k i e)))

  whole-rest : (is : List Instruction) (k : ℕ) (j : Instruction) (o : Option ℕ) →
      o ≡ copied_to once j (take (length is - (k + 1)) (drop (k + 1) is)) → copied_to once j (drop (k + 1) is) ≡ o
  whole-rest is k j o told = sym (told ∙ ap (copied_to once j) (take_rest is (k + 1)))

  pub stays-all : (made made' is : List Instruction) (k : ℕ) (i j : Instruction) (o : Option ℕ) → k < length is →
      i ≡ get_or is k i → j ≡ i → o ≡ copied_to once j (take (length is - (k + 1)) (drop (k + 1) is)) → o ≡ None → made' ≡ made ++ j ∷ [] →
      made ++ directed_all once (drop k is) ≡ directed_all once is → made' ++ directed_all once (drop (k + 1) is) ≡ directed_all once is
  stays-all made made' is k i j o less read same told none grown before =
      ap (λ m. m ++ directed_all once (drop (k + 1) is)) grown
      ∙ stays made is k j (slice_get-get_or is k i less ∙ ap Some (sym read ∙ sym same)) (whole-rest is k j o told ∙ none) ∙ before

  pub goes-all : (made made' is : List Instruction) (k x : ℕ) (i j : Instruction) (o : Option ℕ) → k < length is →
      i ≡ get_or is k i → j ≡ i → o ≡ copied_to once j (take (length is - (k + 1)) (drop (k + 1) is)) → o ≡ Some x → made' ≡ made ++ directed x j ∷ [] →
      made ++ directed_all once (drop k is) ≡ directed_all once is → made' ++ directed_all once (drop (k + 2) is) ≡ directed_all once is
  goes-all made made' is k x i j o less read same told some grown before =
      ap (λ m. m ++ directed_all once (drop (k + 2) is)) grown
      ∙ goes made is k x j (slice_get-get_or is k i less ∙ ap Some (sym read ∙ sym same)) (whole-rest is k j o told ∙ some) ∙ before
