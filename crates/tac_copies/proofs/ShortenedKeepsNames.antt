-- What an instruction reads by other names, and what it writes.
use Rattle.std.proofs.Common.{◌≡◌, ◌≢◌, ℕ, true, List, [], ◌∷◌, ◌++◌, map, refl, sym, ap, ◌∙◌, ⊎_elim}
use Rattle.std.specs.Prelude.{nat_eq, if◌then◌else◌}
use Rattle.std.proofs.lemmas.Bool.{or_cases, or_left, or_right, eqb-true, eq-eqb, ne_eqb, false≢true}
use Rattle.std.proofs.lemmas.List.{map-append}
use Rattle.tac_form.specs.declared.tac.Operand.{Operand}
use Rattle.tac_form.specs.declared.tac.Operand.TheVariants.{Temp, Constant}
use Rattle.tac_form.specs.declared.tac.Address.TheVariants.{Word, Frame}
use Rattle.tac_form.specs.declared.tac.Spot.{Spot}
use Rattle.tac_form.specs.declared.tac.Spot.TheVariants as spots
use Rattle.tac_form.specs.declared.tac.Part.{Part}
use Rattle.tac_form.specs.declared.tac.Part.TheVariants as parts
use Rattle.tac_form.specs.declared.tac.Instruction.{Instruction}
use Rattle.tac_form.specs.declared.tac.Instruction.TheVariants.{Compute, TestDivisor, Copy, Locate, Load, Store, Move, Clear, Call}
use Rattle.tac_form.specs.declared.tac.Instruction.TheVariants.{CallValue, PutByte, Write, Alloc}
use Rattle.tac_form.specs.declared.tac.Exit.{Exit}
use Rattle.tac_form.specs.declared.tac.Exit.TheVariants.{Jump, Branch, Return, Fail}
use Rattle.tac_form.specs.Flow.{put}
use Rattle.tac_form.specs.Graph.{operand_reads, spot_reads, part_reads, parts_reads, instruction_reads, instruction_write, exit_reads}
use Rattle.tac_form.specs.Graph.{exit_next}
use Rattle.tac_form.specs.Live.{has}
use Rattle.tac_copies.specs.Shortened.{named, named_spot, named_part, named_in, named_exit}

-- one name more
pub put-same : (names : ℕ → ℕ) (t s : ℕ) → put names t s t ≡ s
put-same names t s = ap (λ b. if b then s else names t) (eq-eqb t t refl)

pub put-other : (names : ℕ → ℕ) (t s u : ℕ) → u ≢ t → put names t s u ≡ names u
put-other names t s u n = ap (λ b. if b then s else names u) (ne_eqb u t n)

module _ (names : ℕ → ℕ) where
  operand-named : (a : Operand) → operand_reads (named names a) ≡ map names (operand_reads a)
  operand-named (Temp t) = refl
  operand-named (Constant c) = refl

  spot-named : (spot : Spot) → spot_reads (named_spot names spot) ≡ map names (spot_reads spot)
  spot-named (spots.Region at (Word a)) = operand-named a
  spot-named (spots.Region at (Frame offset)) = refl
  spot-named (spots.Area n offset) = refl

  part-named : (p : Part) → part_reads (named_part names p) ≡ map names (part_reads p)
  part-named (parts.Word a) = operand-named a
  part-named (parts.Area n) = refl

  both : (xs ys zs ws : List ℕ) → xs ≡ map names zs → ys ≡ map names ws → xs ++ ys ≡ map names (zs ++ ws)
  both xs ys zs ws e f = ap (λ l. l ++ ys) e ∙ (ap (λ l. map names zs ++ l) f ∙ sym (map-append names zs ws))

  parts-named : (ps : List Part) → parts_reads (map (named_part names) ps) ≡ map names (parts_reads ps)
  parts-named [] = refl
  parts-named (p ∷ ps) =
      both (part_reads (named_part names p)) (parts_reads (map (named_part names) ps)) (part_reads p) (parts_reads ps) (part-named p)
      (parts-named ps)

  two-named : (a b : Operand) →
      operand_reads (named names a) ++ operand_reads (named names b) ≡ map names (operand_reads a ++ operand_reads b)
  two-named a b =
      both (operand_reads (named names a)) (operand_reads (named names b)) (operand_reads a) (operand_reads b) (operand-named a)
      (operand-named b)

  -- it reads what it read, by the names
  reads-named : (i : Instruction) → instruction_reads (named_in names i) ≡ map names (instruction_reads i)
  reads-named (Compute d op form a b) = two-named a b
  reads-named (TestDivisor at a) = operand-named a
  reads-named (Copy d a) = operand-named a
  reads-named (Locate d offset) = refl
  reads-named (Load d form spot) = spot-named spot
  reads-named (Store spot size a) =
      both (spot_reads (named_spot names spot)) (operand_reads (named names a)) (spot_reads spot) (operand_reads a) (spot-named spot)
      (operand-named a)
  reads-named (Move to from size) =
      both (spot_reads (named_spot names to)) (spot_reads (named_spot names from)) (spot_reads to) (spot_reads from) (spot-named to)
      (spot-named from)
  reads-named (Clear n size) = refl
  reads-named (Call to at f arguments) = parts-named arguments
  reads-named (CallValue to at sig a arguments) =
      both (operand_reads (named names a)) (parts_reads (map (named_part names) arguments)) (operand_reads a) (parts_reads arguments)
      (operand-named a)
      (parts-named arguments)
  reads-named (PutByte a) = operand-named a
  reads-named (Write at a b) = two-named a b
  reads-named (Alloc d a) = operand-named a

  exit-named : (e : Exit) → exit_reads (named_exit names e) ≡ map names (exit_reads e)
  exit-named (Jump e) = refl
  exit-named (Branch a e f) = operand-named a
  exit-named (Return v) = part-named v
  exit-named (Fail kind at) = refl

  -- and writes what it wrote
  pub writes-same : (i : Instruction) → instruction_write (named_in names i) ≡ instruction_write i
  writes-same (PutByte a) = refl
  writes-same i = refl

  pub next-same : (e : Exit) → exit_next (named_exit names e) ≡ exit_next e
  next-same (Jump e) = refl
  next-same e = refl

  has-map : (us : List ℕ) (u : ℕ) → has us u ≡ true → has (map names us) (names u) ≡ true
  has-map [] u h = absurd (false≢true h)
  has-map (v ∷ us) u h =
      ⊎_elim
      (λ e. or_left (nat_eq (names v) (names u)) (has (map names us) (names u)) (eq-eqb (names v) (names u) (ap names (eqb-true v u e))))
      (λ e. or_right (nat_eq (names v) (names u)) (has (map names us) (names u)) (has-map us u e))
      (or_cases (nat_eq v u) (has us u) h)

  map-has : (us : List ℕ) (t : ℕ) → has (map names us) t ≡ true → (u : ℕ) × (names u ≡ t) × (has us u ≡ true)
  map-has [] t h = absurd (false≢true h)
  map-has (v ∷ us) t h =
      ⊎_elim
      (λ e. (v, eqb-true (names v) t e, or_left (nat_eq v v) (has us v) (eq-eqb v v refl)))
      (λ e. let r = map-has us t e in (r.0, r.1, or_right (nat_eq v r.0) (has us r.0) r.2))
      (or_cases (nat_eq (names v) t) (has (map names us) t) h)

  -- what is read
  pub read-by-name : (i : Instruction) (u : ℕ) → has (instruction_reads i) u ≡ true →
      has (instruction_reads (named_in names i)) (names u) ≡ true
  read-by-name i u h = ap (λ us. has us (names u)) (reads-named i) ∙ has-map (instruction_reads i) u h

  pub name-read : (i : Instruction) (t : ℕ) → has (instruction_reads (named_in names i)) t ≡ true →
      (u : ℕ) × (names u ≡ t) × (has (instruction_reads i) u ≡ true)
  name-read i t h = map-has (instruction_reads i) t (sym (ap (λ us. has us t) (reads-named i)) ∙ h)

  pub exit-by-name : (e : Exit) (u : ℕ) → has (exit_reads e) u ≡ true → has (exit_reads (named_exit names e)) (names u) ≡ true
  exit-by-name e u h = ap (λ us. has us (names u)) (exit-named e) ∙ has-map (exit_reads e) u h

  pub name-exit : (e : Exit) (t : ℕ) → has (exit_reads (named_exit names e)) t ≡ true →
      (u : ℕ) × (names u ≡ t) × (has (exit_reads e) u ≡ true)
  name-exit e t h = map-has (exit_reads e) t (sym (ap (λ us. has us t) (exit-named e)) ∙ h)
