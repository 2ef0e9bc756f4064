-- What is read once isn't read at two places.
use Rattle.std.proofs.Common.{◌≡◌, ◌≢◌, ℕ, zero, suc, ◌+◌, ◌≤◌, Bool, false, List, [], ◌∷◌, drop, Some, refl, sym, ap, ◌∙◌, subst, ⊎_elim}
use Rattle.std.proofs.Common.{arith, sum_by}
use Rattle.std.specs.Prelude.{IsTrue, nat_eq, if◌then◌else◌, slice_get}
use Rattle.std.proofs.lemmas.Bool.{cases_eq, eqb-true, eq-eqb, false_from_ne_true, or_cases, or_left}
use Rattle.std.proofs.lemmas.List.Sums.{sum_by-cons}
use Rattle.tac_form.specs.declared.tac.Operand.TheVariants.{Temp}
use Rattle.tac_form.specs.declared.tac.Instruction.{Instruction}
use Rattle.tac_form.specs.declared.tac.Instruction.TheVariants.{Copy}
use Rattle.tac_form.specs.declared.tac.Exit.{Exit}
use Rattle.tac_form.specs.declared.tac.Block.{Block}
use Rattle.tac_form.specs.declared.tac.Tac.{Tac}
use Rattle.tac_form.specs.Graph.{instruction_reads, exit_reads}
use Rattle.tac_form.specs.Live.{has}
use Rattle.tac_copies.specs.Once.{times, instruction_times, block_times, reads_in, is_once}

-- ---- lists of temporaries

one-if : (b : Bool) → IsTrue b → (n : ℕ) → 1 ≤ (if b then 1 else 0) + n
one-if b h n = rw h (omega arith)

-- what a list has counts at least one
pub times-has : (ts : List ℕ) (t : ℕ) → IsTrue (has ts t) → 1 ≤ times t ts
times-has [] t h = cc
times-has (u ∷ us) t h =
    ⊎_elim (λ y. one-if (nat_eq u t) y (times t us))
    (λ y. let less : 1 ≤ times t us = times-has us t y in omega (arith, less))
    (or_cases (nat_eq u t) (has us t) h)

-- and what counts none isn't had
pub times-none : (ts : List ℕ) (t : ℕ) → times t ts ≡ 0 → has ts t ≡ false
times-none ts t z =
    false_from_ne_true (has ts t) (λ h. let some : 1 ≤ times t ts = times-has ts t h in omega (arith, z, some))

pub has-own : (t : ℕ) → IsTrue (has (t ∷ []) t)
has-own t = or_left (nat_eq t t) false (eq-eqb t t refl)

pub copy-reads : (x t : ℕ) → IsTrue (has (instruction_reads (Copy x (Temp t))) t)
copy-reads x t = has-own t

-- ---- sums

pub sum-at : {A : Type 0} (f : A → ℕ) (xs : List A) (k : ℕ) (x : A) → slice_get xs k ≡ Some x → f x ≤ sum_by f xs
sum-at f [] k x h = cc
sum-at f (y ∷ xs) zero x h =
    let e : y ≡ x = cc in
    let c : f y ≡ f x = ap f e in
    omega (arith, c, sum_by-cons f y xs)
sum-at f (y ∷ xs) (suc k) x h =
    let less : f x ≤ sum_by f xs = sum-at f xs k x h in
    omega (arith, less, sum_by-cons f y xs)

pub sum-two : {A : Type 0} (f : A → ℕ) (xs : List A) (j k : ℕ) (x y : A) → slice_get xs j ≡ Some x → slice_get xs k ≡ Some y → j ≢ k →
    f x + f y ≤ sum_by f xs
sum-two f [] j k x y h g n = cc
sum-two f (z ∷ xs) zero zero x y h g n = absurd (n refl)
sum-two f (z ∷ xs) zero (suc k) x y h g n =
    let e : z ≡ x = cc in
    let c : f z ≡ f x = ap f e in
    let less : f y ≤ sum_by f xs = sum-at f xs k y g in
    omega (arith, c, less, sum_by-cons f z xs)
sum-two f (z ∷ xs) (suc j) zero x y h g n =
    let e : z ≡ y = cc in
    let c : f z ≡ f y = ap f e in
    let less : f x ≤ sum_by f xs = sum-at f xs j x h in
    omega (arith, c, less, sum_by-cons f z xs)
sum-two f (z ∷ xs) (suc j) (suc k) x y h g n =
    let less : f x + f y ≤ sum_by f xs = sum-two f xs j k x y h g (λ e. n (ap suc e)) in
    omega (arith, less, sum_by-cons f z xs)

-- ---- instructions with the exit behind them

abbrev pub times_behind : ℕ → List Instruction → Exit → ℕ
times_behind t is e = sum_by (instruction_times t) is + times t (exit_reads e)

pub behind-cons : (t : ℕ) (i : Instruction) (is : List Instruction) (e : Exit) →
    times_behind t (i ∷ is) e ≡ instruction_times t i + times_behind t is e
behind-cons t i is e = omega (arith, sum_by-cons (instruction_times t) i is)

pub behind-drop : (t n : ℕ) (is : List Instruction) (e : Exit) → times_behind t (drop n is) e ≤ times_behind t is e
behind-drop t zero is e = omega arith
behind-drop t (suc n) [] e = omega arith
behind-drop t (suc n) (i ∷ is) e =
    let less : times_behind t (drop n is) e ≤ times_behind t is e = behind-drop t n is e in
    omega (arith, less, behind-cons t i is e)

-- a first instruction that reads it is the only place
pub first-alone : (t : ℕ) (i : Instruction) (is : List Instruction) (e : Exit) → times_behind t (i ∷ is) e ≤ 1 →
    IsTrue (has (instruction_reads i) t) → times_behind t is e ≡ 0
first-alone t i is e few h =
    let some : 1 ≤ instruction_times t i = times-has (instruction_reads i) t h in
    omega (arith, few, some, behind-cons t i is e)

pub few-rest : (t n : ℕ) (i : Instruction) (is : List Instruction) (e : Exit) → times_behind t (i ∷ is) e ≤ n → times_behind t is e ≤ n
few-rest t n i is e few = omega (arith, few, behind-cons t i is e)

-- where it is read at no place
pub none-first : (t : ℕ) (i : Instruction) (is : List Instruction) (e : Exit) → times_behind t (i ∷ is) e ≡ 0 →
    has (instruction_reads i) t ≡ false
none-first t i is e z =
    let none : instruction_times t i ≡ 0 = omega (arith, z, behind-cons t i is e) in
    times-none (instruction_reads i) t none

pub none-rest : (t : ℕ) (i : Instruction) (is : List Instruction) (e : Exit) → times_behind t (i ∷ is) e ≡ 0 → times_behind t is e ≡ 0
none-rest t i is e z = omega (arith, z, behind-cons t i is e)

pub none-exit : (t : ℕ) (is : List Instruction) (e : Exit) → times_behind t is e ≡ 0 → has (exit_reads e) t ≡ false
none-exit t is e z =
    let none : times t (exit_reads e) ≡ 0 = omega (arith, z) in
    times-none (exit_reads e) t none

pub none-at : (t : ℕ) (is : List Instruction) (e : Exit) (k : ℕ) (i : Instruction) → times_behind t is e ≡ 0 → slice_get is k ≡ Some i →
    has (instruction_reads i) t ≡ false
none-at t is e k i z at =
    let less : instruction_times t i ≤ sum_by (instruction_times t) is = sum-at (instruction_times t) is k i at in
    let none : instruction_times t i ≡ 0 = omega (arith, z, less) in
    times-none (instruction_reads i) t none

-- a place that reads it counts
pub some-at : (t : ℕ) (is : List Instruction) (e : Exit) (k : ℕ) (i : Instruction) → slice_get is k ≡ Some i →
    IsTrue (has (instruction_reads i) t) → 1 ≤ times_behind t is e
some-at t is e k i at h =
    let some : 1 ≤ instruction_times t i = times-has (instruction_reads i) t h in
    let less : instruction_times t i ≤ sum_by (instruction_times t) is = sum-at (instruction_times t) is k i at in
    omega (arith, some, less)

pub some-exit : (t : ℕ) (is : List Instruction) (e : Exit) → IsTrue (has (exit_reads e) t) → 1 ≤ times_behind t is e
some-exit t is e h =
    let some : 1 ≤ times t (exit_reads e) = times-has (exit_reads e) t h in
    omega (arith, some)

-- ---- code

-- A temporary that code reads once.
module _ (code : Tac) (t : ℕ) (once : IsTrue (is_once code t)) where
  pub once-total : reads_in code t ≡ 1
  unfolding is_once
  once-total = eqb-true (reads_in code t) 1 once

  -- a block reads it at most once
  pub once-block : (b : ℕ) (block : Block) → slice_get code.blocks b ≡ Some block → times_behind t block.instructions block.exit ≤ 1
  once-block b block at =
      let less : block_times t block ≤ reads_in code t = sum-at (block_times t) code.blocks b block at in
      omega (arith, less, once-total)

  -- what is left of a block reads it at most once
  pub once-drop : (b : ℕ) (block : Block) (n : ℕ) → slice_get code.blocks b ≡ Some block →
      times_behind t (drop n block.instructions) block.exit ≤ 1
  once-drop b block n at =
      omega (arith, behind-drop t n block.instructions block.exit, once-block b block at)

  -- two blocks that read it are one
  pub same-block : (b c : ℕ) (x y : Block) → slice_get code.blocks b ≡ Some x → slice_get code.blocks c ≡ Some y → 1 ≤ block_times t x →
      1 ≤ block_times t y → b ≡ c
  same-block b c x y at to h g =
      ⊎_elim (λ e. e)
      (λ n. absurd (let more : block_times t x + block_times t y ≤ reads_in code t = sum-two (block_times t) code.blocks b c x y at to n in
      omega (arith, more, once-total, h, g)))
      (cases_eq b c)

  same-instruction : (b : ℕ) (x : Block) → slice_get code.blocks b ≡ Some x → (j k : ℕ) (i o : Instruction) →
      slice_get x.instructions j ≡ Some i → slice_get x.instructions k ≡ Some o → IsTrue (has (instruction_reads i) t) →
      IsTrue (has (instruction_reads o) t) → j ≡ k
  same-instruction b x at j k i o h g r s =
      ⊎_elim (λ e. e)
      (λ n. absurd (let more : instruction_times t i + instruction_times t o ≤ sum_by (instruction_times t) x.instructions =
      sum-two (instruction_times t) x.instructions j k i o h g n in
      let some : 1 ≤ instruction_times t i = times-has (instruction_reads i) t r in
      let other : 1 ≤ instruction_times t o = times-has (instruction_reads o) t s in
      let few : times_behind t x.instructions x.exit ≤ 1 = once-block b x at in
      omega (arith, more, some, other, few)))
      (cases_eq j k)

  -- two instructions that read it are one
  pub same-place : (b c j k : ℕ) (x y : Block) (i o : Instruction) → slice_get code.blocks b ≡ Some x → slice_get code.blocks c ≡ Some y →
      slice_get x.instructions j ≡ Some i → slice_get y.instructions k ≡ Some o → IsTrue (has (instruction_reads i) t) →
      IsTrue (has (instruction_reads o) t) → (b ≡ c) × (j ≡ k)
  same-place b c j k x y i o at to h g r s =
      let e : b ≡ c = same-block b c x y at to (some-at t x.instructions x.exit j i h r) (some-at t y.instructions y.exit k o g s) in
      let same : Some y ≡ Some x = sym to ∙ (ap (λ n. slice_get code.blocks n) (sym e) ∙ at) in
      let here : y ≡ x = cc in
      let stands : slice_get x.instructions k ≡ Some o = subst (λ z. slice_get z.instructions k ≡ Some o) here g in
      (e, same-instruction b x at j k i o h stands r s)

  -- what an instruction reads no exit reads
  pub not-both : (b c j : ℕ) (x y : Block) (i : Instruction) → slice_get code.blocks b ≡ Some x → slice_get code.blocks c ≡ Some y →
      slice_get x.instructions j ≡ Some i → IsTrue (has (instruction_reads i) t) → IsTrue (has (exit_reads y.exit) t) → ⊥
  not-both b c j x y i at to h r s =
      let e : b ≡ c = same-block b c x y at to (some-at t x.instructions x.exit j i h r) (some-exit t y.instructions y.exit s) in
      let same : Some y ≡ Some x = sym to ∙ (ap (λ n. slice_get code.blocks n) (sym e) ∙ at) in
      let here : y ≡ x = cc in
      let reads : IsTrue (has (exit_reads x.exit) t) = subst (λ z. IsTrue (has (exit_reads z.exit) t)) here s in
      let some : 1 ≤ instruction_times t i = times-has (instruction_reads i) t r in
      let less : instruction_times t i ≤ sum_by (instruction_times t) x.instructions =
      sum-at (instruction_times t) x.instructions j i h in
      let other : 1 ≤ times t (exit_reads x.exit) = times-has (exit_reads x.exit) t reads in
      let few : times_behind t x.instructions x.exit ≤ 1 = once-block b x at in
      omega (arith, some, less, other, few)

  -- two exits that read it are one
  pub same-exit : (b c : ℕ) (x y : Block) → slice_get code.blocks b ≡ Some x → slice_get code.blocks c ≡ Some y →
      IsTrue (has (exit_reads x.exit) t) → IsTrue (has (exit_reads y.exit) t) → b ≡ c
  same-exit b c x y at to r s =
      same-block b c x y at to (some-exit t x.instructions x.exit r) (some-exit t y.instructions y.exit s)
