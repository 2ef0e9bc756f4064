-- Code at a place of a function's blocks.
use Rattle.std.proofs.Common.{◌≡◌, ℕ, suc, ◌+◌, List, [], ◌∷◌, ◌++◌, Some, None, refl, ap, subst, arith}
use Rattle.std.specs.Prelude.{slice_get}
use Rattle.tac_form.specs.declared.tac.Instruction.{Instruction}
use Rattle.tac_form.specs.declared.tac.Exit.{Exit}
use Rattle.tac_form.specs.declared.tac.Exit.TheVariants.{Jump}
use Rattle.tac_form.specs.declared.tac.Block.{Block}
use Rattle.tac_lower.specs.Items.{Item, does, ends, skips, tests, repeats, repeats_unless, leaves, gives, fails, count_ends, loop_of}
use Rattle.tac_lower.specs.Items.{onward, exit_of}

-- A place: a block, and how many of its instructions are behind.
pub record Point : Type 0 where
  pub block : ℕ
  pub at : ℕ

abbrev pub step_on : Point → Point
step_on at = record { block = at.block; at = suc at.at }

abbrev pub start_of : ℕ → Point
start_of n = record { block = n; at = 0 }

-- where code ends that begins at a place
abbrev pub after : List Item → Point → Point
after [] at = at
after (does i ∷ is) at = after is (step_on at)
after (ends e ∷ is) at = after is (start_of (suc at.block))

pub after-append : (a b : List Item) (at : Point) → after (a ++ b) at ≡ after b (after a at)
after-append [] b at = refl
after-append (does i ∷ a) b at = after-append a b (step_on at)
after-append (ends e ∷ a) b at = after-append a b (start_of (suc at.block))

pub after-block : (a : List Item) (at : Point) → (after a at).block ≡ at.block + count_ends a
after-block [] at = omega arith
after-block (does i ∷ a) at = after-block a (step_on at)
after-block (ends e ∷ a) at = let h = after-block a (start_of (suc at.block)) in omega (arith, h)

-- an instruction stands at a place, or its block ends there
pub record DoesAt (blocks : List Block) (at : Point) (i : Instruction) : Type 0 where
  pub block : Block
  pub there : slice_get blocks at.block ≡ Some block
  pub does : slice_get block.instructions at.at ≡ Some i

pub record EndsAt (blocks : List Block) (at : Point) (exit : Exit) : Type 0 where
  pub block : Block
  pub there : slice_get blocks at.block ≡ Some block
  pub does : slice_get block.instructions at.at ≡ None
  pub ends : block.exit ≡ exit

-- code stands at a place, where what leaves the loop around goes to the block `out`
abbrev pub HasAt : List Block → (out : ℕ) → Point → List Item → Type 0
HasAt blocks out at [] = Unit {0}
HasAt blocks out at (does i ∷ is) = DoesAt blocks at i × HasAt blocks out (step_on at) is
HasAt blocks out at (ends e ∷ is) = EndsAt blocks at (exit_of out at.block e) × HasAt blocks out (start_of (suc at.block)) is

pub has-front : (blocks : List Block) (out : ℕ) (at : Point) (a b : List Item) → HasAt blocks out at (a ++ b) → HasAt blocks out at a
has-front blocks out at [] b h = tt
has-front blocks out at (does i ∷ a) b h = (h.0, has-front blocks out (step_on at) a b h.1)
has-front blocks out at (ends e ∷ a) b h = (h.0, has-front blocks out (start_of (suc at.block)) a b h.1)

pub has-back : (blocks : List Block) (out : ℕ) (at : Point) (a b : List Item) → HasAt blocks out at (a ++ b) →
    HasAt blocks out (after a at) b
has-back blocks out at [] b h = h
has-back blocks out at (does i ∷ a) b h = has-back blocks out (step_on at) a b h.1
has-back blocks out at (ends e ∷ a) b h = has-back blocks out (start_of (suc at.block)) a b h.1

-- in a loop's code what left it goes to the block behind the loop
abbrev has_loop_from : List Block → (out n : ℕ) → List Item → Point → Type 0
has_loop_from blocks out n is at = HasAt blocks out at (loop_of is) → n ≡ at.block + count_ends is → HasAt blocks n at is

pub has-loop : (blocks : List Block) (out n : ℕ) (is : List Item) (at : Point) → has_loop_from blocks out n is at
has-loop blocks out n [] at h e = tt
has-loop blocks out n (does i ∷ is) at h e = (h.0, has-loop blocks out n is (step_on at) h.1 e)
has-loop blocks out n (ends leaves ∷ is) at h e =
    let to : suc at.block + count_ends is ≡ n = omega (arith, e) in (
      subst (λ m. EndsAt blocks at (Jump (onward m))) to h.0,
      has-loop blocks out n is (start_of (suc at.block)) h.1 (omega (arith, e)),
    )
has-loop blocks out n (ends (skips k) ∷ is) at h e = (h.0, has-loop blocks out n is (start_of (suc at.block)) h.1 (omega (arith, e)))
has-loop blocks out n (ends (tests a k) ∷ is) at h e = (h.0, has-loop blocks out n is (start_of (suc at.block)) h.1 (omega (arith, e)))
has-loop blocks out n (ends (repeats k) ∷ is) at h e = (h.0, has-loop blocks out n is (start_of (suc at.block)) h.1 (omega (arith, e)))
has-loop blocks out n (ends (repeats_unless a k) ∷ is) at h e =
    (h.0, has-loop blocks out n is (start_of (suc at.block)) h.1 (omega (arith, e)))
has-loop blocks out n (ends (gives v) ∷ is) at h e = (h.0, has-loop blocks out n is (start_of (suc at.block)) h.1 (omega (arith, e)))
has-loop blocks out n (ends (fails kind place) ∷ is) at h e =
    (h.0, has-loop blocks out n is (start_of (suc at.block)) h.1 (omega (arith, e)))

pub ends-loop : (is : List Item) → count_ends (loop_of is) ≡ count_ends is
ends-loop [] = refl
ends-loop (does i ∷ is) = ends-loop is
ends-loop (ends e ∷ is) = ap suc (ends-loop is)

pub count-append : (a b : List Item) → count_ends (a ++ b) ≡ count_ends a + count_ends b
count-append [] b = omega arith
count-append (does i ∷ a) b = count-append a b
count-append (ends e ∷ a) b = let h = count-append a b in omega (arith, h)
