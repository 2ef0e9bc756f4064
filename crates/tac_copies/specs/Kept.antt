-- What the code keeps while it works: which temporaries are read once, the names by which temporaries are read, which blocks are reached,
-- and which parameters are taken.
use Rattle.std.specs.Prelude.{◌≡◌, ℕ, zero, suc, Bool, false, not, ◌&&◌, if◌then◌else◌, nat_eq, nat_le, nat_lt, List, [], ◌∷◌, ◌++◌, Option}
use Rattle.std.specs.Prelude.{Some, None, is_some, unwrap_or}
use Rattle.std.specs.List.{flat_map, list_any}
use Rattle.std.specs.Map.{lookup}
use Rattle.tac_form.specs.declared.tac.Operand.TheVariants.{Temp}
use Rattle.tac_form.specs.declared.tac.Destination.{Destination}
use Rattle.tac_form.specs.declared.tac.Instruction.{Instruction}
use Rattle.tac_form.specs.declared.tac.Instruction.TheVariants.{Copy}
use Rattle.tac_form.specs.declared.tac.Exit.{Exit}
use Rattle.tac_form.specs.declared.tac.Exit.TheVariants.{Jump, Branch}
use Rattle.tac_form.specs.declared.tac.Block.{Block}
use Rattle.tac_form.specs.declared.tac.Tac.{Tac}
use Rattle.tac_form.specs.Graph.{instruction_reads, exit_reads}
use Rattle.tac_copies.specs.Once.{times}
use Rattle.tac_copies.specs.Directed.{makes}
use Rattle.tac_copies.specs.Shortened.{Code, goes}
use Rattle.tac_copies.specs.Taken.{is_needed, may_go, most_taken}

-- ---- which temporaries are read once

-- the temporaries that code reads, one for each operand
abbrev pub instructions_reads : List Instruction → List ℕ
instructions_reads is = flat_map instruction_reads is

abbrev pub block_reads : Block → List ℕ
block_reads b = instructions_reads b.instructions ++ exit_reads b.exit

abbrev pub blocks_reads : List Block → List ℕ
blocks_reads bs = flat_map block_reads bs

abbrev pub code_reads : Tac → List ℕ
code_reads code = blocks_reads code.blocks

-- what is kept of a temporary that is read so often: whether that is once
abbrev pub told : ℕ → Option Bool
told zero = None
told (suc n) = Some (nat_eq n 0)

-- it is kept of each temporary how often the list has it
pub record Told (entries : List (ℕ × Bool)) (reads : List ℕ) : Type 0 where
  pub each : (t : ℕ) → lookup (nat_eq t) entries ≡ told (times t reads)

-- the temporary is read once more
pub record Notes (t : ℕ) (old new : List (ℕ × Bool)) : Type 0 where
  pub each : (u : ℕ) → lookup (nat_eq u) new ≡
      (if nat_eq t u then Some (not (is_some (lookup (nat_eq t) old))) else lookup (nat_eq u) old)

abbrev pub told_once : List (ℕ × Bool) → ℕ → Bool
told_once entries t = unwrap_or (lookup (nat_eq t) entries) false

-- ---- names

-- the name of a temporary, or the temporary itself
abbrev pub name_in : List (ℕ × ℕ) → ℕ → ℕ
name_in entries t = unwrap_or (lookup (nat_eq t) entries) t

-- ---- one instruction at a time

-- where the first of the instructions behind copies the result, if that is read there alone
abbrev pub copied_to : (once : ℕ → Bool) → Instruction → List Instruction → Option ℕ
copied_to once i (Copy x (Temp t) ∷ is) = if makes t i && once t then Some x else None
copied_to once i _ = None

-- the temporaries of an instruction that is a copy that goes
abbrev pub gone : (once : ℕ → Bool) → Instruction → List Instruction → Exit → Option (ℕ × ℕ)
gone once (Copy t (Temp s)) is e = if goes once t s is e then Some (t, s) else None
gone once _ is e = None

-- code with instructions before it
abbrev pub behind : List Instruction → Code → Code
behind is c = record { instructions = is ++ c.instructions; exit = c.exit }

-- ---- which blocks are reached

abbrev pub is_among : List ℕ → ℕ → Bool
is_among ns n = list_any (nat_eq n) ns

-- numbers with one more, unless it is among them
abbrev pub with_one : List ℕ → ℕ → List ℕ
with_one ns n = if is_among ns n then ns else ns ++ n ∷ []

abbrev pub with_one_if : Bool → List ℕ → ℕ → List ℕ
with_one_if b ns n = if b then with_one ns n else ns

-- with those to which the exit of a block leads back
abbrev pub with_back : (from : ℕ) → List ℕ → Exit → List ℕ
with_back from ns (Jump e) = with_one_if (nat_le e.block from) ns e.block
with_back from ns (Branch a e f) = with_one_if (nat_le f.block from) (with_one_if (nat_le e.block from) ns e.block) f.block
with_back from ns _ = ns

abbrev pub with_backs : (from : ℕ) → List ℕ → List Block → List ℕ
with_backs from ns [] = ns
with_backs from ns (b ∷ bs) = with_backs (suc from) (with_back from ns b.exit) bs

-- with all to which an exit leads
abbrev pub with_next : List ℕ → Exit → List ℕ
with_next ns (Jump e) = with_one ns e.block
with_next ns (Branch a e f) = with_one (with_one ns e.block) f.block
with_next ns _ = ns

abbrev pub with_ahead : (from : ℕ) → List ℕ → List Block → List ℕ
with_ahead from ns [] = ns
with_ahead from ns (b ∷ bs) = with_ahead (suc from) (if is_among ns from then with_next ns b.exit else ns) bs

-- the numbers of the blocks that are reached
abbrev pub reached_numbers : List Block → List ℕ
reached_numbers bs = with_ahead 0 (with_backs 0 (0 ∷ []) bs) bs

-- ---- which parameters are taken at once

-- the parameter that goes at once to the temporary to which the first instruction copies it, with that
abbrev pub taken_pair : List Destination → List Instruction → Exit → List Block → Option (ℕ × ℕ)
taken_pair ds (Copy v (Temp p) ∷ is) e bs = if may_go ds p v is e bs then Some (p, v) else None
taken_pair ds is e bs = None

-- the same behind so many others
abbrev pub next_pair : ℕ → List Destination → List Instruction → Exit → List Block → Option (ℕ × ℕ)
next_pair n ds is e bs = if nat_lt n most_taken then taken_pair ds is e bs else None

-- code with other parameters and other blocks, by the first
abbrev pub standing : Tac → List Destination → List Instruction → Exit → List Block → Tac
standing code ds is e bs = record code { parameters = ds; blocks = record { instructions = is; exit = e } ∷ bs }

-- the numbers of blocks, from a number on, from whose beginning a temporary is needed
abbrev pub needed_numbers : (t from : ℕ) → List Block → List ℕ
needed_numbers t from [] = []
needed_numbers t from (b ∷ bs) =
    let behind = needed_numbers t (suc from) bs in
    with_one_if (is_needed t b.instructions b.exit (is_among behind)) behind from
