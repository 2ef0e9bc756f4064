-- Code whose parameters go at once to the temporaries of their variables: lowering begins a function with a copy of each parameter to its
-- variable, and reads the parameter nowhere else.
use Rattle.std.specs.Prelude.{ℕ, zero, suc, Bool, false, not, ◌&&◌, ◌||◌, nat_eq, if◌then◌else◌, List, [], ◌∷◌, map}
use Rattle.std.specs.List.{list_any}
use Rattle.tac_form.specs.declared.tac.Operand.TheVariants.{Temp}
use Rattle.tac_form.specs.declared.tac.Destination.{Destination}
use Rattle.tac_form.specs.declared.tac.Destination.TheVariants as destinations
use Rattle.tac_form.specs.declared.tac.Instruction.{Instruction}
use Rattle.tac_form.specs.declared.tac.Instruction.TheVariants.{Copy}
use Rattle.tac_form.specs.declared.tac.Exit.{Exit}
use Rattle.tac_form.specs.declared.tac.Block.{Block}
use Rattle.tac_form.specs.declared.tac.Tac.{Tac}
use Rattle.tac_form.specs.Graph.{instruction_reads, instruction_write, exit_reads, exit_next}
use Rattle.tac_form.specs.Live.{has, is_written}
use Rattle.tac_form.specs.Fits.{goes_to}
use Rattle.tac_copies.specs.Reached.{leads_to}

-- ---- which temporaries are read

-- whether instructions or the exit behind them read a temporary
abbrev pub reads : (t : ℕ) → List Instruction → Exit → Bool
reads t is e = list_any (λ i. has (instruction_reads i) t) is || has (exit_reads e) t

abbrev pub block_reads : (t : ℕ) → Block → Bool
block_reads t b = reads t b.instructions b.exit

-- whether a temporary is read before it is written: by instructions, by the exit behind them, or on from a block to which that leads
abbrev pub is_needed : (t : ℕ) → List Instruction → Exit → (behind : ℕ → Bool) → Bool
is_needed t [] e behind = has (exit_reads e) t || list_any behind (exit_next e)
is_needed t (i ∷ is) e behind =
    has (instruction_reads i) t || (not (is_written (instruction_write i) t) && is_needed t is e behind)

-- whether it is so from the beginning of a block on, of blocks from a number on, by a way that leads ahead
abbrev pub is_needed_from : (t from : ℕ) → List Block → ℕ → Bool
is_needed_from t from [] n = false
is_needed_from t from (b ∷ bs) n =
    is_needed_from t (suc from) bs n || (is_needed t b.instructions b.exit (is_needed_from t (suc from) bs) && nat_eq from n)

-- ---- one parameter after the other

-- Whether a parameter p may go to v, where these instructions, exit and blocks are behind the copy with which the code begins: v is no
-- parameter, p is read no more, no block leads to the first, and v is needed, as each parameter has to be.
abbrev pub may_go : List Destination → (p v : ℕ) → List Instruction → Exit → List Block → Bool
may_go parameters p v is e bs =
    list_any (goes_to p) parameters && (not (list_any (goes_to v) parameters) &&
    (not (reads p is e || list_any (block_reads p) bs) &&
    (not (has (exit_next e) 0 || list_any (λ b. leads_to b 0) bs) && is_needed v is e (is_needed_from v 1 bs))))

-- where a parameter goes, with v in place of p
abbrev pub goes_instead : (p v : ℕ) → Destination → Destination
goes_instead p v (destinations.Temp t) = destinations.Temp (if nat_eq t p then v else t)
goes_instead p v (destinations.Area n) = destinations.Area n
goes_instead p v destinations.Nothing = destinations.Nothing

-- by the first block, and those behind it
abbrev pub taken_first : Tac → List Instruction → Exit → List Block → Tac
taken_first code (Copy v (Temp p) ∷ is) e bs =
    if may_go code.parameters p v is e bs then record code {
      parameters = map (goes_instead p v) code.parameters;
      blocks = record { instructions = is; exit = e } ∷ bs;
    } else code
taken_first code is e bs = code

abbrev pub taken_by : Tac → List Block → Tac
taken_by code [] = code
taken_by code (b ∷ bs) = taken_first code b.instructions b.exit bs

unfoldable pub taken_once : Tac → Tac
taken_once code = taken_by code code.blocks

-- how many parameters are taken so at most
abbrev pub most_taken : ℕ
most_taken = 8

abbrev pub taken_times : ℕ → Tac → Tac
taken_times zero code = code
taken_times (suc n) code = taken_times n (taken_once code)

unfoldable pub taken_code : Tac → Tac
taken_code code = taken_times most_taken code
