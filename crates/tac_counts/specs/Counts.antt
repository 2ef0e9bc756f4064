-- Which steps of three-address code take a count, and how many counts are left where a run stops.
use Rattle.std.specs.Prelude.{◌≡◌, ℕ, zero, suc, ◌-◌, ◌<◌, List, Bool, true, false, nat_eq, if◌then◌else◌, Option, Some, None, slice_get}
use Rattle.tl_base.specs.declared.ids.FnId.{FnId}
use Rattle.tac_form.specs.declared.tac.Instruction.{Instruction}
use Rattle.tac_form.specs.declared.tac.Instruction.TheVariants.{Call, CallValue}
use Rattle.tac_form.specs.declared.tac.Exit.{Exit}
use Rattle.tac_form.specs.declared.tac.Exit.TheVariants.{Jump, Branch}
use Rattle.tac_form.specs.declared.tac.Block.{Block}
use Rattle.tac_form.specs.declared.tac.Signature.{Signature}
use Rattle.tac_form.specs.declared.tac.Tac.{Tac}
use Rattle.terra_words.specs.Runs.{End, Over, More}
use Rattle.tac_form.specs.Flow.{Program, State, Moved, Goes, Stops, operand, entry, has_signature, step, steps}

-- an exit takes one where it goes over an edge that counts
abbrev pub exit_takes : State → Exit → Bool
exit_takes s (Jump e) = e.counts
exit_takes s (Branch a e f) = if nat_eq (operand s a) 0 then f.counts else e.counts
exit_takes s _ = false

-- a call takes one, and one of a value only where the value is that of a function of the signature
abbrev pub entry_takes : Program → Signature → Option FnId → Bool
entry_takes p sig None = false
entry_takes p sig (Some f) = has_signature sig (p.code f)

abbrev pub instruction_takes : Program → State → Instruction → Bool
instruction_takes p s (Call to at f arguments) = true
instruction_takes p s (CallValue to at sig a arguments) = entry_takes p sig (entry p.entries (operand s a))
instruction_takes p s i = false

abbrev pub step_takes : Program → State → Exit → Option Instruction → Bool
step_takes p s exit None = exit_takes s exit
step_takes p s exit (Some i) = instruction_takes p s i

abbrev pub block_takes : Program → State → Option Block → Bool
block_takes p s None = false
block_takes p s (Some b) = step_takes p s b.exit (slice_get b.instructions s.here.at)

abbrev pub function_takes : Program → State → Option Tac → Bool
function_takes p s None = false
function_takes p s (Some code) = block_takes p s (slice_get code.blocks s.here.block)

-- whether a step takes a count, where there is one
abbrev pub takes : Program → State → Bool
takes p s = function_takes p s (p.code s.here.function)

-- how many are left behind a step
abbrev pub left_behind : Program → State → ℕ
left_behind p s = if takes p s then s.left - 1 else s.left

-- how many counts are left where a run stops within so many steps
abbrev pub left_after : Moved → (State → ℕ) → (behind : ℕ) → ℕ
left_after (Goes t) go behind = go t
left_after (Stops r) go behind = behind

abbrev pub left_in : Program → ℕ → State → ℕ
left_in p zero s = s.left
left_in p (suc k) s = left_after (step p s) (left_in p k) (left_behind p s)

-- the same state with so many counts left
abbrev pub counting : ℕ → State → State
counting n s = record s { left = n }

-- A run that is over within k steps needs m counts: with so many it ends so, and with fewer it needs more.
pub record Needs (p : Program) (k : ℕ) (s : State) (e : End) (out : List ℕ) (m : ℕ) : Type 0 where
  pub ends : steps p k (Goes (counting m s)) ≡ Stops (Over e out)
  pub fewer : (n : ℕ) → n < m → (less : List ℕ) × (steps p k (Goes (counting n s)) ≡ Stops (More less))
