use Rattle.std.proofs.Common.{ℕ, true, ap₂}
use Rattle.terrac_call.specs.Words.{Call, Exec, Job}
use Rattle.terrac_call.proofs.words.trace_of.Goals as goal

made : Call → ℕ → Job
made call steps = Exec call (record { steps = steps; traced = true })

pub returns : goal.returns
unfolding made
returns c = ap₂ made c.in_ok-call.ensures c.number_found.ensures
