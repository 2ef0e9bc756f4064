use Rattle.std.proofs.Common.{None, ap₂}
use Rattle.terrac_call.specs.Words.{Asking, Call, Running}
use Rattle.terrac_call.proofs.words.run_of.Goals as goal

made : Call → Running → Asking
made call running = record { call = call; running = running; generated = None }

pub returns : goal.returns
unfolding made
returns c = ap₂ made c.in_ok-call.ensures c.running_of.ensures
