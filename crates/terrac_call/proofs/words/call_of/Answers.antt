use Rattle.std.proofs.Common.{List, ℕ, ap₂}
use Rattle.terrac_call.specs.Words.{Call}
use Rattle.terrac_call.proofs.words.call_of.Goals as goal

made : List ℕ → List (List ℕ) → Call
made entry arguments = record { entry = entry; arguments = arguments }

pub returns : goal.returns
unfolding made
returns c = ap₂ made c.text_of.ensures c.in_ok-arguments.ensures
