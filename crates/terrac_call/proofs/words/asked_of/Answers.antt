use Rattle.std.proofs.Common.{◌∙◌}
use Rattle.terrac_call.proofs.Asking.{named, refuses, taken}
use Rattle.terrac_call.proofs.words.asked_of.Goals as goal

pub returns-in-Ok-clause-asked : goal.returns-in-Ok-clause-asked
returns-in-Ok-clause-asked c =
    named _ _ _ _ _ c.in_ok-command.ensures c.in-Ok.ensures.kinds
    (λ simple. (c.in-Ok.ensures.matches simple).1) c.in_ok-job-in-Ok.ensures c.asked_job.ensures.asked

pub returns-clause-asked : goal.returns-clause-asked
returns-clause-asked c = refuses _ _ _ c.in_ok-command.ensures c.in-Err.ensures.kinds
    (λ memory. c.in_default.not-OutOfMemory (c.kind.ensures ∙ memory))

pub returns-clause-taken : goal.returns-clause-taken
returns-clause-taken c = λ are. absurd (c.in_default.not-OutOfMemory
    (c.kind.ensures ∙ c.in-Err.ensures.passes (taken _ _ c.in_ok-command.ensures are)))
