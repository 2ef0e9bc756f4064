use Rattle.std.proofs.Common.{subst, Result}
use Rattle.terra_words.specs.Runs.{Value}
use Rattle.terra_meaning.specs.Meaning.{kept}
use Rattle.terra_eval.specs.declared.stop.Stop.{Stop}
use Rattle.terra_eval.specs.Views.{GaveValue}
use Rattle.terra_eval.proofs.Ending.{returned-run}
use Rattle.terra_eval.proofs.program.ended.Goals as goal

pub returns-in-Ok : goal.returns-in-Ok
returns-in-Ok c = λ variables got s same gave.
    returned-run variables got s _ _ same (subst (λ (r : Result Value Stop). GaveValue r s (kept variables got)) c.in-Ok.is gave)
