use Rattle.rv_select.proofs.Within.{frames-within}
use Rattle.rv_select.proofs.law.frames_keep_within.Goals as goal

pub returns : goal.returns
returns c = frames-within
