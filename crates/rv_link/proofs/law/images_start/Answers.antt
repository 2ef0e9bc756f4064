use Rattle.rv_link.proofs.Starting.{images-start}
use Rattle.rv_link.proofs.law.images_start.Goals as goal

pub returns : goal.returns
returns c = images-start
