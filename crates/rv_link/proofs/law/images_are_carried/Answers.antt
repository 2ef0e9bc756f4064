use Rattle.rv_link.proofs.Starting.{images-carried}
use Rattle.rv_link.proofs.law.images_are_carried.Goals as goal

pub returns : goal.returns
returns c = images-carried
