use Rattle.rv_link.proofs.Starting.{counted-images-carried}
use Rattle.rv_link.proofs.law.counted_images_are_carried.Goals as goal

pub returns : goal.returns
returns c = counted-images-carried
