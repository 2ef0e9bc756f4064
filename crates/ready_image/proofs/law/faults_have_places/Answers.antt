use Rattle.ready_image.proofs.FaultPlaces.{faults-have-places}
use Rattle.ready_image.proofs.law.faults_have_places.Goals as goal

pub returns : goal.returns
returns c = faults-have-places
