use Rattle.ready_image.proofs.Compiling.{can-be-compiled}
use Rattle.ready_image.proofs.law.ready_exports_compile.Goals as goal

pub returns : goal.returns
returns c = can-be-compiled
