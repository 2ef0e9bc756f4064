use Rattle.std.proofs.Common.{length}
use Rattle.check_library.proofs.exports.+all_scalar_types.Given as goal

abbrev pub decreases-all_scalar_types : goal.decreases-all_scalar_types
decreases-all_scalar_types l = length l.all.now
