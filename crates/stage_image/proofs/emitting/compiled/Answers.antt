use Rattle.stage_image.proofs.Names.{are-named}
use Rattle.stage_image.proofs.emitting.compiled.Goals as goal

pub compile-requires-clause-names : goal.compile-requires-clause-names
compile-requires-clause-names c = are-named c.args.exports.now c.requires.named c.names_are_bytes.ensures
