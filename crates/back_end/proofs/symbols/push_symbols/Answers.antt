use Rattle.std.proofs.Common.{length, refl}
use Rattle.std.proofs.lemmas.Option.{slice_get_read}
use Rattle.back_end.proofs.symbols.push_symbols.Goals as goal

pub symbol_of-requires : goal.symbol_of-requires
symbol_of-requires c =
    c.requires c.loop-export.export-index c.export-item.result
    (slice_get_read c.args.exports.now (length c.args.exports.now) c.loop-export.export-index c.export-item.result refl
    c.loop-export-test.true c.export-item.is)
