use Rattle.std.proofs.Common.{◌≡◌, ◌++◌, drop}
use Rattle.terra_term.specs.Stores.{contents_of}
use Rattle.back_end.specs.Symbols.{symbols_of}
use Rattle.back_end.proofs.symbols.push_symbols.Given as goal

abbrev pub invariant-loop-export : goal.invariant-loop-export
invariant-loop-export l =
    l.symbols.items ++ symbols_of (contents_of l.store) l.ids.keys l.starts (drop l.export-index l.exports)
    ≡ l.fn.symbols.items ++ symbols_of (contents_of l.store) l.ids.keys l.starts l.exports
