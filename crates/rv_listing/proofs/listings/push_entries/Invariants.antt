use Rattle.std.proofs.Common.{◌≡◌, ◌++◌, drop}
use Rattle.rv_listing.specs.Listing.{entry_lines}
use Rattle.rv_listing.proofs.listings.push_entries.Given as goal

abbrev pub invariant-loop-symbol : goal.invariant-loop-symbol
invariant-loop-symbol l = l.out ++ entry_lines (drop l.symbol-index l.exports) ≡ l.fn.out ++ entry_lines l.exports
