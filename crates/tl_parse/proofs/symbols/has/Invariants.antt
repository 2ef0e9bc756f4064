use Rattle.std.proofs.Common.{◌≡◌, drop}
use Rattle.tl_tree.specs.Symbols.{has}
use Rattle.tl_parse.proofs.symbols.has.Given as goal

-- none of the symbols before this one has the number
abbrev pub invariant-loop-symbol : goal.invariant-loop-symbol
invariant-loop-symbol l = has (drop l.symbol-index l.symbols) l.number ≡ has l.symbols l.number
