use Rattle.std.proofs.Common.{◌≡◌, ◌++◌, drop}
use Rattle.back_end.specs.Compiled.{codes_of}
use Rattle.back_end.proofs.symbols.push_codes.Given as goal

abbrev pub invariant-loop-name : goal.invariant-loop-name
invariant-loop-name l = l.codes.items ++ codes_of l.types (drop l.name-index l.names) ≡ l.fn.codes.items ++ codes_of l.types l.names
