use Rattle.std.proofs.Common.{◌-◌, length}
use Rattle.tl_lex.proofs.LineEndLemmas.{Counted}
use Rattle.tl_lex.proofs.line_ends.count_line_ends.Given as goal

abbrev pub invariant-bytes : goal.invariant-bytes
invariant-bytes l = Counted l.bytes l.at l.len l.line_ends

abbrev pub decreases-bytes : goal.decreases-bytes
decreases-bytes l = length l.initial.bytes - l.at
