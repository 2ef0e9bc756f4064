use Rattle.std.proofs.Common.{◌-◌, ◌≤◌, length, drop}
use Rattle.tl_lex.specs.LineEnds.{with_line_feeds}
use Rattle.tl_lex.proofs.ValueLemmas.{Written}
use Rattle.tl_lex.proofs.value.push_unified.Given as goal

abbrev pub invariant-bytes : goal.invariant-bytes
invariant-bytes l =
    (l.at ≤ length l.bytes) × Written l.fn.value.items l.value.items (with_line_feeds (drop l.at l.bytes)) (with_line_feeds l.bytes)

abbrev pub decreases-bytes : goal.decreases-bytes
decreases-bytes l = length l.bytes - l.at
