use Rattle.std.proofs.Common.{ap, ◌∙◌}
use Rattle.std.proofs.lemmas.List.{take_rest}
use Rattle.tl_lex.specs.LineEnds.{line_end_len}
use Rattle.tl_lex.proofs.LineEndLemmas.{counted_byte, counted_end}
use Rattle.tl_lex.proofs.line_ends.count_line_ends.Goals as goal
use Rattle.tl_lex.proofs.line_ends.count_line_ends.Goals.{then-ends-eq0, else-ends-eq0}

pub bytes-preserved : goal.bytes-preserved
bytes-preserved c =
    let bytes = c.args.bytes.now in
    let ends = c.line_end_len-ends.ensures ∙ ap line_end_len (take_rest bytes c.bytes.at) in
    elim c.if-ends-eq0.branch [
      | then-ends-eq0 w ↦ rw (w.at-is, w.line_ends-is) (counted_byte bytes _ _ _ _ c.bytes-test.true ends w.if-ends-eq0.true c.bytes.invariant)
      | else-ends-eq0 w ↦ rw (w.at-is, w.line_ends-is) (counted_end bytes _ _ _ _ c.bytes-test.true ends w.if-ends-eq0.false c.bytes.invariant)
    ]
