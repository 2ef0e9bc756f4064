use Rattle.std.proofs.Common.{◌≡◌, ◌++◌, drop}
use Rattle.stage_text.specs.Terms.{export_lines}
use Rattle.stage_text.proofs.terms.terms_text.Given as goal

abbrev pub invariant-loop-export : goal.invariant-loop-export
invariant-loop-export l = l.out ++ export_lines (drop l.export-index l.exports) ≡ export_lines l.exports
