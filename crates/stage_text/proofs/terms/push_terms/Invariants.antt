use Rattle.std.proofs.Common.{◌≡◌, ◌++◌, [], drop, take}
use Rattle.stage_text.specs.Terms.{term_lines}
use Rattle.stage_text.proofs.terms.push_terms.Given as goal

abbrev pub invariant-loop-place : goal.invariant-loop-place
invariant-loop-place l =
    l.out ++ term_lines l.store (take l.place l.exports) (drop l.place l.exports) ≡ l.fn.out ++ term_lines l.store [] l.exports
