use Rattle.std.proofs.Common.{◌≡◌, ◌≤◌, drop, length}
use Rattle.exotype.specs.Terms.{terms_size}
use Rattle.spec_machine.proofs.quotes.terms_size.Given as goal

abbrev pub invariant-terms : goal.invariant-terms
invariant-terms l = record {
  within : l.left ≤ length l.terms;
  same : l.size ≡ terms_size l.world (drop l.left l.terms);
}

abbrev pub decreases-terms : goal.decreases-terms
decreases-terms l = l.left
