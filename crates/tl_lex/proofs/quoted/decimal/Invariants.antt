use Rattle.std.proofs.Common.{◌≡◌, ◌≤◌, take}
use Rattle.tl_lex.specs.Quoted.{decimal}
use Rattle.tl_lex.proofs.quoted.decimal.Given as goal

abbrev pub invariant-loop-d : goal.invariant-loop-d
invariant-loop-d l =
    (l.number ≡ decimal (take l.d-index l.digits)) × (l.d-index ≤ 0 → l.number ≤ 0) × (l.d-index ≤ 1 → l.number ≤ 207) × (l.d-index ≤ 2 → l.number ≤ 2277)
