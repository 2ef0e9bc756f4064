use Rattle.std.proofs.Common.{◌≡◌, ◌≤◌, ◌++◌, drop}
use Rattle.tl_renaming.specs.Passes.{numbers_from}
use Rattle.tl_renaming.proofs.declarations.numbered.Given as goal

-- with the marks that are left, all is numbered
abbrev pub invariant-loop-mark : goal.invariant-loop-mark
invariant-loop-mark l =
    (l.numbers.items ++ numbers_from l.count (drop l.mark-index l.marks) ≡ numbers_from 0 l.marks) × (l.count ≤ l.mark-index)
