use Rattle.std.proofs.Common.{◌≡◌, ◌-◌, ◌++◌, drop, length}
use Rattle.exotype.specs.World.{StageState}
use Rattle.check_expr.specs.Quoted.{names_ahead, all_names}
use Rattle.check_expr.proofs.quoted.all.Given as goal

abbrev pub invariant-terms : goal.invariant-terms
invariant-terms l =
    (w : StageState) → names_ahead w l.ahead.items
    ≡ all_names l.is_statement w l.below (drop (length l.terms - l.place) l.terms) ++ names_ahead w l.fn.ahead.items
