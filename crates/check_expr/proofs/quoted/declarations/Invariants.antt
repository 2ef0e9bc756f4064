use Rattle.std.proofs.Common.{◌≡◌, ◌-◌, ◌++◌, drop, length}
use Rattle.terra_term.specs.Events.{declares_all}
use Rattle.exotype.specs.World.{StageState}
use Rattle.check_expr.specs.Quoted.{names_ahead}
use Rattle.check_expr.proofs.quoted.declarations.Given as goal

abbrev pub invariant-names : goal.invariant-names
invariant-names l =
    (w : StageState) → names_ahead w l.ahead.items
    ≡ declares_all (drop (length l.names - l.place) l.names) ++ names_ahead w l.fn.ahead.items
