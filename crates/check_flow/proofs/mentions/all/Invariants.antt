use Rattle.std.proofs.Common.{◌≡◌, ◌-◌, ◌++◌, drop, length}
use Rattle.exotype.specs.World.{StageState}
use Rattle.check_flow.specs.Parts.{parts_mentions, all_mentions}
use Rattle.check_flow.proofs.mentions.all.Given as goal

abbrev pub invariant-terms : goal.invariant-terms
invariant-terms l =
    (w : StageState) → parts_mentions w l.parts.items
    ≡ all_mentions l.is_statement w l.below (drop (length l.terms - l.place) l.terms) ++ parts_mentions w l.fn.parts.items
