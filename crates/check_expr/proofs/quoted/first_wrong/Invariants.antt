use Rattle.std.proofs.Common.{◌≡◌, []}
use Rattle.terra_term.specs.Events.{events_of}
use Rattle.terra_term.specs.Planted.{typed_at, typed_trees}
use Rattle.check_model.specs.Expressions.{wrong_in}
use Rattle.check_expr.specs.Quoted.{names_ahead, wrong_from}
use Rattle.check_expr.proofs.quoted.first_wrong.Given as goal

abbrev pub invariant-ahead : goal.invariant-ahead
invariant-ahead l =
    wrong_from l.typing l.base l.scopes (names_ahead l.typing.stage l.ahead.items)
    ≡ wrong_in l.typing l.base [] [] (events_of (typed_at (typed_trees l.typing.stage.store.typed) l.fn.made))
