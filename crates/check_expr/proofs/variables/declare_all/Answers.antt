use Rattle.std.proofs.Common.{◌+◌, drop, sym, ap, ◌∙◌}
use Rattle.check_model.specs.Typing.{TypingState, with_variables}
use Rattle.check_expr.proofs.Declaring.{names_more, names_end}
use Rattle.check_expr.proofs.variables.declare_all.Goals as goal

pub names-preserved : goal.names-preserved
names-preserved c =
    let ns = c.args.names.now in
    let l = c.names in
    ap (λ (w : TypingState). with_variables w (drop (l.name-index + 1) ns)) c.in_ok-declare.ensures
    ∙ names_more l.typing ns l.name-index _ c.names-test.true ∙ l.invariant

pub returns : goal.returns
returns c =
    let ns = c.args.names.now in
    let l = c.names in
    record { ok = sym (names_end l.typing ns l.name-index c.names-test.false) ∙ l.invariant }
