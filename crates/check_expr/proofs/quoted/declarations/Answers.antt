use Rattle.std.proofs.Common.{ℕ, ◌+◌, ◌-◌, ◌++◌, ◌∙◌, ap, arith, length, get_or, ◌∷◌, []}
use Rattle.terra_term.specs.declared.lists.TypedName.{TypedName}
use Rattle.check_expr.specs.declared.quoted.Ahead.TheVariants.{Declares}
use Rattle.check_expr.specs.Quoted.{names_ahead}
use Rattle.check_expr.proofs.Ahead.{names_more}
use Rattle.check_expr.proofs.quoted.declarations.Goals as goal

pub names-preserved : goal.names-preserved
names-preserved c = λ w.
    let a = c.args in
    let ns = a.names.now in
    let n = length ns in
    let d : TypedName = record { symbol = record { 0 = 0 }; of = record { 0 = 0 } } in
    ap (names_ahead w) c.in_ok-push.ensures.items
    ∙ ap (λ (k : ℕ). names_ahead w (c.names.ahead.items ++ Declares (get_or ns k d) ∷ [])) (omega arith)
    ∙ names_more w ns (n - (c.names.place + 1)) (n - c.names.place) d c.names.ahead.items
    (names_ahead w a.ahead.now.items) (omega arith) (omega arith) (c.names.invariant w)
