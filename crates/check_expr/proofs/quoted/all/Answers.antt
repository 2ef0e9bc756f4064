use Rattle.std.proofs.Common.{ℕ, ◌+◌, ◌-◌, ◌++◌, ◌∙◌, ap, arith, length, get_or, ◌∷◌, []}
use Rattle.check_expr.specs.declared.quoted.Ahead.{Ahead}
use Rattle.check_expr.specs.declared.quoted.Ahead.TheVariants.{Part}
use Rattle.check_expr.specs.Quoted.{names_ahead}
use Rattle.check_expr.proofs.Ahead.{all_more}
use Rattle.check_expr.proofs.quoted.all.Goals as goal

pub terms-preserved : goal.terms-preserved
terms-preserved c = λ w.
    let a = c.args in
    let ts = a.terms.now in
    let n = length ts in
    let part : ℕ → Ahead =
    λ k. Part (record { term = get_or ts k (record { 0 = 0 }); below = a.below; is_statement = a.is_statement }) in
    ap (names_ahead w) c.in_ok-push.ensures.items
    ∙ ap (λ (k : ℕ). names_ahead w (c.terms.ahead.items ++ part k ∷ [])) (omega arith)
    ∙ all_more w a.is_statement a.below ts (n - (c.terms.place + 1)) (n - c.terms.place) (record { 0 = 0 }) c.terms.ahead.items
    (names_ahead w a.ahead.now.items) (omega arith) (omega arith) (c.terms.invariant w)
