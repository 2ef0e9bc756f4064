use Rattle.std.proofs.Common.{◌≡◌, ◌-◌, List, sym, ap, subst, drop, arith, length}
use Rattle.std.proofs.lemmas.Grind.{common_steps}
use Rattle.terra_meaning.specs.Running as running
use Rattle.terra_eval.specs.contracts.state.State.{the_view}
use Rattle.terra_eval.proofs.Turns.{left-scope}
use Rattle.terra_eval.proofs.state.State.leave.Goals as goal

pub returns : goal.returns
returns c =
    let s = c.self.inside in
    let tail = c.in_ok-self-inside.field-0 in
    let view = c.self.view_is in
    let seen : c.args.self.now ≡ the_view s = cc in
    let many : c.saturating_sub-inner.result ≡ length s.variables.items - c.args.count = grind (arith, common_steps, c.len.ensures, c.saturating_sub-inner.ensures) in
    let rest : tail.items ≡ drop c.saturating_sub-inner.result s.variables.items = grind (arith, common_steps, c.in_ok-self-inside.ensures.tail) in
    subst (λ (t : running.State). ◌≡◌ {A = running.State} (the_view (record s { variables = tail })) (record t { variables = drop (length t.variables - c.args.count) t.variables })) (sym seen)
    (ap (λ (l : List running.Variable). record (the_view s) { variables = l }) (left-scope s.variables.items tail.items c.saturating_sub-inner.result c.args.count many rest))
