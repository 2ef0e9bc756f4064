use Rattle.std.proofs.Common.{◌≡◌, ◌-◌, List, sym, ap, subst, drop, arith, length}
use Rattle.std.proofs.lemmas.Grind.{common_steps}
use Rattle.tac_lower.specs.Pieces.{Bound}
use Rattle.tac_lower.specs.Works.{Made}
use Rattle.tac_lower.specs.contracts.work.Work.{the_view}
use Rattle.tac_lower.proofs.Lines.{left-scope}
use Rattle.tac_lower.proofs.work.Work.leave.Goals as goal

pub returns : goal.returns
returns c =
    let s = c.self.inside in
    let tail = c.in_ok-self-inside.field-0 in
    let view = c.self.view_is in
    let seen : c.args.self.now ≡ the_view s = cc in
    let many : c.saturating_sub-inner.result ≡ length s.scope.items - c.args.count = grind (arith, common_steps, c.len.ensures, c.saturating_sub-inner.ensures) in
    let rest : tail.items ≡ drop c.saturating_sub-inner.result s.scope.items = grind (arith, common_steps, c.in_ok-self-inside.ensures.tail) in
    subst (λ (t : Made). ◌≡◌ {A = Made} (the_view (record s { scope = tail })) (record t { scope = drop (length t.scope - c.args.count) t.scope })) (sym seen)
    (ap (λ (l : List Bound). record (the_view s) { scope = l }) (left-scope s.scope.items tail.items c.saturating_sub-inner.result c.args.count many rest))
