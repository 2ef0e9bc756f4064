use Rattle.std.proofs.Common.{subst, ℕ, ◌≤◌, ◌<◌, min, length, arith}
use Rattle.tl_base.specs.declared.ids.TermId.{TermId}
use Rattle.tac_lower.specs.declared.value.Target.TheVariants.{Temp}
use Rattle.tac_lower.proofs.Turns.{assign-end, assign-later}
use Rattle.tac_lower.proofs.assigning.assigned_all.Goals as goal

pub loop-i-preserved : goal.loop-i-preserved
loop-i-preserved c =
    let store = c.args.store.now in
    let nodes = c.args.nodes.now in
    let targets = c.args.targets.now in
    let i = c.loop-i.i in
    let some : i < min (length nodes) (length targets) = subst (λ (n : ℕ). i < n) c.min-count.ensures c.loop-i-test.true in
    let d : TermId = record { 0 = 0 } in
    assign-later store.types store c.args.below nodes targets c.args.values.now i c.loop-i.work _ c.loop-i.invariant
    d (Temp 0) c.value_at-v.result c.assigned.new.work (omega (arith, some)) (omega (arith, some)) c.value_at-v.ensures c.in_ok-assigned.ensures

pub returns : goal.returns
returns c =
    let store = c.args.store.now in
    let nodes = c.args.nodes.now in
    let targets = c.args.targets.now in
    let i = c.loop-i.i in
    let past : min (length nodes) (length targets) ≤ i = subst (λ (n : ℕ). n ≤ i) c.min-count.ensures c.loop-i-test.false in
    assign-end store.types store c.args.below nodes targets c.args.values.now i c.loop-i.work _ c.loop-i.invariant past
