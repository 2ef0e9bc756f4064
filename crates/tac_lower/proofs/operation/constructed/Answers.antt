use Rattle.std.proofs.Common.{ap, ◌∙◌, subst, ℕ, ◌≤◌, ◌<◌, min, length, arith}
use Rattle.tl_base.specs.declared.ids.TypeId.{TypeId}
use Rattle.tac_form.specs.declared.tac.Operand.TheVariants.{Temp}
use Rattle.tac_lower.specs.declared.value.Value.TheVariants.{Word}
use Rattle.tac_lower.proofs.Turns.{entries-end, entry-later}
use Rattle.tac_lower.proofs.operation.constructed.Goals as goal

pub loop-i-preserved : goal.loop-i-preserved
loop-i-preserved c =
    let os = c.args.offsets.now in
    let ts = c.args.operands.now in
    let vs = c.args.values.now in
    let i = c.loop-i.i in
    let t : TypeId = record { 0 = 0 } in
    let some : i < min (min (length os) (length ts)) (length vs) =
    subst (λ (n : ℕ). i < n) (c.min-count.ensures ∙ ap (λ (n : ℕ). min n (length vs)) c.min.ensures) c.loop-i-test.true in
    entry-later c.args.types.now c.args.n os ts vs i c.loop-i.work _ c.loop-i.invariant
    t (Word (Temp 0)) c.stored.new.work (omega (arith, some)) (omega (arith, some)) (omega (arith, some)) c.in_ok-stored.ensures

pub returns : goal.returns
returns c =
    let os = c.args.offsets.now in
    let ts = c.args.operands.now in
    let vs = c.args.values.now in
    let i = c.loop-i.i in
    let past : min (min (length os) (length ts)) (length vs) ≤ i =
    subst (λ (n : ℕ). n ≤ i) (c.min-count.ensures ∙ ap (λ (n : ℕ). min n (length vs)) c.min.ensures) c.loop-i-test.false in
    entries-end c.args.types.now c.args.n os ts vs i c.loop-i.work _ c.loop-i.invariant past
