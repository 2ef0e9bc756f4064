use Rattle.std.proofs.Common.{◌≡◌, suc, ◌+◌, ◌≤◌, ◌∙◌, sym, ap, subst, arith, ℕ}
use Rattle.stage_image.specs.Emitted.{counted, defined_below}
use Rattle.stage_image.proofs.Counting.{few_defined}
use Rattle.stage_image.proofs.emitting.defined_count.Goals as goal

pub counted-count-requires : goal.counted-count-requires
counted-count-requires c =
    let few : defined_below c.args.store.now c.loop-number.number ≤ c.loop-number.number =
    few_defined c.args.store.now c.loop-number.number in
    let here : c.loop-number.count ≤ c.loop-number.number =
    subst (λ (k : ℕ). k ≤ c.loop-number.number) (sym c.loop-number.invariant) few in
    omega (arith, here)

pub loop-number-preserved : goal.loop-number-preserved
loop-number-preserved c =
    let next : suc c.loop-number.number ≡ c.loop-number.number + 1 = omega arith in
    c.counted-count.ensures ∙ (ap (counted c.args.store.now (record { 0 = c.loop-number.number })) c.loop-number.invariant
    ∙ ap (defined_below c.args.store.now) next)
