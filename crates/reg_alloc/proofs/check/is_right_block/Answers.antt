use Rattle.std.proofs.Common.{◌≡◌, ◌+◌, ◌-◌, ◌<◌, ◌↔◌, true, length, get_or, sym, ap, ◌∙◌, subst, arith}
use Rattle.std.proofs.lemmas.Bool.{false≢true}
use Rattle.std.proofs.lemmas.List.{get_or_default}
use Rattle.tac_form.specs.declared.graph.Step.{Step}
use Rattle.tac_live.specs.Rows.{in_rows}
use Rattle.tac_live.specs.Sets.{set_before, with_written, before_from, IsSet}
use Rattle.reg_alloc.specs.Homes.{IsRightSet, IsBlockRight}
use Rattle.reg_alloc.proofs.Places.{unwritten-set, places-more, place-holds, place-fails, block-ends, ok-along}
use Rattle.reg_alloc.proofs.check.is_right_block.Goals as goal

pub returns-then-not-branch : goal.returns-then-not-branch
returns-then-not-branch c =
    let i = c.loop-at.at - 1 in
    let e : c.loop-at.at ≡ i + 1 = omega arith in
    let block = c.args.block.now in
    let s = c.index-steps-at.result in (
      λ f. absurd (false≢true f),
      λ r. absurd (place-fails c.args.homes.now c.args.rows.now block i c.loop-at.at s c.loop-at.live c.mark_written.new.self c.as_slice.result.now c.in_ok-is_right_set.field-0
          e (omega arith) (ap (λ v. get_or v i s) (sym c.as_slice-steps.ensures) ∙ sym c.index-steps-at.is) (c.mark_written.ensures ∙ ap (λ (v : Step). with_written v.write c.loop-at.live) (sym c.index-steps-at.is)) c.as_slice.ensures
          c.loop-at.invariant.1 c.in_ok-is_right_set.ensures c.if-not-branch.true r),
    )

pub loop-at-preserved : goal.loop-at-preserved
loop-at-preserved c =
    let i = c.loop-at.at - 1 in
    let e : c.loop-at.at ≡ i + 1 = omega arith in
    let block = c.args.block.now in
    let homes = c.args.homes.now in
    let rows = c.args.rows.now in
    let s = c.index-steps-at.result in
    let inside : i < length block.steps = omega arith in
    let it : get_or block.steps i s ≡ s = ap (λ v. get_or v i s) (sym c.as_slice-steps.ensures) ∙ sym c.index-steps-at.is in
    let same : c.index-steps-at-in-loop-at.result ≡ s = c.index-steps-at-in-loop-at.is ∙ (get_or_default c.as_slice-steps.result.now i c.index-steps-at-in-loop-at.result s (subst (λ v. i < length v) (sym c.as_slice-steps.ensures) inside) ∙ sym c.index-steps-at.is) in (
      omega arith,
      unwritten-set rows block i (length homes) s c.loop-at.live c.mark_written.new.self c.step_back.new.self inside it (c.mark_written.ensures ∙ ap (λ (v : Step). with_written v.write c.loop-at.live) (sym c.index-steps-at.is))
          (c.step_back.ensures ∙ ap (λ w. set_before w c.mark_written.new.self) same)
          (subst (λ m. IsSet c.loop-at.live (length homes) (λ t. before_from block m (λ n. in_rows rows n t) t)) e c.loop-at.invariant.1),
      places-more homes rows block c.loop-at.at i e
          (place-holds homes rows block i c.loop-at.at s c.loop-at.live c.mark_written.new.self c.as_slice.result.now c.in_ok-is_right_set.field-0
          e inside it (c.mark_written.ensures ∙ ap (λ (v : Step). with_written v.write c.loop-at.live) (sym c.index-steps-at.is)) c.as_slice.ensures c.loop-at.invariant.1 c.in_ok-is_right_set.ensures c.if-not-branch.false)
          c.loop-at.invariant.2,
    )

pub returns : goal.returns
returns c =
    ok-along (λ b. (b ≡ true) ↔ IsRightSet c.args.homes.now c.as_slice-2.result.now) (λ b. (b ≡ true) ↔ IsBlockRight c.args.homes.now c.args.rows.now c.args.block.now) c.is_right_set-2.result
    (λ b answer. block-ends c.args.homes.now c.args.rows.now c.args.block.now c.loop-at.at c.loop-at.live c.as_slice-2.result.now (omega (arith, c.loop-at-test.false)) c.as_slice-2.ensures
    c.loop-at.invariant.1 c.loop-at.invariant.2 b answer)
    c.is_right_set-2.ensures
