use Rattle.std.proofs.Common.{◌≡◌, ◌+◌, ◌<◌, ◌||◌, ℕ, [], length, sym, ap, ◌∙◌, subst, refl, arith}
use Rattle.std.proofs.lemmas.List.{get_or_default}
use Rattle.tac_form.specs.Live.{has}
use Rattle.tac_live.specs.Flows.{group_at, is_marked, AreBelow}
use Rattle.tac_live.specs.Reach.{search, all_reached}
use Rattle.tac_live.proofs.Grouping.{below-next, below-all, not-marked, all-marked-at}
use Rattle.tac_live.proofs.Reaching.{IsFurther, search-none, all-further, begun-search, search-turn, search-ends}
use Rattle.tac_live.proofs.reach.live_blocks.Goals as goal

pub loop-i-init : goal.loop-i-init
loop-i-init c =
    let count = length c.args.before.now in
    let turn = c.args.turn in
    let stops = c.args.stops.now.items in
    let start = search c.args.marks.now.items [] in
    let made : search c.reach_all.new.marks.items c.reach_all.new.found.items ≡ all_reached stops c.args.exposed.now turn start =
    c.in_ok-reach_all.ensures ∙ (ap (λ v. all_reached v c.args.exposed.now turn (search c.args.marks.now.items c.new-found.result.items)) c.deref.ensures.value
    ∙ ap (λ v. all_reached stops c.args.exposed.now turn (search c.args.marks.now.items v)) c.new-found.ensures.items) in
    let f = subst (λ v. IsFurther count turn stops c.args.exposed.now start v) (sym made)
    (all-further count turn stops c.args.exposed.now start (search-none c.args.marks.now.items count turn c.requires.marks)) in (
      omega arith,
      f.is,
      subst (λ v. AreBelow v count (turn + 1)) (sym c.mark_all.ensures) (below-all c.args.writers.now stops count turn (below-next stops count turn c.requires.stops)),
      λ graph t flow.
          begun-search graph count turn t stops c.args.exposed.now c.args.writers.now c.args.before.now start
          (search c.reach_all.new.marks.items c.reach_all.new.found.items) flow refl refl (λ b. not-marked stops count turn c.requires.stops b) f,
    )

pub loop-i-preserved : goal.loop-i-preserved
loop-i-preserved c =
    let count = length c.args.before.now in
    let turn = c.args.turn in
    let l = c.loop-i in
    let stops = c.mark_all.new.marks.items in
    let old = search l.marks.items l.found.items in
    let b = c.index-b.result.now in
    let inside : l.i < length l.found.items = omega (arith, c.len.ensures, c.loop-i-test.true) in
    let made : search c.reach_before.new.marks.items c.reach_before.new.found.items ≡ all_reached stops (group_at c.args.before.now b) turn old =
    c.in_ok-reach_before.ensures ∙ ap (λ v. all_reached v (group_at c.args.before.now b) turn old) c.deref-in-loop-i.ensures.value in
    let f = subst (λ v. IsFurther count turn stops (group_at c.args.before.now b) old v) (sym made)
    (all-further count turn stops (group_at c.args.before.now b) old l.invariant.1) in
    let longer = f.longer in
    let stop : (k : ℕ) → k < count → is_marked stops k turn ≡ has c.args.writers.now k = λ k m.
    ap (λ v. is_marked v k turn) c.mark_all.ensures ∙ (all-marked-at c.args.writers.now c.args.stops.now.items turn k (omega (arith, c.requires.stops.long))
    ∙ ap (λ v. v || has c.args.writers.now k) (not-marked c.args.stops.now.items count turn c.requires.stops k)) in (
      omega arith,
      f.is,
      l.invariant.2,
      λ graph t flow.
          search-turn graph count turn t l.i b stops c.args.exposed.now c.args.writers.now c.args.before.now old
          (search c.reach_before.new.marks.items c.reach_before.new.found.items) flow refl inside
          (sym (c.index-b.ensures ∙ get_or_default l.found.items l.i b 0 inside)) stop l.invariant.1 f (l.invariant.3 graph t flow),
    )

pub returns-clause-live : goal.returns-clause-live
returns-clause-live c =
    λ graph t flow. search-ends graph t c.loop-i.i c.loop-i.found.items (omega (arith, c.len.ensures, c.loop-i-test.false)) (c.loop-i.invariant.3 graph t flow)
