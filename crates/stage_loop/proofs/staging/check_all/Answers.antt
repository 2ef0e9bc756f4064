use Rattle.std.proofs.Common.{List, Some, arith, sym, ap, ◌∙◌}
use Rattle.std.specs.Prelude.{nat_lt}
use Rattle.std.proofs.lemmas.Bool.{lt-ltb, le-ltb}
use Rattle.tl_base.specs.Layer.{state}
use Rattle.stage_form.specs.Stage.{Finished, Exhausted}
use Rattle.tl_tree.specs.Arena.{items_of}
use Rattle.lua_value.specs.declared.value.Value.{Value}
use Rattle.stage_check.specs.declared.jobs.JobEnd.TheVariants as ends
use Rattle.stage_model.specs.Staging.{checked_with}
use Rattle.stage_model.proofs.Checking.{checks_done, checks_passed, checks_checked, checks_spent}
use Rattle.stage_library.proofs.Keeping.{keeps_itself, keeps_then}
use Rattle.stage_loop.proofs.staging.check_all.Goals as goal

pub loop-number-init : goal.loop-number-init
loop-number-init c = record {
  leads = λ out h. rw (← c.requires.none) h;
  sound = c.requires.sound;
  kept = keeps_itself c.args.staging.now.typing.stage;
  paid = omega arith;
}

pub run-requires : goal.run-requires
run-requires c = (c.loop-number.invariant.sound, tt)

pub returns-then-number-count-clause-means : goal.returns-then-number-count-clause-means
returns-then-number-count-clause-means c =
    let l = c.loop-number in
    let items = items_of c.args.stages.now.inner.inner.tree.now in
    let past = ap (nat_lt l.number) (sym c.count.ensures) ∙ le-ltb l.number c.count.result c.if-number-count.true in
    let there = state l.staging l.budget in
    let all = l.invariant.leads _ (checks_done items l.number l.lines.items there past) in (
      all.n,
      all.at_n ∙ ap (λ (vs : List Value). Some (Finished (checked_with (ends.Values vs) l.lines.items) there)) (sym c.new.ensures),
    )

pub loop-number-preserved-then-is_undefined : goal.loop-number-preserved-then-is_undefined
loop-number-preserved-then-is_undefined c =
    let l = c.loop-number in
    let items = items_of c.args.stages.now.inner.inner.tree.now in
    let within = ap (nat_lt l.number) (sym c.count.ensures) ∙ lt-ltb l.number c.count.result c.if-number-count.false in
    let undefined = sym c.is_undefined.ensures ∙ c.if-is_undefined.true in
    record {
      leads = λ out h.
          l.invariant.leads out (checks_passed items l.number l.lines.items (state l.staging l.budget) out within undefined h);
      sound = l.invariant.sound;
      kept = l.invariant.kept;
      paid = l.invariant.paid;
    }

pub returns-in-Spent-clause-means : goal.returns-in-Spent-clause-means
returns-in-Spent-clause-means c =
    let l = c.loop-number in
    let items = items_of c.args.stages.now.inner.inner.tree.now in
    let within = ap (nat_lt l.number) (sym c.count.ensures) ∙ lt-ltb l.number c.count.result c.if-number-count.false in
    let defined = sym c.is_undefined.ensures ∙ c.if-is_undefined.false in
    let ran = rw c.in-Spent.is at c.in_ok-run.ensures.means in
    let there = state c.run.new.world c.run.new.budget in
    let all =
    l.invariant.leads (Exhausted there)
    (checks_spent items l.number ran.0 l.lines.items (state l.staging l.budget) there within defined ran.1) in
    (all.n, all.at_n)

pub returns-in-Spent-clause-kept : goal.returns-in-Spent-clause-kept
returns-in-Spent-clause-kept c =
    let l = c.loop-number in
    keeps_then c.args.staging.now.typing.stage l.staging.typing.stage c.run.new.world.typing.stage l.invariant.kept
    c.in_ok-run.ensures.kept

pub loop-number-preserved : goal.loop-number-preserved
loop-number-preserved c =
    let l = c.loop-number in
    let left = rw c.in-Ends.is at c.in_ok-run.ensures.left in
    let items = items_of c.args.stages.now.inner.inner.tree.now in
    let within = ap (nat_lt l.number) (sym c.count.ensures) ∙ lt-ltb l.number c.count.result c.if-number-count.false in
    let defined = sym c.is_undefined.ensures ∙ c.if-is_undefined.false in
    let ran = rw c.in-Ends.is at c.in_ok-run.ensures.means in
    let there = state c.run.new.world c.run.new.budget in
    record {
      leads = λ out h.
          l.invariant.leads out
          (checks_checked items l.number ran.0 l.lines.items (state l.staging l.budget) there c.in-Ends.end out within defined ran.1
          (rw (← c.line_of.ensures) (rw (← c.in_ok-push-in-Ends.ensures.items) h)));
      sound = left.sound;
      kept = keeps_then c.args.staging.now.typing.stage l.staging.typing.stage c.run.new.world.typing.stage l.invariant.kept
          c.in_ok-run.ensures.kept;
      paid = omega (arith, c.in_ok-run.ensures.paid, l.invariant.paid);
    }
