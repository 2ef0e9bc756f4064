use Rattle.std.proofs.Common.{[], refl, sym, ap, ◌∙◌, ◌≤◌}
use Rattle.tl_base.specs.Plan.{shown, Stops, Lacks}
use Rattle.tl_base.specs.Layer.{state}
use Rattle.tl_base.proofs.Steps.{spent, asked, runs_on, popped, entered, not_entered}
use Rattle.tl_base.proofs.machine.drive.Goals as goal

pub returns-in-Spent-clause-turn : goal.returns-in-Spent-clause-turn
returns-in-Spent-clause-turn g c =
    ap (shown (g.M.Machine.rules c.args.machine.now).close) (c.loop.invariant.same [] ∙ spent (g.M.Machine.rules c.args.machine.now) c.loop.frames.items c.loop.step (state c.loop.world c.loop.budget) [] c.in-Spent.is)

pub returns-in-Stop-clause-turn : goal.returns-in-Stop-clause-turn
returns-in-Stop-clause-turn g c =
    ap (shown (g.M.Machine.rules c.args.machine.now).close) (c.loop.invariant.same [] ∙ asked (g.M.Machine.rules c.args.machine.now) c.loop.frames.items c.in-Stop.question c.loop.step (state c.loop.world c.loop.budget) c.in-Stop.is)

pub returns-in-Spent-clause-reads_no_more : goal.returns-in-Spent-clause-reads_no_more
returns-in-Spent-clause-reads_no_more g c = λ later.
    ap (shown (g.M.Machine.rules c.args.machine.now).close) (c.loop.invariant.same later ∙ spent (g.M.Machine.rules c.args.machine.now) c.loop.frames.items c.loop.step (state c.loop.world c.loop.budget) later c.in-Spent.is)

pub loop-preserved-in-Some : goal.loop-preserved-in-Some
loop-preserved-in-Some g c = record {
  same =
      runs_on (g.M.Machine.rules c.args.machine.now) c.args.frames.now.items c.loop.frames.items c.go_on.new.frames.items c.args.first c.loop.step c.in_ok-step-in-Some.step (state c.args.world.now c.args.budget.now) (state c.loop.world c.loop.budget) (state c.go_on.new.world c.go_on.new.budget) c.loop.invariant.same
      (popped (g.M.Machine.rules c.args.machine.now) c.loop.frames.items c.pop.new.self.items c.go_on.new.frames.items c.in-Some.frame c.in-Return.end c.loop.step c.in_ok-step-in-Some.step (state c.loop.world c.loop.budget) (state c.go_on.new.world c.go_on.new.budget) c.in-Return.is c.in-Some.ensures.items c.in_ok-step-in-Some.ensures.means);
  kept = g.met.M.Machine.keeps_on c.args.world.now c.loop.world c.go_on.new.world c.loop.invariant.kept c.in_ok-step-in-Some.ensures.kept;
}

pub returns-then-not-pay-clause-turn : goal.returns-then-not-pay-clause-turn
returns-then-not-pay-clause-turn g c =
    ap (shown (g.M.Machine.rules c.args.machine.now).close) (c.loop.invariant.same [] ∙ not_entered (g.M.Machine.rules c.args.machine.now) c.loop.frames.items c.in-Enter.job c.loop.step c.loop.world c.loop.budget [] c.in-Enter.is c.if-not-pay.ensures.short ∙ ap (λ n. Stops (Lacks (state c.loop.world n))) (sym c.if-not-pay.ensures.refused))

pub returns-then-not-pay-clause-reads_no_more : goal.returns-then-not-pay-clause-reads_no_more
returns-then-not-pay-clause-reads_no_more g c = λ later.
    ap (shown (g.M.Machine.rules c.args.machine.now).close) (c.loop.invariant.same later ∙ not_entered (g.M.Machine.rules c.args.machine.now) c.loop.frames.items c.in-Enter.job c.loop.step c.loop.world c.loop.budget later c.in-Enter.is c.if-not-pay.ensures.short ∙ ap (λ n. Stops (Lacks (state c.loop.world n))) (sym c.if-not-pay.ensures.refused))

pub loop-preserved : goal.loop-preserved
loop-preserved g c =
    let enough : 1 ≤ c.loop.budget = c.if-not-pay.ensures.enough.0 refl in
    record {
      same =
          runs_on (g.M.Machine.rules c.args.machine.now) c.args.frames.now.items c.loop.frames.items c.begin.new.frames.items c.args.first c.loop.step c.in_ok-step-in-Enter.step (state c.args.world.now c.args.budget.now) (state c.loop.world c.loop.budget) (state c.begin.new.world c.begin.new.budget) c.loop.invariant.same
          (entered (g.M.Machine.rules c.args.machine.now) c.loop.frames.items c.begin.new.frames.items c.in-Enter.job c.loop.step c.in_ok-step-in-Enter.step c.loop.world c.loop.budget (state c.begin.new.world c.begin.new.budget) c.in-Enter.is enough (rw c.if-not-pay.ensures.paid at c.in_ok-step-in-Enter.ensures.means));
      kept = g.met.M.Machine.keeps_on c.args.world.now c.loop.world c.begin.new.world c.loop.invariant.kept c.in_ok-step-in-Enter.ensures.kept;
    }
