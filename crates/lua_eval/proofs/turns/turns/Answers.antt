use Rattle.std.proofs.Common.{arith, ℕ, ◌-◌, ◌≤◌, ◌∙◌, sym, ap}
use Rattle.tl_base.specs.Layer.{state}
use Rattle.tl_base.specs.Plan.{run}
use Rattle.tl_tree.specs.Arena.{items_of}
use Rattle.lua_table.proofs.Keeping.{keeps_then}
use Rattle.lua_eval.specs.Turns.{counted_plan, turned_plan}
use Rattle.lua_eval.specs.declared.turns.Turned.{Turned}
use Rattle.lua_eval.proofs.Below.{jobs_of}
use Rattle.lua_eval.proofs.Counted.{turn_paid}
use Rattle.lua_eval.proofs.turns.turns.Goals as goal

pub turns-preserved : goal.turns-preserved
turns-preserved c =
    let a = c.args in
    let l = c.turns in
    let items = items_of a.tree.now in
    let scope = a.scope.now in
    let t = c.do_turn.new.heap in
    let mid = c.do_turn.new.budget in
    let next = c.do_turn.new.at in
    let enough : 1 ≤ mid = omega (arith, c.left-units.ensures, c.if-units-eq0.false) in
    record {
      passes = λ out later.
          l.invariant.passes out later
          ∙ c.in_ok-turned.ensures.passes out later
          ∙ ap (λ (x : Turned). run (jobs_of items) (turned_plan x next a.node scope a.limit a.by out) (state t mid) later)
          (c.is_before.ensures c.if-not-is_before.false)
          ∙ turn_paid items a.node a.block scope next a.limit a.by out t mid c.requires.counted enough later
          ∙ ap (λ (u : ℕ). run (jobs_of items) (counted_plan items a.block a.node scope next a.limit a.by out) (state t u) later)
          (sym (c.spend.ensures ∙ ap (λ (u : ℕ). u - 1) c.left-units.ensures));
      kept = keeps_then a.heap.now l.heap t l.invariant.kept c.in_ok-turned.ensures.kept;
    }

pub returns-then-not-is_before-clause-passes : goal.returns-then-not-is_before-clause-passes
returns-then-not-is_before-clause-passes c = λ out later. c.turns.invariant.passes out later ∙ c.in_ok-turned.ensures.passes out later

pub returns-then-not-is_before-clause-kept : goal.returns-then-not-is_before-clause-kept
returns-then-not-is_before-clause-kept c =
    keeps_then c.args.heap.now c.turns.heap c.do_turn.new.heap c.turns.invariant.kept c.in_ok-turned.ensures.kept

pub returns-then-units-eq0-clause-passes : goal.returns-then-units-eq0-clause-passes
returns-then-units-eq0-clause-passes c = λ out later. c.turns.invariant.passes out later ∙ c.in_ok-turned.ensures.passes out later

pub returns-then-units-eq0-clause-kept : goal.returns-then-units-eq0-clause-kept
returns-then-units-eq0-clause-kept c =
    keeps_then c.args.heap.now c.turns.heap c.do_turn.new.heap c.turns.invariant.kept c.in_ok-turned.ensures.kept

pub returns-clause-passes : goal.returns-clause-passes
returns-clause-passes c = λ out later. c.turns.invariant.passes out later ∙ c.in_ok-last.ensures.passes out later

pub returns-clause-kept : goal.returns-clause-kept
returns-clause-kept c =
    keeps_then c.args.heap.now c.turns.heap c.do_turn-2.new.heap c.turns.invariant.kept c.in_ok-last.ensures.kept
