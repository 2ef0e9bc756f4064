use Rattle.std.proofs.Common.{◌≡◌, List, ap, ◌∙◌, sym}
use Rattle.tl_base.specs.declared.ids.NodeId.{NodeId}
use Rattle.tl_base.specs.Layer.{state}
use Rattle.tl_base.specs.Plan.{Do, run}
use Rattle.tl_tree.specs.Arena.{items_of}
use Rattle.lua_table.proofs.Keeping.{keeps_then}
use Rattle.lua_model.specs.declared.end.End.{End}
use Rattle.lua_model.specs.declared.job.Job.TheVariants as jobs
use Rattle.lua_model.specs.Plans.{LuaPlan, on_fell, statements}
use Rattle.lua_eval.specs.AtOnce.{Becomes}
use Rattle.lua_eval.specs.Running.{entered_plan}
use Rattle.lua_eval.proofs.Below.{jobs_of}
use Rattle.lua_eval.proofs.Listing.{none_is, none_of}
use Rattle.lua_eval.proofs.Reached.{entered_whole}
use Rattle.lua_eval.proofs.running.run.Goals as goal

pub returns-in-None-clause-passes : goal.returns-in-None-clause-passes
returns-in-None-clause-passes c = λ out go later.
    c.ifs.invariant.passes out go later ∙ c.in_ok-left.ensures.passes out go later

pub returns-in-None-clause-kept : goal.returns-in-None-clause-kept
returns-in-None-clause-kept c =
    keeps_then c.args.heap.now c.ifs.heap c.flat.new.heap c.ifs.invariant.kept c.in_ok-left.ensures.kept

pub returns-in-None-entered-clause-passes : goal.returns-in-None-entered-clause-passes
returns-in-None-entered-clause-passes c = λ out go later.
    let r = c.in_ok-entered-in-Some in
    let heap : c.chosen.new.heap ≡ c.flat.new.heap = rw c.in-None-entered.is at r.ensures.heap in
    let left : c.chosen.new.budget ≡ c.flat.new.budget = rw c.in-None-entered.is at r.ensures.budget in
    rw heap (rw left (c.ifs.invariant.passes out go later ∙ c.in_ok-left.ensures.passes out go later))

pub returns-in-None-entered-clause-kept : goal.returns-in-None-entered-clause-kept
returns-in-None-entered-clause-kept c =
    keeps_then c.args.heap.now c.flat.new.heap c.chosen.new.heap
    (keeps_then c.args.heap.now c.ifs.heap c.flat.new.heap c.ifs.invariant.kept c.in_ok-left.ensures.kept)
    c.in_ok-entered-in-Some.ensures.kept

pub returns-then-not-is_empty-clause-passes : goal.returns-then-not-is_empty-clause-passes
returns-then-not-is_empty-clause-passes c = λ out go later.
    let items = items_of c.args.tree.now in
    let scope = c.args.scope.now in
    let n = c.in-Some.first.now in
    let behind = c.in-Some.behind.now in
    let s = c.flat.new.heap in
    let left = c.flat.new.budget in
    let inside = c.in-Some-entered.inside in
    let k : End → LuaPlan = λ r. on_fell r out go (λ all. statements behind scope all go) in
    let h : (k : End → LuaPlan) → Becomes items (Do (jobs.Statement n scope) k) s left (entered_plan inside scope k)
    c.chosen.new.heap c.chosen.new.budget =
    rw c.in-Some-entered.is at c.in_ok-entered-in-Some.ensures.passes in
    c.ifs.invariant.passes out go later
    ∙ c.in_ok-left.ensures.passes out go later
    ∙ ap (λ (ns : List NodeId). run (jobs_of items) (statements ns scope out go) (state s left) later) c.in-Some.ensures.cases.0
    ∙ h k later

pub returns-then-not-is_empty-clause-kept : goal.returns-then-not-is_empty-clause-kept
returns-then-not-is_empty-clause-kept c =
    keeps_then c.args.heap.now c.flat.new.heap c.chosen.new.heap
    (keeps_then c.args.heap.now c.ifs.heap c.flat.new.heap c.ifs.invariant.kept c.in_ok-left.ensures.kept)
    c.in_ok-entered-in-Some.ensures.kept

pub ifs-preserved : goal.ifs-preserved
ifs-preserved c =
    let a = c.args in
    let l = c.ifs in
    let items = items_of a.tree.now in
    let scope = a.scope.now in
    let n = c.in-Some.first.now in
    let behind = c.in-Some.behind.now in
    let s = c.flat.new.heap in
    let left = c.flat.new.budget in
    let t = c.chosen.new.heap in
    let mid = c.chosen.new.budget in
    let inside = c.in-Some-entered.inside in
    let h : (k : End → LuaPlan) → Becomes items (Do (jobs.Statement n scope) k) s left (entered_plan inside scope k) t mid =
    rw c.in-Some-entered.is at c.in_ok-entered-in-Some.ensures.passes in
    record {
      passes = λ out go later.
          l.invariant.passes out go later
          ∙ c.in_ok-left.ensures.passes out go later
          ∙ ap (λ (ns : List NodeId). run (jobs_of items) (statements ns scope out go) (state s left) later) c.in-Some.ensures.cases.0
          ∙ entered_whole items n behind scope out go s t left mid inside
          (none_is inside.list.now (none_of inside.list.now (sym c.is_empty.ensures ∙ c.if-not-is_empty.false))) h later;
      kept = keeps_then a.heap.now s t (keeps_then a.heap.now l.heap s l.invariant.kept c.in_ok-left.ensures.kept)
          c.in_ok-entered-in-Some.ensures.kept;
    }
