use Rattle.std.proofs.Common.{sym, ap, ◌∙◌, subst, ℕ, get_or, arith}
use Rattle.std.proofs.lemmas.Grind.{common_steps}
use Rattle.tl_base.specs.declared.ids.TermId.{TermId}
use Rattle.terra_words.specs.Runs.{Value, value_at, word}
use Rattle.terra_meaning.specs.Meaning.{assigned, assigned_all}
use Rattle.terra_meaning.specs.Running.{Got}
use Rattle.terra_eval.specs.Trees.{expression_before, list_before}
use Rattle.terra_eval.specs.Views.{Ended}
use Rattle.terra_eval.proofs.Loops.{assign-all, assign-later, assign-stops, assigned-number}
use Rattle.terra_eval.proofs.assigning.assign_all.Goals as goal

pub loop-i-preserved : goal.loop-i-preserved
loop-i-preserved c =
    let store = c.args.call.now.store.now in
    let targets = c.args.targets.now in
    let places = c.args.places.now in
    let values = c.args.values.now in
    let i = c.loop-i.i in
    let s = c.loop-i.state in
    let none : TermId = record { 0 = 0 } in
    let e = expression_before store c.args.below (get_or targets i none) in
    let gave =
    sym (assigned-number store.types e (value_at places i) (value_at values i) s)
    ∙ ap (λ (n : ℕ). assigned store.types e (word n) (value_at values i) s) (sym c.number_at.ensures)
    ∙ ap (λ (v : Value). assigned store.types e (word c.number_at.result) v s) (sym c.value_or-v.ensures)
    ∙ c.in_ok-assign.ensures in
    assign-later store.types store c.args.below targets places values i none s _ c.loop-i-test.true c.loop-i.invariant (word 0) _ gave

pub returns : goal.returns
returns c =
    let store = c.args.call.now.store.now in
    assign-all store.types store c.args.below c.args.targets.now c.args.places.now c.args.values.now c.loop-i.i c.loop-i.state _ (omega arith) c.loop-i.invariant

pub returns-in_err-assign : goal.returns-in_err-assign
returns-in_err-assign c =
    let store = c.args.call.now.store.now in
    let targets = c.args.targets.now in
    let places = c.args.places.now in
    let values = c.args.values.now in
    let i = c.loop-i.i in
    let s = c.loop-i.state in
    let none : TermId = record { 0 = 0 } in
    let target = expression_before store c.args.below (get_or targets i none) in
    let e = c.in_err-assign.field-0.0 in
    let same =
    ap (λ (v : Value). assigned store.types target (word c.number_at.result) v s) c.value_or-v.ensures
    ∙ ap (λ (n : ℕ). assigned store.types target (word n) (value_at values i) s) c.number_at.ensures
    ∙ assigned-number store.types target (value_at places i) (value_at values i) s in
    let ended : Ended e c.assign.new.state (assigned store.types target (value_at places i) (value_at values i) s) =
    subst (λ (g : Got Value). Ended e c.assign.new.state g) same c.in_err-assign.ensures in
    let stops : Ended e c.assign.new.state (assigned_all store.types (list_before store c.args.below targets) places values c.args.state.now) =
    assign-stops store.types store c.args.below targets places values i none s _ c.loop-i-test.true c.loop-i.invariant e _ ended in
    grind (arith, common_steps, stops)
