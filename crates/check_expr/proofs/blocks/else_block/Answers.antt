use Rattle.std.proofs.Common.{ℕ, List, [], ◌∷◌, length, Some, refl, sym, ap, ◌∙◌}
use Rattle.tl_base.specs.declared.ids.TermId.{TermId}
use Rattle.tl_base.specs.declared.machine.Step.TheVariants.{Enter}
use Rattle.terra_term.specs.declared.typed.TypedStatement.TheVariants as ts
use Rattle.check_model.specs.declared.job.BodyJob.TheVariants as jobs
use Rattle.check_model.specs.Plans.{BodyPlan, states}
use Rattle.check_model.specs.Expressions as expressions
use Rattle.check_model.specs.Typing.{cut_to}
use Rattle.check_expr.specs.declared.frame.BodyFrame.TheVariants as frames
use Rattle.check_expr.specs.declared.frame.BlockThen.TheVariants as of_block
use Rattle.check_expr.specs.Frames as waiting
use Rattle.check_expr.proofs.Doing.{moved, enters}
use Rattle.check_expr.proofs.Keeping.{kept_from}
use Rattle.tl_base.proofs.Results.{carried, on-ok}
use Rattle.check_expr.proofs.blocks.else_block.Goals as goal

pub returns-in_ok-push-in-Some-clause-means : goal.returns-in_ok-push-in-Some-clause-means
returns-in_ok-push-in-Some-clause-means c = λ left.
    let a = c.args in
    let t = c.in-Some.statement in
    let rest = c.take.new.self in
    let fs = a.frames.now.items in
    let fs2 = c.push.new.self.items in
    let w = a.typing.now in
    let n = c.count-count.result in
    let none = c.new-others.result in
    let job = jobs.Statement t a.site in
    let behind = of_block.Else n a.test a.ids a.at in
    let plan : ℕ → List TermId → List TermId → BodyPlan = λ count before ss.
    expressions.statements ss a.site before (λ all last. waiting.block_then (of_block.Else count a.test a.ids a.at) all
    last) in
    moved fs fs2 (plan (length w.variables) [] a.statements) (plan n none (t ∷ rest)) w w w left left (Enter job)
    (ap (λ (count : ℕ). plan count [] a.statements) (sym c.count-count.ensures)
    ∙ ap (λ (before : List TermId). plan n before a.statements) (sym c.new-others.ensures) ∙ ap (plan n none)
    c.in-Some.ensures) refl
    (enters fs fs2 (frames.Block (record { rest = rest; ids = none; then = behind; site = a.site })) job w left
    c.in_ok-push-in-Some.ensures.items)

pub returns-in_ok-list-in-None-clause-means : goal.returns-in_ok-list-in-None-clause-means
returns-in_ok-list-in-None-clause-means c = carried _ _ c.states.result c.states.ensures.means (λ step g left.
    let a = c.args in
    let fs = a.frames.now.items in
    let w = a.typing.now in
    let n = c.count-count.result in
    let none = c.new-others.result in
    let first = c.in_ok-first-in-None in
    let list = c.in_ok-list-in-None in
    let w2 = c.states.new.typing in
    let plan : ℕ → List TermId → List TermId → BodyPlan = λ count before ss.
    expressions.statements ss a.site before (λ all last. waiting.block_then (of_block.Else count a.test a.ids a.at) all
    last) in
    let form : List TermId → List TermId → BodyPlan = λ before all. states a.at (ts.If a.test.id before (Some all))
    a.site.result in
    moved fs fs (plan (length w.variables) [] a.statements) (plan n none []) w w w2 left left step
    (ap (λ (count : ℕ). plan count [] a.statements) (sym c.count-count.ensures)
    ∙ ap (λ (before : List TermId). plan n before a.statements) (sym c.new-others.ensures) ∙ ap (plan n none)
    c.in-None.ensures) refl
    (moved fs fs (form a.ids none) (form first.first list.list) (cut_to w n) c.leave.new.self w2 left left step
    (ap (λ (before : List TermId). form before none) (sym first.ensures) ∙ ap (form first.first) (sym list.ensures))
    (sym c.leave.ensures)
    (g left fs)))

pub returns-in_ok-list-in-None-clause-kept : goal.returns-in_ok-list-in-None-clause-kept
returns-in_ok-list-in-None-clause-kept c = on-ok c.states.result c.states.ensures.kept (λ g.
    kept_from (cut_to c.args.typing.now c.count-count.result) c.leave.new.self c.states.new.typing c.leave.ensures
    g)
