use Rattle.std.proofs.Common.{◌≡◌, refl, sym, ap, ◌∙◌, List, [], ◌∷◌, Option, Some, None}
use Rattle.tl_base.specs.declared.ids.EnvId.{EnvId}
use Rattle.tl_base.specs.declared.ids.NodeId.{NodeId}
use Rattle.tl_base.specs.declared.ids.TermId.{TermId}
use Rattle.tl_base.specs.declared.machine.Step.TheVariants.{Enter, Stop}
use Rattle.tl_tree.specs.Arena.{items_of}
use Rattle.tl_tree.specs.declared.node.TerraStatement.{TerraStatement}
use Rattle.tl_tree.specs.declared.node.TerraStatement.TheVariants as tree
use Rattle.terra_term.specs.declared.term.Statement.TheVariants as s
use Rattle.spec_model.specs.declared.job.Job.TheVariants as jobs
use Rattle.spec_model.specs.declared.question.SpecQuestion.TheVariants as questions
use Rattle.spec_model.specs.declared.wanted.Wanted.{Wanted}
use Rattle.spec_model.specs.Nodes.{escaped_at, or_first}
use Rattle.spec_model.specs.Plans.{SpecPlan, terms_of, join, eval}
use Rattle.spec_model.specs.Statements.{statement_of, spliced, joined, if_plan, var_plan}
use Rattle.spec_machine.specs.declared.frame.BlockThen.TheVariants as of_block
use Rattle.spec_machine.specs.declared.frame.TermsThen.TheVariants as of_terms
use Rattle.spec_machine.specs.declared.frame.TermFrame.TheVariants as of_term
use Rattle.spec_machine.specs.declared.frame.ValueFrame.TheVariants as of_value
use Rattle.spec_machine.specs.declared.frame.VarFrame.{VarFrame}
use Rattle.spec_machine.specs.Frames.{terms_plan, wanted_from}
use Rattle.spec_machine.proofs.Doing.{moved}
use Rattle.tl_base.proofs.Results.{carried}
use Rattle.spec_machine.proofs.Entering.{does_as}
use Rattle.spec_machine.proofs.Pushing.{term_enters, asks_value, asks_emitted}
use Rattle.spec_machine.proofs.statements.specialise.Goals as goal

pub returns-in-Assign-clause-means : goal.returns-in-Assign-clause-means
returns-in-Assign-clause-means c =
    let a = c.args in
    let m = c.in-Assign in
    let items = items_of a.tree.now in
    let w = a.world.now in
    let left = a.budget.now in
    let ns = c.as_slice-in-Assign.result.now in
    let values = c.as_slice.result in
    let none = c.new-none.result in
    carried _ _ c.terms.result c.terms.ensures.means (λ step g.
    moved items a.frames.now.items c.terms.new.frames.items (statement_of items a.statement.now a.node a.place a.env)
    (terms_plan items ns a.env none (of_terms.Targets values a.place)) w w c.terms.new.world left left step
    (ap (λ (x : TerraStatement). statement_of items x a.node a.place a.env) m.is
    ∙ ap (λ (es : List NodeId). terms_of m.targets a.env [] (λ ts. terms_of es a.env [] (λ us. join a.place (s.Assign ts us)))) (sym c.as_slice.ensures)
    ∙ ap (λ (l : List NodeId). terms_of l a.env [] (λ ts. terms_of values.now a.env [] (λ us. join a.place (s.Assign ts us)))) (sym c.as_slice-in-Assign.ensures)
    ∙ ap (λ (before : List TermId). terms_of ns a.env before (λ ts. terms_of values.now a.env [] (λ us. join a.place (s.Assign ts us)))) (sym c.new-none.ensures))
    refl (g items left))

pub returns-in_ok-push-in-Call-clause-means : goal.returns-in_ok-push-in-Call-clause-means
returns-in_ok-push-in-Call-clause-means c =
    let a = c.args in
    let m = c.in-Call in
    let items = items_of a.tree.now in
    let w = a.world.now in
    let left = a.budget.now in
    let call = m.call in
    moved items a.frames.now.items c.push.new.self.items (statement_of items a.statement.now a.node a.place a.env)
    (statement_of items (tree.Call call) a.node a.place a.env) w w w left left (Enter (jobs.Expression call a.env))
    (ap (λ (x : TerraStatement). statement_of items x a.node a.place a.env) m.is) refl
    (term_enters items a.frames.now.items c.push.new.self.items (of_term.Perform a.place) call a.env w left
    c.in_ok-push-in-Call.ensures.items)

pub returns-in_ok-push-in-While-clause-means : goal.returns-in_ok-push-in-While-clause-means
returns-in_ok-push-in-While-clause-means c =
    let a = c.args in
    let m = c.in-While in
    let items = items_of a.tree.now in
    let w = a.world.now in
    let left = a.budget.now in
    let condition = m.condition in
    let b = m.block in
    moved items a.frames.now.items c.push-in-While.new.self.items (statement_of items a.statement.now a.node a.place a.env)
    (statement_of items (tree.While condition b) a.node a.place a.env) w w w left left (Enter (jobs.Expression condition a.env))
    (ap (λ (x : TerraStatement). statement_of items x a.node a.place a.env) m.is) refl
    (term_enters items a.frames.now.items c.push-in-While.new.self.items (of_term.While b a.place a.env) condition a.env w left
    c.in_ok-push-in-While.ensures.items)

pub returns-in_ok-push-in-Splice-clause-means : goal.returns-in_ok-push-in-Splice-clause-means
returns-in_ok-push-in-Splice-clause-means c =
    let a = c.args in
    let m = c.in-Splice in
    let items = items_of a.tree.now in
    let w = a.world.now in
    let left = a.budget.now in
    let code = c.escape-code.result in
    let value = of_value.Splice a.place in
    moved items a.frames.now.items c.push-in-Splice.new.self.items (statement_of items a.statement.now a.node a.place a.env)
    (eval code a.env (λ v. spliced v a.place [] joined)) w w w left left (Stop (questions.Eval code a.env))
    (ap (λ (x : TerraStatement). statement_of items x a.node a.place a.env) m.is
    ∙ ap (λ (n : NodeId). eval n a.env (λ v. spliced v a.place [] joined)) (sym c.escape-code.ensures)) refl
    (asks_value items a.frames.now.items c.push-in-Splice.new.self.items value code a.env w left
    c.in_ok-push-in-Splice.ensures.items)

pub returns-in_ok-push-in-Escape-clause-means : goal.returns-in_ok-push-in-Escape-clause-means
returns-in_ok-push-in-Escape-clause-means c =
    let a = c.args in
    let m = c.in-Escape in
    let items = items_of a.tree.now in
    let w = a.world.now in
    let left = a.budget.now in
    let b = m.block in
    moved items a.frames.now.items c.push-in-Escape.new.self.items (statement_of items a.statement.now a.node a.place a.env)
    (statement_of items (tree.Escape b) a.node a.place a.env) w w w left left (Stop (questions.Emitted b a.env))
    (ap (λ (x : TerraStatement). statement_of items x a.node a.place a.env) m.is) refl
    (asks_emitted items a.frames.now.items c.push-in-Escape.new.self.items a.place b a.env w left
    c.in_ok-push-in-Escape.ensures.items)

pub returns-in-Do-clause-means : goal.returns-in-Do-clause-means
returns-in-Do-clause-means c =
    let a = c.args in
    let m = c.in-Do in
    let items = items_of a.tree.now in
    let w = a.world.now in
    carried _ _ c.entered.result c.entered.ensures.means (λ step g.
    moved items a.frames.now.items c.entered.new.frames.items (statement_of items a.statement.now a.node a.place a.env)
    (statement_of items (tree.Do m.block) a.node a.place a.env) w w c.entered.new.world a.budget.now c.entered.new.budget step
    (ap (λ (x : TerraStatement). statement_of items x a.node a.place a.env) m.is) refl g)

pub returns-in-Repeat-clause-means : goal.returns-in-Repeat-clause-means
returns-in-Repeat-clause-means c =
    let a = c.args in
    let m = c.in-Repeat in
    let items = items_of a.tree.now in
    let w = a.world.now in
    carried _ _ c.entered-in-Repeat.result c.entered-in-Repeat.ensures.means (λ step g.
    moved items a.frames.now.items c.entered-in-Repeat.new.frames.items (statement_of items a.statement.now a.node a.place a.env)
    (statement_of items (tree.Repeat m.block m.condition) a.node a.place a.env) w w c.entered-in-Repeat.new.world
    a.budget.now c.entered-in-Repeat.new.budget step
    (ap (λ (x : TerraStatement). statement_of items x a.node a.place a.env) m.is) refl g)

pub returns-in-If-clause-means : goal.returns-in-If-clause-means
returns-in-If-clause-means c =
    let a = c.args in
    let m = c.in-If in
    let items = items_of a.tree.now in
    let w = a.world.now in
    let left = a.budget.now in
    let ns = c.as_slice-in-If.result.now in
    carried _ _ c.if_statement.result c.if_statement.ensures.means (λ step g.
    moved items a.frames.now.items c.if_statement.new.frames.items (statement_of items a.statement.now a.node a.place a.env)
    (if_plan items ns m.otherwise a.place a.env) w w w left left step
    (ap (λ (x : TerraStatement). statement_of items x a.node a.place a.env) m.is
    ∙ ap (λ (l : List NodeId). if_plan items l m.otherwise a.place a.env) (sym c.as_slice-in-If.ensures)) refl (g left))

pub returns-in-For-clause-means : goal.returns-in-For-clause-means
returns-in-For-clause-means c =
    let a = c.args in
    let m = c.in-For in
    let items = items_of a.tree.now in
    let w = a.world.now in
    let left = a.budget.now in
    carried _ _ c.for_loop.result c.for_loop.ensures.means (λ step g.
    moved items a.frames.now.items c.for_loop.new.frames.items (statement_of items a.statement.now a.node a.place a.env)
    (statement_of items (tree.For m.name m.first m.limit m.step m.block) a.node a.place a.env) w w w left left step
    (ap (λ (x : TerraStatement). statement_of items x a.node a.place a.env) m.is) refl (g left))

pub returns-in-Var-clause-means : goal.returns-in-Var-clause-means
returns-in-Var-clause-means c =
    let a = c.args in
    let m = c.in-Var in
    let items = items_of a.tree.now in
    let w = a.world.now in
    let names = c.as_slice-in-Var.result in
    let values = c.as_slice-in-Var-2.result in
    let none = c.new.result in
    let f : VarFrame = record { rest = names; values = values; place = a.place; env = a.env; wanted = none } in
    carried _ _ c.variables.result c.variables.ensures.means (λ step g.
    moved items a.frames.now.items c.variables.new.frames.items (statement_of items a.statement.now a.node a.place a.env)
    (wanted_from items f names.now none) w w c.variables.new.world a.budget.now c.variables.new.budget step
    (ap (λ (x : TerraStatement). statement_of items x a.node a.place a.env) m.is
    ∙ ap (λ (ns : List NodeId). var_plan items ns m.values a.place a.env) (sym c.as_slice-in-Var.ensures)
    ∙ ap (λ (es : List NodeId). var_plan items names.now es a.place a.env) (sym c.as_slice-in-Var-2.ensures)
    ∙ ap (λ (ws : List Wanted). wanted_from items f names.now ws) (sym c.new.ensures)) refl g)

pub returns-in-Return-clause-means : goal.returns-in-Return-clause-means
returns-in-Return-clause-means c =
    let a = c.args in
    let m = c.in-Return in
    let items = items_of a.tree.now in
    let w = a.world.now in
    let left = a.budget.now in
    let ns = c.as_slice-in-Return.result.now in
    let none = c.new-none-in-Return.result in
    carried _ _ c.terms-in-Return.result c.terms-in-Return.ensures.means (λ step g.
    moved items a.frames.now.items c.terms-in-Return.new.frames.items (statement_of items a.statement.now a.node a.place a.env)
    (terms_plan items ns a.env none (of_terms.Return a.place)) w w c.terms-in-Return.new.world left left step
    (ap (λ (x : TerraStatement). statement_of items x a.node a.place a.env) m.is
    ∙ ap (λ (l : List NodeId). terms_of l a.env [] (λ ts. join a.place (s.Return ts))) (sym c.as_slice-in-Return.ensures)
    ∙ ap (λ (before : List TermId). terms_of ns a.env before (λ ts. join a.place (s.Return ts))) (sym c.new-none-in-Return.ensures))
    refl (g items left))

pub returns-in-Break-clause-means : goal.returns-in-Break-clause-means
returns-in-Break-clause-means c =
    let a = c.args in
    let m = c.in-Break in
    let items = items_of a.tree.now in
    let left = a.budget.now in
    carried _ _ c.join.result c.join.ensures.means (λ step g.
    does_as items a.frames.now.items (statement_of items a.statement.now a.node a.place a.env) (join a.place s.Break)
    a.world.now c.join.new.world left left step
    (ap (λ (x : TerraStatement). statement_of items x a.node a.place a.env) m.is) (g items left))
