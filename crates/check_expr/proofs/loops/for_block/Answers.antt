use Rattle.std.proofs.Common.{ℕ, ◌+◌, [], ◌∷◌, ◌++◌, length, sym, ap, ◌∙◌}
use Rattle.terra_term.specs.declared.lists.TypedName.{TypedName}
use Rattle.terra_term.specs.declared.typed.TypedStatement.TheVariants as ts
use Rattle.check_model.specs.declared.site.Site.{Site}
use Rattle.check_model.specs.Expressions as expressions
use Rattle.check_model.specs.Plans.{BodyPlan, states, leaving}
use Rattle.check_model.specs.Statements as models
use Rattle.check_model.specs.Typing.{with_variable}
use Rattle.check_expr.proofs.Declaring.{length_push}
use Rattle.check_expr.proofs.Doing.{moved}
use Rattle.check_expr.proofs.Keeping.{kept_from}
use Rattle.tl_base.proofs.Results.{carried, on-ok}
use Rattle.check_expr.proofs.loops.for_block.Goals as goal

pub returns-clause-means : goal.returns-clause-means
returns-clause-means c = carried _ _ c.block.result c.block.ensures.means (λ step g left.
    let a = c.args in
    let f = a.frame in
    let w = a.typing.now in
    let n = c.count-count.result in
    let v : TypedName = record { symbol = f.name.symbol; of = f.of } in
    let plan : Site → ℕ → ℕ → BodyPlan = λ site inner outer. expressions.statements f.body site []
    (λ stats result.
    leaving inner (leaving outer (states f.at (ts.For v f.ids stats) result))) in
    let size = length w.variables in
    moved a.frames.now.items c.block.new.frames.items (plan (models.in_loop f.site) (length (w.variables ++ v ∷ []))
    size)
    (plan c.in_loop.result (n + 1) n) (with_variable w v.symbol v.of) c.declare.new.self c.block.new.typing left left
    step
    (ap (λ (site : Site). plan site (length (w.variables ++ v ∷ [])) size) (sym c.in_loop.ensures)
    ∙ ap (λ (inner : ℕ). plan c.in_loop.result inner size) (length_push w.variables v)
    ∙ ap (λ (k : ℕ). plan c.in_loop.result (k + 1) k) (sym c.count-count.ensures))
    (sym c.in_ok-declare.ensures) (g left))

pub returns-clause-kept : goal.returns-clause-kept
returns-clause-kept c = on-ok c.block.result c.block.ensures.kept (λ g.
    let a = c.args in
    kept_from (with_variable a.typing.now a.frame.name.symbol a.frame.of) c.declare.new.self c.block.new.typing
    c.in_ok-declare.ensures
    g)
