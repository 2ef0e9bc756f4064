use Rattle.std.proofs.Common.{List, [], refl, sym, ap, ◌∙◌}
use Rattle.terra_term.specs.declared.lists.TypedName.{TypedName}
use Rattle.terra_term.specs.declared.lists.VarName.{VarName}
use Rattle.check_model.specs.Plans.{BodyPlan}
use Rattle.check_model.specs.Statements as models
use Rattle.check_expr.specs.Frames as waiting
use Rattle.check_expr.proofs.Doing.{moved}
use Rattle.tl_base.proofs.Results.{carried}
use Rattle.check_expr.proofs.variables.declare.Goals as goal

pub returns-clause-means : goal.returns-clause-means
returns-clause-means c = carried _ _ c.names_left.result c.names_left.ensures.means (λ step g.
    let a = c.args in
    let f = a.frame in
    let w = a.typing.now in
    let plan : List VarName → List TypedName → BodyPlan = λ names named.
    models.names_for names f.at f.site named (λ all. waiting.var_names all f.ids f.at f.site) in
    moved a.frames.now.items c.names_left.new.frames.items (plan f.typed []) (plan c.from_list.result c.new.result) w w
    c.names_left.new.typing
    a.budget.now c.names_left.new.budget step
    (ap (λ (names : List VarName). plan names []) (sym c.from_list.ensures) ∙ ap (plan c.from_list.result) (sym c.new.ensures)) refl
    g)
