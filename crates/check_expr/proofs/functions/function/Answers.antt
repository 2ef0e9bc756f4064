use Rattle.std.proofs.Common.{List, refl, sym, ap, ◌∙◌}
use Rattle.std.specs.Prelude.{unwrap_or}
use Rattle.tl_base.specs.declared.ids.TermId.{TermId}
use Rattle.tl_base.specs.declared.ids.TypeId.{TypeId}
use Rattle.terra_types.specs.Opening.{unit}
use Rattle.terra_term.specs.Held.{next_typed}
use Rattle.terra_term.specs.declared.lists.TypedName.{TypedName}
use Rattle.terra_term.specs.declared.typed.Typed.TheVariants as typed_kinds
use Rattle.check_model.specs.Bodies as models
use Rattle.check_model.specs.Plans.{BodyPlan}
use Rattle.check_expr.specs.Functions.{small_plan}
use Rattle.check_expr.specs.Steps.{with_node}
use Rattle.check_expr.proofs.Doing.{moved}
use Rattle.check_expr.proofs.functions.function.Goals as goal

pub returns-clause-means : goal.returns-clause-means
returns-clause-means c = λ left fs.
    let a = c.args in
    let w = a.typing.now in
    let v = c.new_node.new.typing in
    let id = c.in_ok-id.id in
    let of = c.unwrap_or-of.result in
    let names = c.in_ok-names.names in
    let list = c.in_ok-list.list in
    let step = c.if_small.result in
    let plan : List TypedName → TypeId → List TermId → BodyPlan =
    λ ns t is. models.made_function ns t is a.at a.site in
    let go : TermId → BodyPlan = λ x. small_plan x of a.at a.site in
    moved fs fs (plan a.names (unwrap_or a.found unit) a.ids) (plan names of list) w w v left left step
    (ap (λ (ns : List TypedName). plan ns (unwrap_or a.found unit) a.ids)
    (sym c.in_ok-names.ensures)
    ∙ ap (λ (t : TypeId). plan names t a.ids) (sym c.unwrap_or-of.ensures)
    ∙ ap (plan names of) (sym c.in_ok-list.ensures)) refl
    (moved fs fs (go (next_typed w.stage.store)) (go id) (with_node w (typed_kinds.Function names of list)) v v left
    left
    step (ap go (sym c.in_ok-id.ensures.id)) (sym c.in_ok-id.ensures.ok) (c.if_small.ensures.means left fs))
