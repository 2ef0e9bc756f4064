use Rattle.std.proofs.Common.{true, false, [], ◌∷◌, ◌++◌, Option, Some, refl, sym, ap, ◌∙◌}
use Rattle.tl_base.specs.declared.ids.TypeId.{TypeId}
use Rattle.terra_types.specs.Layouts as layouts
use Rattle.terra_term.specs.declared.lists.TypedName.{TypedName}
use Rattle.terra_term.specs.declared.refusal.RefusalKind.TheVariants.{WrongCount, FunctionValue}
use Rattle.check_model.specs.Plans.{BodyPlan, refuse, laid_out}
use Rattle.check_model.specs.Statements as models
use Rattle.check_model.specs.Typing.{TypingState}
use Rattle.check_expr.specs.Frames as waiting
use Rattle.check_expr.proofs.Doing.{moved, chosen, does_as}
use Rattle.tl_base.proofs.Results.{carried}
use Rattle.check_expr.proofs.variables.name_for.Goals as goal

pub returns-in-None-clause-means : goal.returns-in-None-clause-means
returns-in-None-clause-means c = λ left.
    let a = c.args in
    let f = a.frame in
    let w = a.typing.now in
    let go : TypedName → BodyPlan = λ n. waiting.names_from f (f.named ++ n ∷ []) in
    does_as a.frames.now.items (models.name_for a.name.of a.name f.at f.site go) (refuse WrongCount f.at f.site) w w
    left left c.refuse.result
    (ap (λ (o : Option TypeId). models.name_for o a.name f.at f.site go) c.in-None.is) (c.refuse.ensures.means w left)

pub returns-then-is_function-clause-means : goal.returns-then-is_function-clause-means
returns-then-is_function-clause-means c = λ left.
    let a = c.args in
    let f = a.frame in
    let n = a.name in
    let s = c.in-Some in
    let fs = a.frames.now.items in
    let w = a.typing.now in
    let step = c.refuse-then-is_function.result in
    let go : TypedName → BodyPlan = λ one. waiting.names_from f (f.named ++ one ∷ []) in
    let typed : TypedName = record { symbol = n.symbol; of = s.of } in
    moved fs fs (models.name_for n.of n f.at f.site go) (models.name_for (Some s.of) n f.at f.site go) w w w left left step
    (ap (λ (o : Option TypeId). models.name_for o n f.at f.site go) s.is) refl
    (chosen fs fs (layouts.is_function w.stage.store.types s.of) true (refuse FunctionValue n.place f.site)
    (laid_out s.of n.place f.site (go typed)) w w left left step
    (ap (λ (v : TypingState). layouts.is_function v.stage.store.types s.of) (sym c.typing.view_is) ∙ sym c.is_function.ensures
    ∙ c.if-is_function.true)
    (c.refuse-then-is_function.ensures.means w left fs))

pub returns-else-is_function-clause-means : goal.returns-else-is_function-clause-means
returns-else-is_function-clause-means c = carried _ _ c.lay_out.result c.lay_out.ensures.means (λ step g left.
    let a = c.args in
    let f = a.frame in
    let n = a.name in
    let s = c.in-Some in
    let fs = a.frames.now.items in
    let fs2 = c.lay_out.new.frames.items in
    let w = a.typing.now in
    let go : TypedName → BodyPlan = λ one. waiting.names_from f (f.named ++ one ∷ []) in
    let typed : TypedName = record { symbol = n.symbol; of = s.of } in
    moved fs fs2 (models.name_for n.of n f.at f.site go) (models.name_for (Some s.of) n f.at f.site go) w w w left left step
    (ap (λ (o : Option TypeId). models.name_for o n f.at f.site go) s.is) refl
    (chosen fs fs2 (layouts.is_function w.stage.store.types s.of) false (refuse FunctionValue n.place f.site)
    (laid_out s.of n.place f.site (go typed)) w w left left step
    (ap (λ (v : TypingState). layouts.is_function v.stage.store.types s.of) (sym c.typing.view_is) ∙ sym c.is_function.ensures
    ∙ c.if-is_function.false)
    (g left)))
