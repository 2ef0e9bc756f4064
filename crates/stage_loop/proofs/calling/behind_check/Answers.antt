use Rattle.std.proofs.Common.{◌≡◌, ℕ, Option, Some, sym, ap, ◌∙◌, subst}
use Rattle.std.specs.Prelude.{option_map}
use Rattle.tl_base.specs.declared.ids.FnId.{FnId}
use Rattle.tl_base.specs.declared.place.Place.{Place}
use Rattle.tl_base.specs.Layer.{state}
use Rattle.terra_term.specs.declared.refusal.RefusalKind.TheVariants.{TooLarge}
use Rattle.exotype.specs.World.{StageState}
use Rattle.check_library.specs.Answers.{refused}
use Rattle.check_library.specs.Counting.{nothing, count_function}
use Rattle.check_library.specs.Exports.{place_of_function}
use Rattle.terra_term.specs.Stores.{callable_of, contents_of}
use Rattle.stage_model.specs.Calls.{said, unless_too_large, with_term}
use Rattle.stage_loop.proofs.Calls.{stops-as}
use Rattle.stage_loop.proofs.calling.behind_check.Goals as goal

pub returns-in-Some-clause-turn : goal.returns-in-Some-clause-turn
returns-in-Some-clause-turn c =
    let a = c.args in
    let w = a.staging.now.typing.stage in
    let s = state a.staging.now a.budget.now in
    let counted =
    subst (λ (v : StageState). option_map (λ (g : FnId). g.0) c.in_ok-passing.field-0 ≡ (count_function v nothing a.f).passing) c.world.ensures
    c.in_ok-passing.ensures in
    let passes = sym counted ∙ ap (λ (o : Option FnId). option_map (λ (g : FnId). g.0) o) c.in-Some.is in
    let own = c.place_of_function-own.ensures ∙ ap (λ (v : StageState). place_of_function v a.f) c.world-in-Some.ensures in
    stops-as c.refuse.result (state c.refuse.new.staging c.refuse.new.budget)
    (unless_too_large (count_function w nothing a.f).passing a.f a.arguments.now a.place s)
    (said s (λ t. refused t TooLarge c.place_of_function-own.result a.place))
    (ap (λ (o : Option ℕ). unless_too_large o a.f a.arguments.now a.place s) passes
    ∙ ap (λ (p : Place). said s (λ t. refused t TooLarge p a.place)) (sym own)) c.refuse.ensures.turn

pub returns-in-None-clause-turn : goal.returns-in-None-clause-turn
returns-in-None-clause-turn c =
    let a = c.args in
    let w = a.staging.now.typing.stage in
    let s = state a.staging.now a.budget.now in
    let counted =
    subst (λ (v : StageState). option_map (λ (g : FnId). g.0) c.in_ok-passing.field-0 ≡ (count_function v nothing a.f).passing) c.world.ensures
    c.in_ok-passing.ensures in
    let passes = sym counted ∙ ap (λ (o : Option FnId). option_map (λ (g : FnId). g.0) o) c.in-None.is in
    stops-as c.call.result (state c.call.new.staging c.call.new.budget)
    (unless_too_large (count_function w nothing a.f).passing a.f a.arguments.now a.place s)
    (with_term (callable_of (contents_of w.store) a.f) a.f a.arguments.now a.place s)
    (ap (λ (o : Option ℕ). unless_too_large o a.f a.arguments.now a.place s) passes) c.call.ensures.turn
