use Rattle.std.proofs.Common.{refl, sym, ap, ◌∙◌}
use Rattle.terra_term.specs.Held.{standing_of}
use Rattle.terra_term.proofs.Staying.{stays-finished, stays-refused}
use Rattle.exotype.specs.World.{StageState}
use Rattle.exotype.specs.contracts.world.World.{the_view}
use Rattle.check_model.specs.declared.end.PartEnd.{PartEnd}
use Rattle.check_model.specs.Bodies.{stage_after}
use Rattle.check_expr.specs.Kept.{stage_itself}
use Rattle.check_expr.proofs.Standing.{settled_same, answered_same, store_state}
use Rattle.check_expr.proofs.Worlds.{store_kept}
use Rattle.check_expr.proofs.functions.settle_in.Goals as goal

pub returns-in-Made-clause-kept : goal.returns-in-Made-clause-kept
returns-in-Made-clause-kept c =
    store_kept _ (the_view c.world.inside) _ c.world.view_is refl
    (rw c.finish_typing.ensures (store_state _ _ _ (stays-finished _ _)))

pub returns-in-Stated-clause-kept : goal.returns-in-Stated-clause-kept
returns-in-Stated-clause-kept c =
    store_kept _ (the_view c.world.inside) _ c.world.view_is refl (rw c.finish_typing-in-Stated.ensures (store_state _
    _ _ (stays-finished _ _)))

pub returns-in-Refused-clause-kept : goal.returns-in-Refused-clause-kept
returns-in-Refused-clause-kept c =
    store_kept _ (the_view c.world.inside) _ c.world.view_is refl
    (rw c.refuse.ensures (store_state _ _ _ (stays-refused _ _)))

pub returns-in-Answered-clause-means : goal.returns-in-Answered-clause-means
returns-in-Answered-clause-means c =
    let a = c.args in
    let w = a.world.now in
    sym (ap (λ (r : PartEnd). stage_after a.f r w) c.in-Answered.is ∙ answered_same w a.f)

pub returns-in_default : goal.returns-in_default
returns-in_default c =
    let a = c.args in
    let w = a.world.now in
    let same = ap (λ (v : StageState). standing_of v.store a.f) (sym c.world.view_is) ∙ sym c.standing.ensures in
    record {
      means = sym (settled_same w a.f a.end.now (λ typing. c.in_default.not-Typing (sym same ∙ typing)));
      kept = stage_itself w;
    }
