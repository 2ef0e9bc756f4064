use Rattle.std.proofs.Common.{refl, sym, ap, ◌∙◌}
use Rattle.terra_term.specs.Held.{standing_of}
use Rattle.terra_term.proofs.Staying.{stays-begun}
use Rattle.exotype.specs.World.{StageState}
use Rattle.exotype.specs.contracts.world.World.{the_view}
use Rattle.check_expr.specs.Kept.{stage_itself}
use Rattle.check_expr.proofs.Standing.{begun_same, store_state}
use Rattle.check_expr.proofs.Worlds.{store_kept}
use Rattle.check_expr.proofs.functions.begin_in.Goals as goal

pub returns-in-Defined-clause-kept : goal.returns-in-Defined-clause-kept
returns-in-Defined-clause-kept c =
    store_kept _ (the_view c.world.inside) _ c.world.view_is refl
    (rw c.begin_typing.ensures (store_state _ _ _ (stays-begun _)))

pub returns-in_default : goal.returns-in_default
returns-in_default c =
    let a = c.args in
    let w = a.world.now in
    let same = ap (λ (v : StageState). standing_of v.store a.f) (sym c.world.view_is) ∙ sym c.standing.ensures in
    record {
      means = sym (begun_same w a.f (λ defined. c.in_default.not-Defined (sym same ∙ defined)));
      kept = stage_itself w;
    }
