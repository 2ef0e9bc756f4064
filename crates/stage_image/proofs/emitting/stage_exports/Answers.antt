use Rattle.std.proofs.Common.{◌≡◌, ap, ◌∙◌, sym, subst}
use Rattle.tl_base.specs.Layer.{state}
use Rattle.tl_tree.specs.Arena.{items_of, end_of as finish_of}
use Rattle.terra_term.specs.Stores.{contents_of}
use Rattle.exotype.specs.World.{StageState}
use Rattle.stage_model.specs.declared.staging.End.TheVariants.{Done}
use Rattle.stage_model.specs.Stage.{StagingState}
use Rattle.stage_model.specs.Staging.{ending}
use Rattle.stage_image.specs.Emitted.{CanCompile, IsMade, defined_count}
use Rattle.stage_image.proofs.Premises.{can_compile}
use Rattle.stage_image.proofs.emitting.stage_exports.Goals as goal

-- the outcome's world is read behind its pointer
pub emitted_of-requires : goal.emitted_of-requires
emitted_of-requires c =
    let out = c.in_ok-outcome.outcome in
    let means = c.in_ok-outcome.ensures.means in
    let w = out.staging.value.typing.stage in
    let can : out.end ≡ Done → CanCompile (contents_of w.store) w.exports.list c.args.limits =
    λ done.
    can_compile (items_of c.args.tree.now) c.places_fit.ensures (finish_of c.args.tree.now) means.0 c.args.limits
    (ending out.end out.checks.items (state out.staging.value out.left)) c.requires means.1 done in
    subst (λ (v : StageState). out.end ≡ Done → CanCompile (contents_of v.store) v.exports.list c.args.limits)
    (sym (c.world.ensures ∙ ap (λ (s : StagingState). s.typing.stage) c.deref.ensures)) can

pub returns : goal.returns
returns c =
    let out = c.in_ok-outcome.outcome in
    let means = c.in_ok-outcome.ensures.means in
    let w = out.staging.value.typing.stage in
    let it = c.in_ok-emitted.emitted in
    let made = c.in_ok-emitted.ensures in
    let whole : (it.printed ≡ w.heap.printed) × (it.functions ≡ defined_count w.store)
    × IsMade w c.args.limits.memory out.end it.end =
    subst (λ (v : StageState). (it.printed ≡ v.heap.printed) × (it.functions ≡ defined_count v.store)
    × IsMade v c.args.limits.memory out.end it.end)
    (c.world.ensures ∙ ap (λ (s : StagingState). s.typing.stage) c.deref.ensures) (made.printed, made.functions, made.end) in
    record {
      n = means.0;
      ending = ending out.end out.checks.items (state out.staging.value out.left);
      comes = means.1;
      printed = whole.0;
      functions = whole.1;
      end = whole.2;
    }
