-- What is due for a source whose staging is done is what its exports mean.
use Rattle.std.proofs.Common.{◌≡◌, length, subst, arith}
use Rattle.std.specs.Prelude.{◌%◌}
use Rattle.tl_base.specs.declared.limits.Limits.{Limits as StagingLimits}
use Rattle.tl_base.specs.Limits.{IsLimits}
use Rattle.terra_term.specs.Stores.{contents_of}
use Rattle.stage_model.specs.declared.staging.End.{End}
use Rattle.stage_image.proofs.Premises.{can_compile}
use Rattle.terrac_call.specs.Words.{Limits, Run}
use Rattle.terrac_call.specs.Ranges.{AreLimits}
use Rattle.terrac_call.specs.Meant.{IsCallMeant, SourcesAreMeant}
use Rattle.terrac_call.specs.Run.{IsImageDue}
use Rattle.terrac_call.specs.Staged.{IsEndDue, bytes_of}
use Rattle.terrac_call.proofs.Meant.{calls_are_meant}
use Rattle.terrac_call.proofs.Refusing.{refuses_exactly}

-- limits that words name are those of a staging
pub are_limits : (limits : Limits) → AreLimits limits → IsLimits (record { budget = limits.budget; memory = bytes_of limits.memory })
are_limits limits are = record {
  least_budget = are.least_budget;
  most_budget = are.most_budget;
  least_memory = omega (arith, are.least_memory);
  most_memory = omega (arith, are.most_memory);
  whole_kib = omega arith;
}

pub sources_are_meant : SourcesAreMeant
sources_are_meant it are items finish due x done =
    let w = x.ending.left.world.typing.stage in
    let limits : StagingLimits = record { budget = it.running.limits.budget; memory = bytes_of it.running.limits.memory } in
    let made : IsImageDue it w x.rest = subst (λ (end : End). IsEndDue (Run it) x.ending end x.rest) done x.rest_is in
    let can = can_compile items x.placed finish x.n limits x.ending (are_limits it.running.limits are) x.comes done in
    let most = length made.image.text in
    let meant : IsCallMeant it w made.image most x.rest = calls_are_meant it w x.rest made can.typed can.ready in
    record {
      image = made.image;
      compiled = made.compiled;
      meant = meant;
      exact = refuses_exactly it w can.named.differ made.image most x.rest meant;
    }
