use Rattle.std.proofs.Common.{◌≡◌}
use Rattle.terra_memory.specs.Region.{Contents, load_of}
use Rattle.terra_memory.proofs.RegionLaws.{after_store, load_of-stored_apart}
use Rattle.terra_memory.proofs.laws.load_apart_is_unchanged.Goals as goal

pub returns : goal.returns
returns c = λ r address size value other count apart.
    after_store r address size value (λ (after : Contents). load_of after other count ≡ load_of r other count) (λ h. load_of-stored_apart r address size value other count h apart)
