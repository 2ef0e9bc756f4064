use Rattle.std.proofs.Common.{◌≡◌, length, refl}
use Rattle.terra_memory.specs.Region.{Contents}
use Rattle.terra_memory.proofs.RegionLaws.{after_store, length-stored}
use Rattle.terra_memory.proofs.laws.store_keeps_size_and_heap.Goals as goal

pub returns : goal.returns
returns c = λ r address size value.
    after_store r address size value (λ (after : Contents). (length after.bytes ≡ length r.bytes) × (after.heap ≡ r.heap)) (λ h. (length-stored r address size value h, refl))
