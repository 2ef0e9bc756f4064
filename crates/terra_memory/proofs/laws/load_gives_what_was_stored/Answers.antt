use Rattle.std.proofs.Common.{◌≡◌, ◌*◌, ◌%◌, ◌^◌, Some}
use Rattle.terra_memory.specs.Region.{Contents, load_of}
use Rattle.terra_memory.proofs.RegionLaws.{after_store, load_of-stored}
use Rattle.terra_memory.proofs.laws.load_gives_what_was_stored.Goals as goal

pub returns : goal.returns
returns c = λ r address size value.
    after_store r address size value (λ (after : Contents). load_of after address size ≡ Some (value % 2 ^ (8 * size))) (load_of-stored r address size value)
