-- What a step keeps of the world: the numbers, and both counts, which never fall.
use Rattle.std.specs.Prelude.{◌≡◌, ◌≤◌}
use Rattle.std.proofs.Common.{arith, refl, ◌∙◌}
use Rattle.layer_examples.specs.declared.world.World.{World}

pub record KeepsWorld (w w2 : World) : Type 0 where
  pub numbers : w2.numbers.items ≡ w.numbers.items
  pub totals : w.totals ≤ w2.totals
  pub given : w.given ≤ w2.given

pub keeps_world_self : (w : World) → KeepsWorld w w
keeps_world_self w = record { numbers = refl; totals = omega arith; given = omega arith }

pub keeps_world_on : (u v w : World) → KeepsWorld u v → KeepsWorld v w → KeepsWorld u w
keeps_world_on u v w a b = record {
  numbers = b.numbers ∙ a.numbers;
  totals = omega (arith, a.totals, b.totals);
  given = omega (arith, a.given, b.given);
}
