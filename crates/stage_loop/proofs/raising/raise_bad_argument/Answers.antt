use Rattle.std.proofs.Common.{◌∙◌}
use Rattle.stage_loop.proofs.Raises.{position-is-short}
use Rattle.stage_loop.proofs.raising.raise_bad_argument.Goals as goal

pub raise-requires : goal.raise-requires
raise-requires c = rw (c.as_bytes.ensures.value ∙ c.in_ok-text.ensures) (position-is-short c.args.position c.ranges.position.fits)
