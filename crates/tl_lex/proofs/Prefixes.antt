-- The longest front of a class.
use Rattle.std.proofs.lemmas.List.Sums.{prefix_len-le-length}

pub ruleset prefixes = (prefix_len-le-length)
