use Rattle.std.proofs.Common.{refl}
use Rattle.tl_parse.proofs.parser.Parser.next_goes_on.Goals as goal

pub next_is_among-requires : goal.next_is_among-requires
next_is_among-requires c = refl
