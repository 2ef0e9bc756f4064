use Rattle.std.proofs.Common.{refl, arith}
use Rattle.std.proofs.lemmas.Grind.{common_steps}
use Rattle.tl_parse.specs.Views.Parsing.{tokens_left, end_of, items_of}
use Rattle.tl_parse.proofs.parser.Parser.push.Goals as goal

pub returns-clause-ok : goal.returns-clause-ok
unfolding tokens_left end_of items_of
returns-clause-ok c =
    record {
      rest = refl;
      finish = refl;
      items = grind (arith, common_steps);
      is_last = grind (arith, common_steps);
    }
