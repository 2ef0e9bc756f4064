use Rattle.tl_parse.proofs.Looking.{next_is_there}
use Rattle.tl_parse.proofs.parser.Parser.next_is.Goals as goal

pub returns-then-not-self : goal.returns-then-not-self
returns-then-not-self c =
    next_is_there c.args.symbol c.args.self.now c.number_of.result c.number_of-then-not-self.result c.requires c.if-not-self.true c.number_of.ensures c.number_of-then-not-self.ensures
