use Rattle.std.proofs.Common.{refl}
use Rattle.tl_parse.proofs.Looking.{advanced, ends_there}
use Rattle.tl_parse.proofs.parser.Parser.pass.Goals as goal

pub invariant_of-self : goal.invariant_of-self
invariant_of-self c =
    record {
      ends = ends_there c.args.self.now.lexer c.next_token.new.self c.next_token.result c.new-self.result c.next_token.ensures.first
          c.next_token.ensures.rest c.new-self.ensures;
    }

pub returns : goal.returns
returns c =
    advanced c.args.self.now _ c.args.self.now.current c.next_token.result c.requires
    c.next_token.ensures.first c.next_token.ensures.rest c.new-self.ensures refl refl
