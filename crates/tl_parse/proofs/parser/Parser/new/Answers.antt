use Rattle.tl_parse.proofs.Looking.{begins_at, ends_there}
use Rattle.tl_parse.proofs.parser.Parser.new.Goals as goal

pub invariant_of-result : goal.invariant_of-result
invariant_of-result c =
    record {
      ends = ends_there c.new-lexer.result c.next_token.new.self c.next_token.result c.new-current.result c.next_token.ensures.first
          c.next_token.ensures.rest c.new-current.ensures;
    }

pub returns : goal.returns
returns c =
    begins_at c.args.text.now c.new-lexer.result _ c.next_token.result
    c.new-lexer.ensures c.next_token.ensures.first c.next_token.ensures.rest c.new-current.ensures c.new.ensures.items
