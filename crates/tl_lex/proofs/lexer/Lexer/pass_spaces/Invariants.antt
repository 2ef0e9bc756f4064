use Rattle.std.proofs.Common.{◌≡◌, length}
use Rattle.tl_lex.specs.Lexing.{answers_left}
use Rattle.tl_lex.proofs.lexer.Lexer.pass_spaces.Given as goal

abbrev pub invariant-spaces : goal.invariant-spaces
invariant-spaces l = answers_left l.self ≡ answers_left l.fn.self

abbrev pub decreases-spaces : goal.decreases-spaces
decreases-spaces l = length l.self.rest.now
