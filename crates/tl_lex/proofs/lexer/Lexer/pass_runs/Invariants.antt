use Rattle.std.proofs.Common.{◌≡◌, length}
use Rattle.tl_lex.specs.Lexing.{answers_left}
use Rattle.tl_lex.proofs.lexer.Lexer.pass_runs.Given as goal

abbrev pub invariant-blanks : goal.invariant-blanks
invariant-blanks l = answers_left l.self ≡ answers_left l.fn.self

abbrev pub decreases-blanks : goal.decreases-blanks
decreases-blanks l = length l.self.rest.now
