use Rattle.tl_lex.proofs.BracketLemmas.{Open}
use Rattle.tl_lex.proofs.brackets.closing_place.Given as goal

abbrev pub invariant-loop-at : goal.invariant-loop-at
invariant-loop-at l = Open l.level l.bytes l.at
