use Rattle.std.proofs.Common.{◌-◌, length}
use Rattle.tl_lex.proofs.QuotedLemmas.{Walked}
use Rattle.tl_lex.proofs.quoted.count_characters.Given as goal

abbrev pub invariant-characters : goal.invariant-characters
invariant-characters l = Walked l.quote l.bytes l.source_len l.count l.has_bad_escape

abbrev pub decreases-characters : goal.decreases-characters
decreases-characters l = length l.initial.bytes - l.source_len
