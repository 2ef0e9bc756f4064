use Rattle.std.proofs.Common.{◌-◌, ◌≤◌, length, drop}
use Rattle.tl_lex.specs.Quoted.{characters, values}
use Rattle.tl_lex.proofs.ValueLemmas.{Written}
use Rattle.tl_lex.proofs.value.push_characters.Given as goal

abbrev pub invariant-characters : goal.invariant-characters
invariant-characters l =
    (l.at ≤ length l.bytes) × Written l.fn.value.items l.value.items (values (characters l.quote (drop l.at l.bytes))) (values (characters l.quote l.bytes))

abbrev pub decreases-characters : goal.decreases-characters
decreases-characters l = length l.initial.bytes - l.at
