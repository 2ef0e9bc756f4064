use Rattle.std.proofs.Common.{◌≡◌, ◌<◌, ◌^◌, length, true}
use Rattle.std.specs.List.{list_all}
use Rattle.std.specs.Char.{is_ascii_digit}
use Rattle.terrac_call.specs.Arguments.{digits_onto, number_of}
use Rattle.terrac_call.proofs.arguments.number_of.Given as goal

abbrev pub invariant-digits : goal.invariant-digits
invariant-digits l = record {
  same : digits_onto l.number l.rest ≡ number_of l.initial.rest;
  fits : l.number < 2 ^ 64;
  are_digits : list_all is_ascii_digit l.rest ≡ true;
}

abbrev pub decreases-digits : goal.decreases-digits
decreases-digits l = length l.rest
