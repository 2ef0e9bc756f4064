use Rattle.std.proofs.Common.{◌≡◌, ◌≤◌, drop, length, vec_len}
use Rattle.terrac_call.specs.Arguments.{arguments_of}
use Rattle.terrac_call.specs.JobView.{texts_of}
use Rattle.terrac_call.proofs.ArgumentSteps.{Begun}
use Rattle.terrac_call.proofs.arguments.arguments_of.Given as goal

abbrev pub invariant-loop-word : goal.invariant-loop-word
invariant-loop-word l = record {
  count : vec_len l.values ≡ l.word-index;
  few : l.word-index ≤ length l.codes;
  begun : Begun l.values.items (drop l.word-index l.codes) (texts_of (drop l.word-index l.words))
      (arguments_of l.codes 1 (texts_of l.words));
}
