use Rattle.std.proofs.Common.{◌≡◌, ◌+◌, [], length, ap, sym, ◌∙◌, arith}
use Rattle.terrac_call.specs.Arguments.{Bad}
use Rattle.terrac_call.proofs.ArgumentSteps.{too_many_at, bad_at, good_at, missing, ended, code_at, no_code, no_word}
use Rattle.terrac_call.proofs.arguments.arguments_of.Goals as goal

pub returns-then-position-codes-clause-value : goal.returns-then-position-codes-clause-value
returns-then-position-codes-clause-value c =
    let size : c.len-position.result ≡ length c.loop-word.values.items = omega (arith, c.len-position.ensures, c.loop-word.values.ok.0) in
    ap (λ n. Bad (n + 1)) size
    ∙ too_many_at c.args.codes.now c.args.words.now _ c.loop-word.word-index 0
    (record { ref_ptr = (0, 0); now = [] }) _ c.loop-word.invariant.begun c.loop-word-test.true (omega (arith, c.len-position.ensures))

pub returns-in-None-clause-value : goal.returns-in-None-clause-value
returns-in-None-clause-value c =
    let size : c.len-position.result ≡ length c.loop-word.values.items = omega (arith, c.len-position.ensures, c.loop-word.values.ok.0) in
    ap (λ n. Bad (n + 1)) size
    ∙ bad_at c.args.codes.now c.args.words.now _ c.loop-word.word-index c.len-position.result _ _ c.loop-word.invariant.begun
    c.loop-word-test.true (omega (arith, c.len-position.ensures)) (omega (arith, c.len-position.ensures))
    (sym c.argument.ensures ∙ c.in-None.is)

pub loop-word-preserved : goal.loop-word-preserved
loop-word-preserved c = record {
  count = omega (arith, c.in_ok-push-in-Some.ensures.len);
  few = omega (arith, c.len-position.ensures);
  begun = rw c.in_ok-push-in-Some.ensures.items
      (good_at c.args.codes.now c.args.words.now _ c.loop-word.word-index c.len-position.result _ _ c.loop-word.invariant.begun
      c.loop-word-test.true (omega (arith, c.len-position.ensures)) (omega (arith, c.len-position.ensures)) c.in-Some.value
      (sym c.argument.ensures ∙ c.in-Some.is));
}

pub returns-then-len-codes-clause-value : goal.returns-then-len-codes-clause-value
returns-then-len-codes-clause-value c =
    let size : c.len-then-len-codes.result ≡ length c.loop-word.values.items =
    omega (arith, c.len-then-len-codes.ensures, c.loop-word.values.ok.0) in
    ap (λ n. Bad (n + 1)) size
    ∙ missing _ _ _ _ c.loop-word.invariant.begun _ _ (code_at c.args.codes.now c.loop-word.word-index (omega (arith, c.len.ensures)))
    (no_word c.args.words.now c.loop-word.word-index (omega arith))

pub returns-clause-value : goal.returns-clause-value
returns-clause-value c =
    ended _ _ _ _ c.loop-word.invariant.begun (no_code c.args.codes.now c.loop-word.word-index (omega (arith, c.len.ensures)))
    (no_word c.args.words.now c.loop-word.word-index (omega arith))
