use Rattle.std.proofs.Common.{ℕ, ◌+◌, ◌*◌, refl, sym, ap, ◌∙◌, arith, drop}
use Rattle.tl_tree.specs.Numbers as numbers
use Rattle.tl_tree.proofs.Digits.{next_digit, no_digit, all_digits, fits, fitting_some, too_large}
use Rattle.tl_tree.proofs.numeral.number_in.Goals as goal

pub digits-init : goal.digits-init
digits-init c = (omega arith, omega arith, refl)

pub returns-in_default : goal.returns-in_default
returns-in_default c =
    let same = no_digit c.args.base c.digits.value c.args.bytes.now c.digits.at c.digits-test.true
    (sym c.digit.ensures ∙ c.in_default.is) in
    sym (ap numbers.fitting (sym c.digits.invariant.2 ∙ same) ∙ fits c.digits.value c.digits.invariant.1)

pub returns-in_default-with_digit : goal.returns-in_default-with_digit
returns-in_default-with_digit c =
    let more = next_digit c.args.base c.digits.value c.args.bytes.now c.digits.at c.in-Some.digit c.digits-test.true
    (sym c.digit.ensures ∙ c.in-Some.is) in
    sym (ap numbers.fitting (sym c.digits.invariant.2 ∙ more)
    ∙ too_large c.args.base (c.digits.value * c.args.base + c.in-Some.digit)
    (drop (c.digits.at + 1) c.args.bytes.now) c.requires (sym c.with_digit.ensures ∙ c.in_default-with_digit.is))

pub digits-preserved : goal.digits-preserved
digits-preserved c =
    let more = next_digit c.args.base c.digits.value c.args.bytes.now c.digits.at c.in-Some.digit c.digits-test.true
    (sym c.digit.ensures ∙ c.in-Some.is) in
    let sum = fitting_some (c.digits.value * c.args.base + c.in-Some.digit) c.in-Some-with_digit.more
    (sym c.with_digit.ensures ∙ c.in-Some-with_digit.is) in (
      omega (arith, c.digits-test.true),
      omega (arith, sum.0, sum.1),
      ap (λ (v : ℕ). numbers.number_in c.args.base v (drop (c.digits.at + 1) c.args.bytes.now)) (sym sum.0)
          ∙ sym more ∙ c.digits.invariant.2,
    )

pub returns : goal.returns
returns c =
    let same = all_digits c.args.base c.digits.value c.args.bytes.now c.digits.at
    (omega (arith, c.digits-test.false)) in
    sym (ap numbers.fitting (sym c.digits.invariant.2 ∙ same) ∙ fits c.digits.value c.digits.invariant.1)
