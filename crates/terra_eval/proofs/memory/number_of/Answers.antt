use Rattle.std.proofs.Common.{◌≡◌, ◌∙◌, ℕ, suc, ◌+◌, ◌-◌, ◌*◌, ◌%◌, ◌<◌, sym, ap, drop, length, get_or, arith}
use Rattle.terra_memory.specs.Numbers.{number_of}
use Rattle.terra_eval.proofs.Bytes.{number-none, number-step, number-turn}
use Rattle.terra_eval.proofs.memory.number_of.Goals as goal

pub loop-left-init : goal.loop-left-init
loop-left-init c =
    let bs = c.args.bytes.now in
    (omega arith, sym (ap (λ (n : ℕ). n % 18446744073709551616) (number-none bs (length bs) (omega arith))))

pub loop-left-preserved : goal.loop-left-preserved
loop-left-preserved c =
    let bs = c.args.bytes.now in
    let left = c.loop-left.left in
    let i = left - 1 in
    let behind = number_of (drop left bs) in
    let next : left ≡ suc i = omega (arith, c.loop-left-test.true) in
    let within : i < length bs = omega (arith, c.loop-left-test.true, c.loop-left.invariant.0) in (
      omega (arith, c.loop-left.invariant.0),
      ap (λ (n : ℕ). (n * 256 % 18446744073709551616 + c.from.result) % 18446744073709551616) c.loop-left.invariant.1
          ∙ number-step behind c.from.result
          ∙ ap (λ (n : ℕ). n % 18446744073709551616) (ap (λ (b : ℕ). b + 256 * behind) c.from.ensures
          ∙ ap (λ (k : ℕ). get_or bs i 0 + 256 * number_of (drop k bs)) next ∙ sym (number-turn bs i within)),
    )
