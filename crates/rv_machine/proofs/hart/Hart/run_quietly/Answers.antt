use Rattle.std.proofs.Common.{◌≡◌, ◌+◌, ◌-◌, suc, map, sym, ap, ◌∙◌, subst, arith}
use Rattle.rv_machine.specs.Decoded.{found_of}
use Rattle.rv_machine.specs.Machine.{State, GoesOn, run_of}
use Rattle.rv_machine.specs.Place.{address_at}
use Rattle.rv_machine.specs.Shown.{hart_state, stands_at}
use Rattle.rv_machine.specs.Count.{StepsBetween}
use Rattle.rv_machine.proofs.Runs.{run_of-moved}
use Rattle.rv_machine.proofs.Counts.{steps_of-moved, counts-moved}
use Rattle.rv_machine.proofs.hart.Hart.run_quietly.Goals as goal

pub returns-in-None-clause-run : goal.returns-in-None-clause-run
returns-in-None-clause-run c =
    λ rest.
    c.loop-left.invariant.2 rest
    ∙ ap (λ (s : State). run_of (map found_of c.args.text.now) s rest) (sym (c.advance.ensures.none c.in-None.is (address_at c.loop-left.at)) ∙ sym c.stand.ensures)

pub returns-in-None-clause-taken : goal.returns-in-None-clause-taken
returns-in-None-clause-taken c =
    subst (λ (s : State). StepsBetween (map found_of c.args.text.now) (hart_state c.args.self.now) s (c.args.steps - c.loop-left.left)) (sym (c.advance.ensures.none c.in-None.is (address_at c.loop-left.at)) ∙ sym c.stand.ensures) c.loop-left.invariant.1

pub loop-left-preserved : goal.loop-left-preserved
loop-left-preserved c =
    let program = map found_of c.args.text.now in (
      omega (arith, c.loop-left.invariant.0),
      subst (StepsBetween program (hart_state c.args.self.now) (stands_at c.advance.new.self (address_at c.in-Some.next))) (let sum : c.args.steps - c.loop-left.left + 1 ≡ c.args.steps - (c.loop-left.left - 1) = omega (arith, c.loop-left.invariant.0, c.loop-left-test.true) in sum)
          (counts-moved program (hart_state c.args.self.now) (stands_at c.loop-left.self (address_at c.loop-left.at)) (stands_at c.advance.new.self (address_at c.in-Some.next)) (c.args.steps - c.loop-left.left) c.loop-left.invariant.1 (λ k. steps_of-moved program (stands_at c.loop-left.self (address_at c.loop-left.at)) k (GoesOn (stands_at c.advance.new.self (address_at c.in-Some.next))) c.in-Some.ensures.on c.in-Some.ensures.some)),
      λ rest.
          (let sum : c.args.steps - (c.loop-left.left - 1) + rest ≡ c.args.steps - c.loop-left.left + suc rest = omega (arith, c.loop-left.invariant.0, c.loop-left-test.true) in
          ap (run_of program (hart_state c.args.self.now)) sum
          ∙ c.loop-left.invariant.2 (suc rest)
          ∙ run_of-moved program (stands_at c.loop-left.self (address_at c.loop-left.at)) rest (GoesOn (stands_at c.advance.new.self (address_at c.in-Some.next))) c.in-Some.ensures.on c.in-Some.ensures.some),
    )
