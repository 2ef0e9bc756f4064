use Rattle.std.proofs.Common.{◌-◌}
use Rattle.spec_machine.specs.Kept.{keeps_itself}
use Rattle.spec_machine.proofs.machine.next.Goals as goal

pub returns-in_ok-step-in-Entries : goal.returns-in_ok-step-in-Entries
returns-in_ok-step-in-Entries c =
    let a = c.args in
    record {
      means = rw c.in-Entries.is (c.in_ok-step-in-Entries.ensures.means a.world.now a.budget.now);
      kept = keeps_itself a.world.now;
    }

pub returns-in_ok-step-in-Initials-clause-means : goal.returns-in_ok-step-in-Initials-clause-means
returns-in_ok-step-in-Initials-clause-means c = rw c.in-Initials.is (c.in_ok-step-in-Initials.ensures.means c.args.budget.now)

pub returns-in_ok-step-in-Var-clause-means : goal.returns-in_ok-step-in-Var-clause-means
returns-in_ok-step-in-Var-clause-means c = rw c.in-Var.is c.in_ok-step-in-Var.ensures.means

pub returns-in_ok-step-in-Parameters-clause-means : goal.returns-in_ok-step-in-Parameters-clause-means
returns-in_ok-step-in-Parameters-clause-means c = rw c.in-Parameters.is c.in_ok-step-in-Parameters.ensures.means
