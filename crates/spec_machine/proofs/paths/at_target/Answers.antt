use Rattle.tl_tree.specs.Arena.{items_of}
use Rattle.spec_machine.specs.Kept.{keeps_itself}
use Rattle.spec_machine.proofs.paths.at_target.Goals as goal

pub returns-in_ok-step-in-Declare : goal.returns-in_ok-step-in-Declare
returns-in_ok-step-in-Declare c =
    let a = c.args in
    record {
      means = rw c.in-Declare.is (c.in_ok-step-in-Declare.ensures.means (items_of a.tree.now) a.world.now a.budget.now);
      kept = keeps_itself a.world.now;
    }

pub returns-in_ok-step-in-Struct-clause-means : goal.returns-in_ok-step-in-Struct-clause-means
returns-in_ok-step-in-Struct-clause-means c = rw c.in-Struct.is (c.in_ok-step-in-Struct.ensures.means c.args.budget.now)
