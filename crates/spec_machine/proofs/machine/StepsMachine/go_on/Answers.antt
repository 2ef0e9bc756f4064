use Rattle.tl_tree.specs.Arena.{items_of}
use Rattle.spec_machine.proofs.machine.StepsMachine.go_on.Goals as goal

pub returns-in_ok-step-in-Terms-clause-means : goal.returns-in_ok-step-in-Terms-clause-means
returns-in_ok-step-in-Terms-clause-means c = rw c.in-Terms.is (c.in_ok-step-in-Terms.ensures.means (items_of c.args.self.now.tree.now))

pub returns-in_ok-step-in-Emitted-clause-means : goal.returns-in_ok-step-in-Emitted-clause-means
returns-in_ok-step-in-Emitted-clause-means c =
    rw c.in-Emitted.is (c.in_ok-step-in-Emitted.ensures.means (items_of c.args.self.now.tree.now) c.args.frames.now.items)

pub returns-in_ok-step-in-Term-clause-means : goal.returns-in_ok-step-in-Term-clause-means
returns-in_ok-step-in-Term-clause-means c = rw c.in-Term.is c.in_ok-step-in-Term.ensures.means

pub returns-in_ok-step-in-Block-clause-means : goal.returns-in_ok-step-in-Block-clause-means
returns-in_ok-step-in-Block-clause-means c = rw c.in-Block.is c.in_ok-step-in-Block.ensures.means

pub returns-in_ok-step-in-Select-clause-means : goal.returns-in_ok-step-in-Select-clause-means
returns-in_ok-step-in-Select-clause-means c = rw c.in-Select.is c.in_ok-step-in-Select.ensures.means

pub returns-in_ok-step-in-Construct-clause-means : goal.returns-in_ok-step-in-Construct-clause-means
returns-in_ok-step-in-Construct-clause-means c = rw c.in-Construct.is c.in_ok-step-in-Construct.ensures.means

pub returns-in_ok-step-in-Value-clause-means : goal.returns-in_ok-step-in-Value-clause-means
returns-in_ok-step-in-Value-clause-means c = rw c.in-Value.is c.in_ok-step-in-Value.ensures.means

pub returns-in_ok-step-in-Next-clause-means : goal.returns-in_ok-step-in-Next-clause-means
returns-in_ok-step-in-Next-clause-means c = rw c.in-Next.is c.in_ok-step-in-Next.ensures.means
