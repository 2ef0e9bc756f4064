use Rattle.std.proofs.Common.{◌-◌}
use Rattle.tl_base.specs.declared.ids.TypeId.{TypeId}
use Rattle.tl_tree.specs.Arena.{items_of}
use Rattle.spec_model.specs.Expressions as expressions
use Rattle.spec_machine.specs.Kept.{keeps_itself}
use Rattle.spec_machine.proofs.Doing.{comes, leaves}
use Rattle.spec_machine.proofs.expressions.construct_reached.Goals as goal

pub returns-in_ok-step-in-Value-clause-means : goal.returns-in_ok-step-in-Value-clause-means
returns-in_ok-step-in-Value-clause-means c = λ plan w left middle came.
    let a = c.args in
    let f = a.frame.now in
    let items = items_of a.tree.now in
    comes {X = TypeId} items a.frames.now.items c.construct.new.frames.items plan (λ t. expressions.construct items t f.initials.now f.place f.env)
    a.reached c.in-Value.of w a.world.now c.construct.new.world left middle middle c.in_ok-step-in-Value.step c.in-Value.is came (c.in_ok-step-in-Value.ensures.means middle)

pub returns-in-Left : goal.returns-in-Left
returns-in-Left c =
    let a = c.args in
    let f = a.frame.now in
    let items = items_of a.tree.now in
    record {
      means = λ plan w left middle came.
          leaves {X = TypeId} items a.frames.now.items plan (λ t. expressions.construct items t f.initials.now f.place f.env)
          a.reached c.in-Left.step w a.world.now left middle c.in-Left.is came;
      kept = keeps_itself a.world.now;
    }
