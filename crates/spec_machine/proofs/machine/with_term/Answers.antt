use Rattle.std.proofs.Common.{◌+◌, ◌-◌, List, [], ◌∷◌, ◌++◌, refl, sym, ap}
use Rattle.tl_base.specs.declared.ids.TermId.{TermId}
use Rattle.tl_tree.specs.Arena.{items_of}
use Rattle.tl_tree.specs.Code.{if_any}
use Rattle.terra_term.specs.declared.term.Expression.TheVariants as e
use Rattle.terra_term.specs.declared.term.Statement.TheVariants as s
use Rattle.spec_model.specs.declared.end.End.TheVariants as ends
use Rattle.spec_model.specs.declared.job.Job.TheVariants as jobs
use Rattle.spec_model.specs.Nodes.{operator_of, unary_of}
use Rattle.spec_model.specs.Plans as plans
use Rattle.spec_machine.specs.Kept.{keeps_itself}
use Rattle.spec_machine.specs.declared.frame.SpecFrame.TheVariants as frames
use Rattle.spec_machine.specs.declared.frame.TermFrame.TheVariants as of_term
use Rattle.spec_machine.specs.declared.frame.TermsThen.TheVariants as of_terms
use Rattle.spec_machine.specs.Frames as waiting
use Rattle.spec_machine.proofs.Doing.{returns as returned, enters, moved}
use Rattle.spec_machine.proofs.Entering.{does_as}
use Rattle.spec_machine.proofs.machine.with_term.Goals as goal

pub returns-in_ok-push-in-Left : goal.returns-in_ok-push-in-Left
returns-in_ok-push-in-Left c =
    let a = c.args in
    let items = items_of a.tree.now in
    let fs = a.frames.now.items in
    let w = a.world.now in
    let left = a.budget.now in
    let m = c.in-Left in
    record {
      means = rw m.is (enters items fs c.push.new.self.items (frames.Term (of_term.Right m.op a.term m.place)) (jobs.Expression m.right m.env) w left c.in_ok-push-in-Left.ensures.items);
      kept = keeps_itself w;
    }

pub returns-in_ok-step-in-Right-clause-means : goal.returns-in_ok-step-in-Right-clause-means
returns-in_ok-step-in-Right-clause-means c =
    let a = c.args in
    let items = items_of a.tree.now in
    let fs = a.frames.now.items in
    let w = a.world.now in
    let left = a.budget.now in
    let m = c.in-Right in
    rw m.is (does_as items fs (plans.make m.place (e.Binary (operator_of m.op) m.left a.term)) (plans.make m.place (e.Binary c.operator.result m.left a.term))
    w c.make.new.world left left c.in_ok-step-in-Right.step
    (ap (λ (o : _). plans.make m.place (e.Binary o m.left a.term)) (sym c.operator.ensures)) (c.in_ok-step-in-Right.ensures.means items left))

pub returns-in_ok-step-in-Unary-clause-means : goal.returns-in_ok-step-in-Unary-clause-means
returns-in_ok-step-in-Unary-clause-means c =
    let a = c.args in
    let items = items_of a.tree.now in
    let fs = a.frames.now.items in
    let w = a.world.now in
    let left = a.budget.now in
    let m = c.in-Unary in
    rw m.is (does_as items fs (plans.make m.place (e.Unary (unary_of m.op) a.term)) (plans.make m.place (e.Unary c.unary.result a.term))
    w c.make-in-Unary.new.world left left c.in_ok-step-in-Unary.step
    (ap (λ (o : _). plans.make m.place (e.Unary o a.term)) (sym c.unary.ensures)) (c.in_ok-step-in-Unary.ensures.means items left))

pub returns-in-Paren : goal.returns-in-Paren
returns-in-Paren c =
    let a = c.args in
    let items = items_of a.tree.now in
    let fs = a.frames.now.items in
    let w = a.world.now in
    let left = a.budget.now in
    record { means = rw c.in-Paren.is (returned items fs (ends.Made a.term) w left); kept = keeps_itself w }

pub returns-in_ok-push-in-Object : goal.returns-in_ok-push-in-Object
returns-in_ok-push-in-Object c =
    let a = c.args in
    let items = items_of a.tree.now in
    let fs = a.frames.now.items in
    let w = a.world.now in
    let left = a.budget.now in
    let m = c.in-Object in
    record {
      means = rw m.is (enters items fs c.push-in-Object.new.self.items (frames.Term (of_term.Key a.term m.place)) (jobs.Expression m.key m.env) w left c.in_ok-push-in-Object.ensures.items);
      kept = keeps_itself w;
    }

pub returns-in_ok-step-in-Key-clause-means : goal.returns-in_ok-step-in-Key-clause-means
returns-in_ok-step-in-Key-clause-means c =
    let a = c.args in
    let items = items_of a.tree.now in
    let fs = a.frames.now.items in
    let w = a.world.now in
    let left = a.budget.now in
    let m = c.in-Key in
    rw m.is (c.in_ok-step-in-Key.ensures.means items left fs)

pub returns-in_ok-step-in-Callee-clause-means : goal.returns-in_ok-step-in-Callee-clause-means
returns-in_ok-step-in-Callee-clause-means c =
    let a = c.args in
    let items = items_of a.tree.now in
    let fs = a.frames.now.items in
    let w = a.world.now in
    let left = a.budget.now in
    let m = c.in-Callee in
    rw m.is (moved items fs c.terms.new.frames.items (waiting.terms_plan items m.arguments.now m.env [] (of_terms.Call a.term m.place))
    (waiting.terms_plan items m.arguments.now m.env c.new-none.result (of_terms.Call a.term m.place)) w w c.terms.new.world left left c.in_ok-step-in-Callee.step
    (ap (λ (ts : List TermId). waiting.terms_plan items m.arguments.now m.env ts (of_terms.Call a.term m.place)) (sym c.new-none.ensures)) refl
    (c.in_ok-step-in-Callee.ensures.means items left))

pub returns-in_ok-step-in-Method-clause-means : goal.returns-in_ok-step-in-Method-clause-means
returns-in_ok-step-in-Method-clause-means c =
    let a = c.args in
    let items = items_of a.tree.now in
    let fs = a.frames.now.items in
    let w = a.world.now in
    let left = a.budget.now in
    let m = c.in-Method in
    rw m.is (c.in_ok-step-in-Method.ensures.means left)

pub returns-in_ok-step-in-Initial-clause-means : goal.returns-in_ok-step-in-Initial-clause-means
returns-in_ok-step-in-Initial-clause-means c =
    let a = c.args in
    let items = items_of a.tree.now in
    let fs = a.frames.now.items in
    let w = a.world.now in
    let left = a.budget.now in
    let m = c.in-Initial in
    rw m.is (c.in_ok-step-in-Initial.ensures.means left)

pub returns-in_ok-step-in-Backtick-clause-means : goal.returns-in_ok-step-in-Backtick-clause-means
returns-in_ok-step-in-Backtick-clause-means c =
    let a = c.args in
    let items = items_of a.tree.now in
    let fs = a.frames.now.items in
    let w = a.world.now in
    let left = a.budget.now in
    let m = c.in-Backtick in
    rw m.is (c.in_ok-step-in-Backtick.ensures.means items fs)

pub returns-in_ok-step-in-Quoted-clause-means : goal.returns-in_ok-step-in-Quoted-clause-means
returns-in_ok-step-in-Quoted-clause-means c =
    let a = c.args in
    let items = items_of a.tree.now in
    let fs = a.frames.now.items in
    let w = a.world.now in
    let left = a.budget.now in
    let m = c.in-Quoted in
    rw m.is (c.in_ok-step-in-Quoted.ensures.means items fs)

pub returns-in_ok-step-in-Bound-clause-means : goal.returns-in_ok-step-in-Bound-clause-means
returns-in_ok-step-in-Bound-clause-means c =
    let a = c.args in
    let items = items_of a.tree.now in
    let fs = a.frames.now.items in
    let w = a.world.now in
    let left = a.budget.now in
    let m = c.in-Bound in
    rw m.is (moved items fs c.more_bounds.new.frames.items (waiting.bounds_from items m.frame (if_any m.limit ++ if_any m.stride) (m.before ++ a.term ∷ []))
    (waiting.bounds_from items m.frame (if_any m.limit ++ if_any m.stride) c.push-in-Bound.new.self) w w c.more_bounds.new.world left c.more_bounds.new.budget
    c.in_ok-step-in-Bound.step (ap (λ (ts : List TermId). waiting.bounds_from items m.frame (if_any m.limit ++ if_any m.stride) ts) (sym c.in_ok-push-in-Bound.ensures.ok)) refl
    c.in_ok-step-in-Bound.ensures.means)

pub returns-in_ok-step-in-Perform-clause-means : goal.returns-in_ok-step-in-Perform-clause-means
returns-in_ok-step-in-Perform-clause-means c =
    let a = c.args in
    let items = items_of a.tree.now in
    let fs = a.frames.now.items in
    let w = a.world.now in
    let left = a.budget.now in
    let m = c.in-Perform in
    rw m.is (c.in_ok-step-in-Perform.ensures.means items left fs)

pub returns-in_ok-step-in-Repeat-clause-means : goal.returns-in_ok-step-in-Repeat-clause-means
returns-in_ok-step-in-Repeat-clause-means c =
    let a = c.args in
    let items = items_of a.tree.now in
    let fs = a.frames.now.items in
    let w = a.world.now in
    let left = a.budget.now in
    let m = c.in-Repeat in
    rw m.is (does_as items fs (plans.join m.place (s.Repeat m.statements a.term)) (plans.join m.place (s.Repeat c.in_ok-list-in-Repeat.list a.term))
    w c.join-in-Repeat.new.world left left c.in_ok-step-in-Repeat.step
    (ap (λ (ts : List TermId). plans.join m.place (s.Repeat ts a.term)) (sym c.in_ok-list-in-Repeat.ensures)) (c.in_ok-step-in-Repeat.ensures.means items left))

pub returns-in_ok-step-in-While-clause-means : goal.returns-in_ok-step-in-While-clause-means
returns-in_ok-step-in-While-clause-means c = rw c.in-While.is c.in_ok-step-in-While.ensures.means

pub returns-in_ok-step-in-Arm-clause-means : goal.returns-in_ok-step-in-Arm-clause-means
returns-in_ok-step-in-Arm-clause-means c = rw c.in-Arm.is c.in_ok-step-in-Arm.ensures.means
