use Rattle.std.proofs.Common.{◌≡◌, refl, sym, ap, ◌∙◌, List}
use Rattle.tl_base.specs.declared.ids.NodeId.{NodeId}
use Rattle.tl_base.specs.declared.machine.Step.TheVariants.{Enter}
use Rattle.tl_tree.specs.Arena.{items_of}
use Rattle.tl_tree.specs.Code.{arm_condition, arm_block}
use Rattle.tl_tree.specs.Nodes.{item_at}
use Rattle.spec_model.specs.declared.job.Job.TheVariants as jobs
use Rattle.spec_model.specs.Plans.{SpecPlan, term}
use Rattle.spec_machine.specs.declared.frame.TermFrame.TheVariants as of_term
use Rattle.spec_machine.specs.Frames.{with_term}
use Rattle.spec_machine.proofs.Doing.{moved}
use Rattle.spec_machine.proofs.Pushing.{term_enters}
use Rattle.spec_machine.proofs.conditions.arm.Goals as goal

pub returns : goal.returns
returns c = record {
  means = λ w left.
      let a = c.args in
      let f = a.frame in
      let items = items_of a.tree.now in
      let condition = c.arm_parts.result.0 in
      let block = c.arm_parts.result.1 in
      let n = arm_condition (item_at items a.node) in
      let b = arm_block (item_at items a.node) in
      moved items a.frames.now.items c.push.new.self.items (term n f.env (with_term items (of_term.Arm b f)))
      (term condition f.env (with_term items (of_term.Arm block f))) w w w left left (Enter (jobs.Expression condition f.env))
      (ap (λ (m : NodeId). term m f.env (with_term items (of_term.Arm b f))) (sym c.arm_parts.ensures.condition)
      ∙ ap (λ (m : NodeId). term condition f.env (with_term items (of_term.Arm m f))) (sym c.arm_parts.ensures.block)) refl
      (term_enters items a.frames.now.items c.push.new.self.items (of_term.Arm block f) condition f.env w left
      c.in_ok-push.ensures.items);
}
