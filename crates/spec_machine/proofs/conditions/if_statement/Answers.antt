use Rattle.std.proofs.Common.{◌≡◌, refl, sym, ap, ◌∙◌, List, [], ◌∷◌, ◌++◌}
use Rattle.tl_base.specs.declared.ids.NodeId.{NodeId}
use Rattle.tl_base.specs.declared.ids.TermId.{TermId}
use Rattle.tl_base.specs.declared.machine.Step.TheVariants.{Return}
use Rattle.tl_tree.specs.Arena.{items_of}
use Rattle.tl_tree.specs.Code.{arm_condition, arm_block}
use Rattle.tl_tree.specs.Nodes.{item_at}
use Rattle.spec_model.specs.declared.end.End.TheVariants.{Joined}
use Rattle.spec_model.specs.Plans.{SpecPlan, term}
use Rattle.spec_model.specs.Statements.{if_plan, inner_block, joined}
use Rattle.spec_machine.specs.declared.frame.Arm.{Arm}
use Rattle.spec_machine.specs.declared.frame.ArmsFrame.{ArmsFrame}
use Rattle.spec_machine.specs.Frames as waiting
use Rattle.spec_machine.proofs.Doing.{moved}
use Rattle.tl_base.proofs.Results.{carried}
use Rattle.spec_machine.proofs.Entering.{gives}
use Rattle.spec_machine.proofs.Pushing.{none_is}
use Rattle.spec_machine.proofs.conditions.if_statement.Goals as goal

pub returns-in_ok-none-in-None : goal.returns-in_ok-none-in-None
returns-in_ok-none-in-None c = record {
  means = λ left.
      let a = c.args in
      let items = items_of a.tree.now in
      let none = c.in_ok-none-in-None.none in
      moved items a.frames.now.items a.frames.now.items (if_plan items a.arms.now a.otherwise a.place a.env) (joined [])
      a.world.now a.world.now a.world.now left left (Return (Joined none))
      (ap (λ (ns : List NodeId). if_plan items ns a.otherwise a.place a.env) (none_is a.arms.now c.in-None.ensures.cases)) refl
      (gives items a.frames.now.items (Joined []) (Joined none) a.world.now left
      (ap (λ (ts : List TermId). Joined ts) (c.in_ok-none-in-None.ensures ∙ c.new.ensures)));
}

pub returns-in-Some : goal.returns-in-Some
returns-in-Some c =
    record {
      means =
          let a = c.args in
          let items = items_of a.tree.now in
          let n = c.in-Some.first.now in
          let rest = c.in-Some.rest in
          let w = a.world.now in
          let by : List Arm → SpecPlan = λ before.
          term (arm_condition (item_at items n)) a.env (λ test. inner_block items (arm_block (item_at items n)) a.env (λ ts.
          waiting.others items (record { rest = rest; otherwise = a.otherwise; place = a.place; env = a.env; arms = before }) test ts)) in
          carried _ _ c.arm.result c.arm.ensures.means (λ step g left.
          moved items a.frames.now.items c.arm.new.frames.items (if_plan items a.arms.now a.otherwise a.place a.env)
          (by c.new-in-Some.result) w w w left left step
          (ap (λ (ns : List NodeId). if_plan items ns a.otherwise a.place a.env) c.in-Some.ensures.cases.0
          ∙ ap by (sym c.new-in-Some.ensures)) refl (g w left));
    }
