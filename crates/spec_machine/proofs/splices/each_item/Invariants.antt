use Rattle.std.proofs.Common.{List, drop}
use Rattle.tl_base.specs.declared.ids.TermId.{TermId}
use Rattle.spec_model.specs.Plans.{SpecPlan}
use Rattle.spec_model.specs.Statements.{each_item}
use Rattle.spec_machine.specs.Keeping.{KeepsStage}
use Rattle.spec_machine.proofs.Reaching.{Passes}
use Rattle.spec_machine.proofs.splices.each_item.Given as goal

abbrev pub invariant-values : goal.invariant-values
invariant-values l = record {
  passes : Passes (λ (go : List TermId → SpecPlan). each_item l.fn.values l.fn.at l.fn.terms go) l.fn.world l.fn.budget
      (λ (go : List TermId → SpecPlan). each_item (drop l.value-index l.values) l.fn.at l.terms go) l.world l.budget;
  kept : KeepsStage l.fn.world l.world;
}
