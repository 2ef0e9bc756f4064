use Rattle.std.proofs.Common.{◌≡◌, ℕ, List, [], drop}
use Rattle.terra_term.specs.declared.lists.VarName.{VarName}
use Rattle.spec_model.specs.Plans.{SpecPlan}
use Rattle.spec_model.specs.Statements.{drawn}
use Rattle.spec_machine.specs.Keeping.{KeepsStage}
use Rattle.spec_machine.proofs.Reaching.{Passes}
use Rattle.spec_machine.proofs.variables.drawn.Given as goal

abbrev pub invariant-variables : goal.invariant-variables
invariant-variables l = record {
  passes : (left : ℕ) → Passes (λ (go : List VarName → SpecPlan). drawn l.fn.wanted l.fn.env [] go) l.fn.world left
      (λ (go : List VarName → SpecPlan). drawn (drop l.variable-index l.wanted) l.fn.env l.names.items go) l.world left;
  kept : KeepsStage l.fn.world l.world;
}
