use Rattle.std.proofs.Common.{◌≡◌, drop}
use Rattle.spec_model.specs.Plans.{each_one}
use Rattle.spec_machine.specs.Keeping.{KeepsStage}
use Rattle.spec_machine.proofs.Reaching.{Passes}
use Rattle.spec_machine.proofs.terms.each_one.Given as goal

abbrev pub invariant-values : goal.invariant-values
invariant-values l = record {
  passes : Passes (λ go. each_one l.fn.values l.fn.at l.fn.terms go) l.fn.world l.fn.budget
      (λ go. each_one (drop l.value-index l.values) l.fn.at l.terms go) l.world l.budget;
  kept : KeepsStage l.fn.world l.world;
}
