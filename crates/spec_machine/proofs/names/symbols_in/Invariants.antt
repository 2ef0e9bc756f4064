use Rattle.std.proofs.Common.{◌≡◌, List, [], drop}
use Rattle.tl_base.specs.declared.ids.SymId.{SymId}
use Rattle.spec_model.specs.Plans.{SpecPlan}
use Rattle.spec_model.specs.Names.{symbols_in}
use Rattle.spec_machine.proofs.names.symbols_in.Given as goal

abbrev pub invariant-values : goal.invariant-values
invariant-values l = record {
  world : l.world ≡ l.fn.world;
  budget : l.budget ≡ l.fn.budget;
  same : (go : List SymId → SpecPlan) → symbols_in l.fn.values l.fn.at [] go ≡ symbols_in (drop l.value-index l.values) l.fn.at l.symbols go;
}
