use Rattle.std.proofs.Common.{◌≡◌, refl, sym, ap, ◌∙◌}
use Rattle.tl_base.specs.declared.ids.SymId.{SymId}
use Rattle.lua_value.specs.declared.kind.Kind.{Kind}
use Rattle.exotype.specs.declared.fault.Fault.TheVariants.{InTerraCode}
use Rattle.spec_model.specs.Plans.{SpecPlan, raise}
use Rattle.spec_model.specs.Names.{symbol_of}
use Rattle.spec_machine.specs.declared.reached.Reached.TheVariants.{Left}
use Rattle.spec_machine.proofs.Otherwise.{no_symbol}
use Rattle.spec_machine.proofs.Reaching.{comes_past, comes_left, passes_same}
use Rattle.spec_machine.proofs.names.symbol_of.Goals as goal

pub returns-in_ok-step-in_default-clause-means : goal.returns-in_ok-step-in_default-clause-means
returns-in_ok-step-in_default-clause-means c =
    let a = c.args in
    let w = a.world.now in
    let left = a.budget.now in
    let fault = InTerraCode c.kind.result in
    let step = c.in_ok-step-in_default.step in
    let whole = λ (go : SymId → SpecPlan). symbol_of a.value a.at go in
    let refused = λ (go : SymId → SpecPlan). raise a.at fault in
    comes_past whole refused (Left step) w w c.raise.new.world left left c.raise.new.budget
    (passes_same whole refused w w left
    (λ go. no_symbol a.value a.at go c.in_default.not-Symbol ∙ ap (λ (k : Kind). raise a.at (InTerraCode k)) (sym c.kind.ensures)) refl)
    (comes_left (raise a.at fault) step w c.raise.new.world left c.raise.new.budget c.in_ok-step-in_default.ensures.means)
