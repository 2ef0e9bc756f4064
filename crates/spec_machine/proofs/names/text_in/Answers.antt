use Rattle.std.proofs.Common.{◌≡◌, refl, sym, ap, ◌∙◌}
use Rattle.tl_base.specs.declared.ids.TextId.{TextId}
use Rattle.lua_value.specs.declared.kind.Kind.{Kind}
use Rattle.exotype.specs.declared.fault.Fault.TheVariants.{InTerraCode}
use Rattle.spec_model.specs.Plans.{SpecPlan, raise}
use Rattle.spec_model.specs.Names.{text_in}
use Rattle.spec_machine.specs.declared.reached.Reached.TheVariants.{Left}
use Rattle.spec_machine.proofs.Otherwise.{no_text}
use Rattle.spec_machine.proofs.Reaching.{comes_past, comes_left, passes_same}
use Rattle.spec_machine.proofs.names.text_in.Goals as goal

pub returns-in_ok-step-in_default-clause-means : goal.returns-in_ok-step-in_default-clause-means
returns-in_ok-step-in_default-clause-means c =
    let a = c.args in
    let w = a.world.now in
    let left = a.budget.now in
    let fault = InTerraCode c.kind.result in
    let step = c.in_ok-step-in_default.step in
    let whole = λ (go : TextId → SpecPlan). text_in a.value a.at go in
    let refused = λ (go : TextId → SpecPlan). raise a.at fault in
    comes_past whole refused (Left step) w w c.raise.new.world left left c.raise.new.budget
    (passes_same whole refused w w left
    (λ go. no_text a.value a.at go c.in_default.not-Text ∙ ap (λ (k : Kind). raise a.at (InTerraCode k)) (sym c.kind.ensures)) refl)
    (comes_left (raise a.at fault) step w c.raise.new.world left c.raise.new.budget c.in_ok-step-in_default.ensures.means)
