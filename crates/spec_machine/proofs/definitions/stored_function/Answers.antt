use Rattle.std.proofs.Common.{◌-◌, refl, ap, ◌∙◌, None}
use Rattle.tl_base.specs.declared.ids.FnId.{FnId}
use Rattle.lua_value.specs.declared.value.Value.TheVariants as values
use Rattle.exotype.specs.World.{StageState, with_heap}
use Rattle.spec_model.specs.Definitions as definitions
use Rattle.spec_machine.specs.Kept.{keeps_then}
use Rattle.spec_machine.proofs.Defining as defining
use Rattle.spec_model.specs.Making.{next_function, with_function}
use Rattle.spec_machine.proofs.definitions.stored_function.Goals as goal

pub returns-clause-means : goal.returns-clause-means
returns-clause-means c =
    let a = c.args in
    let w = a.world.now in
    let g = next_function w in
    let v = with_function w a.at None in
    defining.gets_as {X = FnId} (λ go. definitions.made a.target a.at go) w g
    (with_heap v (definitions.with_held v.heap a.target (values.TerraFunction g))) c.in_ok-function.function c.store.new.world
    (λ f go left later. refl) c.in_ok-function.ensures.id
    (c.in_ok-store.ensures.ok
    ∙ ap (λ (u : StageState). with_heap u (definitions.with_held u.heap a.target (values.TerraFunction c.in_ok-function.function))) c.in_ok-function.ensures.ok
    ∙ ap (λ (x : FnId). with_heap v (definitions.with_held v.heap a.target (values.TerraFunction x))) c.in_ok-function.ensures.id)

pub returns-clause-kept : goal.returns-clause-kept
returns-clause-kept c =
    keeps_then c.args.world.now c.new_function.new.world c.store.new.world c.in_ok-function.ensures.kept c.in_ok-store.ensures.kept
