use Rattle.std.proofs.Common.{◌-◌, refl, sym, ap, ◌∙◌, Some}
use Rattle.tl_base.specs.declared.ids.FnId.{FnId}
use Rattle.tl_base.specs.declared.machine.Step.TheVariants.{Return}
use Rattle.lua_value.specs.declared.value.Value.TheVariants as values
use Rattle.exotype.specs.World.{StageState, with_heap}
use Rattle.spec_model.specs.declared.end.End.TheVariants as ends
use Rattle.spec_model.specs.Definitions as definitions
use Rattle.spec_machine.specs.Kept.{keeps_then}
use Rattle.spec_machine.proofs.Doing.{returns as returned, moved}
use Rattle.spec_model.specs.Making.{next_function, with_function}
use Rattle.spec_machine.proofs.definitions.store_declared.Goals as goal

pub returns-clause-means : goal.returns-clause-means
returns-clause-means c = λ items left fs.
    let a = c.args in
    let w = a.world.now in
    let g = next_function w in
    let v = with_function w a.at (Some a.of) in
    let f = c.in_ok-function.function in
    moved items fs fs definitions.over definitions.over
    (with_heap v (definitions.with_held v.heap a.target (values.TerraFunction g))) c.store.new.world c.store.new.world left left
    (Return (ends.Gave values.Nil)) refl
    (sym (c.in_ok-store.ensures.ok
    ∙ ap (λ (u : StageState). with_heap u (definitions.with_held u.heap a.target (values.TerraFunction f))) c.in_ok-function.ensures.ok
    ∙ ap (λ (x : FnId). with_heap v (definitions.with_held v.heap a.target (values.TerraFunction x))) c.in_ok-function.ensures.id))
    (returned items fs (ends.Gave values.Nil) c.store.new.world left)

pub returns-clause-kept : goal.returns-clause-kept
returns-clause-kept c =
    keeps_then c.args.world.now c.new_function.new.world c.store.new.world c.in_ok-function.ensures.kept c.in_ok-store.ensures.kept
