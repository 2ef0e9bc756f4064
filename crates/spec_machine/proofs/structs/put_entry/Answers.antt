use Rattle.std.proofs.Common.{◌-◌, refl, sym, ap, ◌∙◌}
use Rattle.tl_base.specs.declared.ids.TextId.{TextId}
use Rattle.tl_base.specs.Layer.{state}
use Rattle.tl_base.specs.Plan.{Read, Write, run}
use Rattle.exotype.specs.World.{StageState, with_heap}
use Rattle.spec_model.specs.Plans as plans
use Rattle.spec_model.specs.Plans.{SpecPlan}
use Rattle.spec_model.specs.Structs as structs
use Rattle.spec_machine.specs.Kept.{keeps_then}
use Rattle.spec_machine.proofs.Worlds as worlds
use Rattle.std.specs.Prelude.{codes}
use Rattle.exotype.specs.contracts.world.World.{the_view}
use Rattle.spec_machine.proofs.structs.put_entry.Goals as goal

pub returns-clause-means : goal.returns-clause-means
returns-clause-means c = λ rest f left later.
    let a = c.args in
    let w = a.world.now in
    let field = c.in_ok-field.field in
    let name = c.in_ok-written.written in
    let kind = c.in_ok-kind.kind in
    let w1 = c.text.new.world in
    let w2 = c.text-2.new.world in
    let w3 = c.text-3.new.world in
    let put : TextId → TextId → TextId → SpecPlan = λ x y z.
    Read (λ u. Write (with_heap u (structs.with_entry u.heap a.entries a.number x y z a.of)) rest) in
    c.in_ok-field.ensures.means f (λ x. plans.with_text_of a.bytes.now (λ y. plans.with_text_of (codes "type") (λ z. put x y z))) left later
    ∙ c.in_ok-written.ensures.means f (λ y. plans.with_text_of (codes "type") (λ z. put field y z)) left later
    ∙ c.in_ok-kind.ensures.means f (λ z. put field name z) left later
    ∙ ap (λ (u : StageState). run f rest (state u left) later)
    (sym (worlds.heap_is w3 (the_view c.world.inside) _ (structs.with_entry w3.heap a.entries a.number field name kind a.of) c.world.view_is refl
    (c.in_ok-put_fields.ensures.ok ∙ ap (λ (u : StageState). structs.with_entry u.heap a.entries a.number field name kind a.of) c.world.view_is)))

pub returns-clause-kept : goal.returns-clause-kept
returns-clause-kept c =
    let w = c.args.world.now in
    let w1 = c.text.new.world in
    let w2 = c.text-2.new.world in
    let w3 = c.text-3.new.world in
    keeps_then w w1 _ c.in_ok-field.ensures.kept (keeps_then w1 w2 _ c.in_ok-written.ensures.kept (keeps_then w2 w3 _ c.in_ok-kind.ensures.kept
    (worlds.heap_kept w3 (the_view c.world.inside) _ c.world.view_is refl c.in_ok-put_fields.ensures.kept)))
