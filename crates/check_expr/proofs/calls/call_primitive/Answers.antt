use Rattle.std.proofs.Common.{List, [], ◌∷◌, refl, sym, ap, ◌∙◌}
use Rattle.tl_base.specs.declared.ids.TypeId.{TypeId}
use Rattle.terra_types.specs.Opening.{uint8, int64, unit}
use Rattle.lua_value.specs.declared.primitive.Primitive.{Primitive}
use Rattle.lua_value.specs.declared.primitive.Primitive.TheVariants.{PutByte, Write, Alloc}
use Rattle.exotype.specs.Types.{pointer_id, with_pointer}
use Rattle.check_model.specs.Calls as models
use Rattle.check_model.specs.Plans.{BodyPlan}
use Rattle.check_expr.specs.Kept.{keeps_then}
use Rattle.check_expr.specs.Steps.{with_stage}
use Rattle.check_expr.proofs.Doing.{moved}
use Rattle.tl_base.proofs.Results.{carried, on-ok}
use Rattle.check_expr.proofs.calls.call_primitive.Goals as goal

pub returns-in_ok-types-in-PutByte-clause-means : goal.returns-in_ok-types-in-PutByte-clause-means
returns-in_ok-types-in-PutByte-clause-means c = carried _ _ c.call_by.result c.call_by.ensures.means (λ step g left.
    let a = c.args in
    let n = a.node in
    let fs = a.frames.now.items in
    let fs2 = c.call_by.new.frames.items in
    let w = a.typing.now in
    let w2 = c.call_by.new.typing in
    let types = c.in_ok-types-in-PutByte.types in
    let plan : Primitive → BodyPlan = λ p. models.call_primitive p a.operands n.at a.fitting n.source n.site in
    let by : Primitive → List TypeId → BodyPlan = λ p ts. models.call_by p ts unit a.operands n.at a.fitting n.source
    n.site in
    moved fs fs2 (plan a.primitive) (by a.primitive types) w w w2 left left step
    (ap plan c.in-PutByte.is ∙ ap (by PutByte) (sym c.in_ok-types-in-PutByte.ensures)
    ∙ ap (λ (p : Primitive). by p types) (sym c.in-PutByte.is)) refl
    (g left))

pub returns-in_ok-types-in-Write-clause-means : goal.returns-in_ok-types-in-Write-clause-means
returns-in_ok-types-in-Write-clause-means c = carried _ _ c.call_by-in-Write.result c.call_by-in-Write.ensures.means (λ step g left.
    let a = c.args in
    let n = a.node in
    let fs = a.frames.now.items in
    let fs2 = c.call_by-in-Write.new.frames.items in
    let w = a.typing.now in
    let v = c.pointer_to.new.typing in
    let w2 = c.call_by-in-Write.new.typing in
    let types = c.in_ok-types-in-Write.types in
    let plan : Primitive → BodyPlan = λ p. models.call_primitive p a.operands n.at a.fitting n.source n.site in
    let by : Primitive → List TypeId → BodyPlan = λ p ts. models.call_by p ts unit a.operands n.at a.fitting n.source
    n.site in
    moved fs fs2 (plan a.primitive) (plan Write) w w w2 left left step (ap plan c.in-Write.is) refl
    (moved fs fs2 (by Write (pointer_id w.stage uint8 ∷ int64 ∷ [])) (by a.primitive types)
    (with_stage w (with_pointer w.stage uint8)) v w2 left left step
    (ap (λ (t : TypeId). by Write (t ∷ int64 ∷ [])) (sym c.in_ok-bytes-in-Write.ensures.id)
    ∙ ap (by Write) (sym c.in_ok-types-in-Write.ensures) ∙ ap (λ (p : Primitive). by p types) (sym c.in-Write.is))
    (sym c.in_ok-bytes-in-Write.ensures.ok)
    (g left)))

pub returns-in_ok-types-in-Write-clause-kept : goal.returns-in_ok-types-in-Write-clause-kept
returns-in_ok-types-in-Write-clause-kept c = on-ok c.call_by-in-Write.result c.call_by-in-Write.ensures.kept (λ g.
    keeps_then c.args.typing.now c.pointer_to.new.typing c.call_by-in-Write.new.typing
    c.in_ok-bytes-in-Write.ensures.kept
    g)

pub returns-in_ok-types-in-Alloc-clause-means : goal.returns-in_ok-types-in-Alloc-clause-means
returns-in_ok-types-in-Alloc-clause-means c = carried _ _ c.call_by-in-Alloc.result c.call_by-in-Alloc.ensures.means (λ step g left.
    let a = c.args in
    let n = a.node in
    let fs = a.frames.now.items in
    let fs2 = c.call_by-in-Alloc.new.frames.items in
    let w = a.typing.now in
    let v = c.pointer_to-in-Alloc.new.typing in
    let w2 = c.call_by-in-Alloc.new.typing in
    let bytes = c.in_ok-bytes-in-Alloc.bytes in
    let types = c.in_ok-types-in-Alloc.types in
    let plan : Primitive → BodyPlan = λ p. models.call_primitive p a.operands n.at a.fitting n.source n.site in
    let by : Primitive → List TypeId → TypeId → BodyPlan =
    λ p ts of. models.call_by p ts of a.operands n.at a.fitting n.source n.site in
    moved fs fs2 (plan a.primitive) (plan Alloc) w w w2 left left step (ap plan c.in-Alloc.is) refl
    (moved fs fs2 (by Alloc (int64 ∷ []) (pointer_id w.stage uint8)) (by a.primitive types bytes)
    (with_stage w (with_pointer w.stage uint8)) v w2 left left step
    (ap (by Alloc (int64 ∷ [])) (sym c.in_ok-bytes-in-Alloc.ensures.id)
    ∙ ap (λ (ts : List TypeId). by Alloc ts bytes) (sym c.in_ok-types-in-Alloc.ensures)
    ∙ ap (λ (p : Primitive). by p types bytes) (sym c.in-Alloc.is))
    (sym c.in_ok-bytes-in-Alloc.ensures.ok)
    (g left)))

pub returns-in_ok-types-in-Alloc-clause-kept : goal.returns-in_ok-types-in-Alloc-clause-kept
returns-in_ok-types-in-Alloc-clause-kept c = on-ok c.call_by-in-Alloc.result c.call_by-in-Alloc.ensures.kept (λ g.
    keeps_then c.args.typing.now c.pointer_to-in-Alloc.new.typing c.call_by-in-Alloc.new.typing
    c.in_ok-bytes-in-Alloc.ensures.kept
    g)
