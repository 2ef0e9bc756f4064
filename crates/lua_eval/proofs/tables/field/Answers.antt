use Rattle.std.proofs.Common.{refl, ap}
use Rattle.lua_eval.specs.declared.tables.FieldKind.{FieldKind}
use Rattle.lua_eval.specs.declared.tables.FieldKind.TheVariants.{Listed}
use Rattle.lua_eval.specs.Fields.{field_by}
use Rattle.lua_eval.proofs.Below.{moved}
use Rattle.tl_base.proofs.Results.{if-ok}
use Rattle.lua_eval.proofs.tables.field.Goals as goal

pub returns-in-Listed : goal.returns-in-Listed
returns-in-Listed c =
    let a = c.args in
    record {
      means = if-ok c.listed_field.result c.listed_field.ensures.means (λ step it. λ items s left.
          moved items a.frames.now.items c.listed_field.new.frames.items
          (field_by items a.kind a.node a.frame) (field_by items Listed a.node a.frame) s s s left left step
          (ap (λ (k : FieldKind). field_by items k a.node a.frame) c.in-Listed.is) refl (it items s left));
    }
