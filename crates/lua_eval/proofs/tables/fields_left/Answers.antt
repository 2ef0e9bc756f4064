use Rattle.std.proofs.Common.{List, ◌∷◌, refl, ap, ◌∙◌}
use Rattle.tl_base.specs.declared.ids.NodeId.{NodeId}
use Rattle.tl_tree.specs.Arena.{items_of}
use Rattle.tl_tree.specs.Item.{Item}
use Rattle.lua_model.specs.Tables.{fields}
use Rattle.lua_eval.specs.declared.frame.TableFrame.{TableFrame}
use Rattle.lua_eval.specs.Fields.{kind_of_field}
use Rattle.lua_eval.proofs.Below.{moved}
use Rattle.lua_eval.proofs.Fielding.{fields_goes}
use Rattle.tl_base.proofs.Results.{if-ok}
use Rattle.lua_eval.proofs.tables.fields_left.Goals as goal

pub returns-in-Some : goal.returns-in-Some
returns-in-Some c =
    let a = c.args in
    let items = items_of a.tree.now in
    let fs = a.frames.now.items in
    let fs2 = c.field.new.frames.items in
    let n = c.in-Some.first.now in
    let more = c.in-Some.more in
    let f : TableFrame = record { table = a.table; next = a.next; rest = more; place = a.place; scope = a.scope } in
    record {
      means = if-ok c.field.result c.field.ensures.means (λ step it. λ s left.
          moved items fs fs2 (fields items a.rest.now a.table a.next a.place a.scope) (fields items (n ∷ more.now) a.table a.next a.place a.scope)
          s s s left left step
          (ap (λ (ns : List NodeId). fields items ns a.table a.next a.place a.scope) c.in-Some.ensures.cases.0) refl
          (fields_goes items fs fs2 n c.field_kind-kind.result f s s left left step
          (c.field_kind-kind.ensures ∙ ap (λ (item : Item). kind_of_field item) c.node.ensures) (it items s left)));
    }
