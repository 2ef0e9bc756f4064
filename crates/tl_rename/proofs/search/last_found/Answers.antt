use Rattle.std.proofs.Common.{◌≡◌, ◌-◌, suc, sym, ◌∙◌, arith, get_or}
use Rattle.tl_base.specs.declared.ids.NodeId.{NodeId}
use Rattle.tl_tree.specs.Arena.{items_of}
use Rattle.tl_tree.specs.Scopes.{has_name}
use Rattle.tl_rename.proofs.Looking.{here, placed}
use Rattle.tl_rename.proofs.search.last_found.Goals as goal

pub returns-then-has_name : goal.returns-then-has_name
returns-then-has_name c =
    let m = c.loop-at.at - 1 in
    let e : c.loop-at.at ≡ suc m = omega (arith, c.loop-at-test.true) in
    let none : NodeId = record { 0 = 0 } in
    placed c.args.depth c.in-Ok.position m (get_or c.args.declarations.now m none) c.in-Ok.ensures.1
    ∙ sym (here (has_name (items_of c.args.tree.now) c.args.name.now) c.args.depth c.loop-at.at m c.args.declarations.now none e c.loop-at.invariant.0
    (sym c.has_name.ensures ∙ c.if-has_name.true) c.loop-at.invariant.1)
