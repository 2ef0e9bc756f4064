use Rattle.std.proofs.Common.{rules, ◌≡◌, suc, ◌+◌, ◌-◌, None, sym, ap, ◌∙◌, arith, length}
use Rattle.tl_tree.specs.Arena.{items_of}
use Rattle.tl_tree.specs.Scopes as scopes
use Rattle.tl_rename.proofs.Looking.{found_around}
use Rattle.tl_rename.proofs.search.found_from.Goals as goal

pub loop-owners-preserved : goal.loop-owners-preserved
loop-owners-preserved c =
    let items = items_of c.args.tree.now in
    let asked = scopes.has_name items c.args.name.now in
    let m = c.loop-owners.owners - 1 in
    let e : c.loop-owners.owners ≡ suc m = omega (arith, c.loop-owners-test.true) in
    let none : c.in_ok-found.found ≡ None = search rules in
    let next : c.in-Some-checked_add.outwards ≡ c.loop-owners.depth + 1 = search rules in (
      found_around items c.args.standing.now asked c.loop-owners.owners m c.loop-owners.depth c.in-Some-checked_add.outwards c.in-Some.here c.in_ok-found.found
          (scopes.found_from (length c.args.standing.now) items c.args.standing.now asked 0 c.args.scope) c.scope-from.result e
          c.in_ok-found.ensures.found none next c.scope-from.ensures
          (ap (scopes.found_from c.loop-owners.owners items c.args.standing.now asked c.loop-owners.depth) (sym c.in-Some.is) ∙ c.loop-owners.invariant.0),
      c.in_ok-found.ensures.indexed,
    )
