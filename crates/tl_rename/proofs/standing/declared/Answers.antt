use Rattle.std.proofs.Common.{◌≡◌, ap, ◌∙◌, arith, suc}
use Rattle.tl_tree.specs.Arena.{items_of}
use Rattle.tl_rename.specs.Counted.{declared_below}
use Rattle.tl_rename.proofs.standing.declared.Goals as goal

pub returns : goal.returns
returns c =
    let e : c.loop-k.k ≡ c.in_ok-len.len = omega (arith, c.loop-k-test.false, c.loop-k.auto.k-end) in
    c.loop-k.invariant ∙ ap (declared_below (items_of c.args.tree.now)) (e ∙ c.in_ok-len.ensures ∙ ap (λ n. suc n.0) c.root.ensures)
