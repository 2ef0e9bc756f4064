use Rattle.std.proofs.Common.{◌≡◌, false, replicate, sym, ap, ◌∙◌, arith}
use Rattle.tl_tree.specs.Arena.{items_of}
use Rattle.tl_renaming.proofs.Marking.{just_declarations}
use Rattle.tl_renaming.proofs.declarations.declarations.Goals as goal

pub returns : goal.returns
returns c =
    let e : c.loop-k.k ≡ c.in_ok-count.count = omega (arith, c.loop-k-test.false, c.loop-k.auto.k-end) in
    just_declarations (items_of c.args.tree.now) c.loop-k.k c.loop-k.marks.items c.in_ok-marks.marks.items (e ∙ c.in_ok-count.ensures)
    c.loop-k.invariant (c.in_ok-marks.ensures ∙ ap (λ k. replicate k false) (sym e))
