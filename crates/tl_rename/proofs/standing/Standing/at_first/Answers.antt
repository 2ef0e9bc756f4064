use Rattle.std.proofs.Common.{◌≡◌, ap, ◌∙◌, arith, replicate, None}
use Rattle.tl_rename.proofs.Giving.{at_first_is}
use Rattle.tl_rename.proofs.standing.Standing.at_first.Goals as goal

pub returns : goal.returns
returns c =
    let e : c.loop-node._node ≡ c.args.root.0 = omega (arith, c.loop-node-test.false, c.loop-node.auto._node-end) in
    c.in_ok-push-2.ensures.items
    ∙ at_first_is c.args.root c.in_ok-len.len c.loop-node.scopes.items c.in_ok-len.ensures (c.loop-node.invariant ∙ ap (λ k. replicate k None) e)
