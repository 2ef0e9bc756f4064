use Rattle.std.proofs.Common.{◌≡◌, ◌-◌, suc, sym, ◌∙◌, arith}
use Rattle.tl_tree.specs.Arena.{items_of}
use Rattle.tl_tree.specs.Scopes.{standing_of}
use Rattle.tl_rename.specs.Lists.{within_of}
use Rattle.tl_rename.proofs.Giving.{given_next, none_next, none_left, from_first}
use Rattle.tl_rename.proofs.standing.standing_of.Goals as goal

pub loop-k-init : goal.loop-k-init
loop-k-init c = from_first (items_of c.args.tree.now) c.root-root.result c.in_ok-k.k c.in_ok-standing.standing c.root-root.ensures c.in_ok-k.ensures c.in_ok-standing.ensures

pub loop-k-preserved-in-Continue-branch-4 : goal.loop-k-preserved-in-Continue-branch-4
loop-k-preserved-in-Continue-branch-4 c =
    let m = c.loop-k.k - 1 in
    let e : c.loop-k.k ≡ suc m = omega (arith, c.loop-k-test.true) in
    given_next (items_of c.args.tree.now) c.loop-k.k m c.loop-k.standing c.give_parts.new.standing (standing_of (items_of c.args.tree.now))
    c.in-Some.scope (within_of c.read.new.self) e (sym c.scope.ensures ∙ c.in-Some.is) c.in_ok-read.ensures c.in_ok-give_parts.ensures c.loop-k.invariant

pub loop-k-preserved : goal.loop-k-preserved
loop-k-preserved c =
    let m = c.loop-k.k - 1 in
    let e : c.loop-k.k ≡ suc m = omega (arith, c.loop-k-test.true) in
    none_next (items_of c.args.tree.now) c.loop-k.k m c.loop-k.standing (standing_of (items_of c.args.tree.now)) e (sym c.scope.ensures ∙ c.in_default.is) c.loop-k.invariant

pub returns : goal.returns
returns c =
    none_left (items_of c.args.tree.now) c.loop-k.k c.loop-k.standing (standing_of (items_of c.args.tree.now)) (omega (arith, c.loop-k-test.false)) c.loop-k.invariant
