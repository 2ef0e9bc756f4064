use Rattle.std.proofs.Common.{◌≡◌, suc, arith, ◌∙◌}
use Rattle.tl_tree.specs.Arena.{items_of}
use Rattle.tl_tree.specs.Nodes.{last_of}
use Rattle.tl_renaming.proofs.Prefixes.{just_taken, taken_length}
use Rattle.tl_renaming.proofs.prefix.taken_counts.Goals as goal

pub returns-clause-taken : goal.returns-clause-taken
returns-clause-taken c =
    let e : c.loop-k.k ≡ c.in_ok-count.count = omega (arith, c.loop-k-test.false, c.loop-k.auto.k-end) in
    just_taken (items_of c.args.tree.now) c.loop-k.k c.in-Some.len c.loop-k.taken.items c.in_ok-taken.taken.items (e ∙ c.in_ok-count.ensures)
    c.loop-k.invariant c.in_ok-taken.ensures

pub returns-clause-len : goal.returns-clause-len
returns-clause-len c =
    let e : c.loop-k.k ≡ c.in_ok-count.count = omega (arith, c.loop-k-test.false, c.loop-k.auto.k-end) in
    let l : c.in-Some.len ≡ suc (suc (last_of (items_of c.args.tree.now)).0) = omega (arith, c.in_ok-count.ensures, c.in-Some.ensures) in
    taken_length (items_of c.args.tree.now) c.loop-k.k c.in-Some.len c.loop-k.taken.items c.in_ok-taken.taken.items (e ∙ c.in_ok-count.ensures)
    c.loop-k.invariant c.in_ok-taken.ensures
    ∙ l
