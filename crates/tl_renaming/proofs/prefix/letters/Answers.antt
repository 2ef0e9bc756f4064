use Rattle.std.proofs.Common.{◌≡◌, ◌<◌, suc, true, length, sym, ◌∙◌, arith}
use Rattle.tl_tree.specs.Arena.{items_of}
use Rattle.tl_tree.specs.Nodes.{last_of}
use Rattle.tl_renaming.specs.Renamed.{is_taken, letters}
use Rattle.tl_renaming.proofs.Ordered.{set_at}
use Rattle.tl_renaming.proofs.Prefixes.{free_next}
use Rattle.tl_renaming.proofs.prefix.letters.Goals as goal

pub loop-count-preserved : goal.loop-count-preserved
loop-count-preserved c =
    let items = items_of c.args.tree.now in
    let count = c.loop-count.count in
    let taken = c.in_ok-taken.taken.items in
    let lt : count < length taken = omega (arith, c.loop-count-test.true, c.len.ensures) in
    let few : count < suc (suc (last_of items).0) = omega (arith, lt, c.in_ok-taken.ensures.len) in
    let is : is_taken items count ≡ true =
    sym (c.in_ok-taken.ensures.taken count lt) ∙ set_at taken count c.index.result.now lt c.index.ensures c.if-index.true in
    free_next items count (letters items) is few c.loop-count.invariant
