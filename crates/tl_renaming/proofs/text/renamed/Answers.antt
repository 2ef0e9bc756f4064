use Rattle.std.proofs.Common.{◌≡◌, ◌++◌, ap, ◌∙◌, arith}
use Rattle.tl_tree.specs.Arena.{items_of}
use Rattle.tl_tree.specs.Nodes.{item_of}
use Rattle.tl_renaming.specs.Renamed.{letters, renamed}
use Rattle.tl_renaming.specs.Passes.{number_in}
use Rattle.tl_renaming.proofs.Writing.{number_is, written_next, written_last}
use Rattle.tl_renaming.proofs.text.renamed.Goals as goal

pub loop-k-preserved : goal.loop-k-preserved
loop-k-preserved c =
    let items = items_of c.args.tree.now in
    let names = c.in_ok-names.names in
    let k = c.loop-k.k in
    written_next items (letters items) c.args.text.now c.loop-k.at c.in_ok-at.at k (item_of c.node.result.now)
    (number_in names.numbers.items names.slots k) c.loop-k.out c.push_node.new.out (renamed items c.args.text.now)
    (number_is items names.numbers.items names.slots k c.in_ok-names.ensures.numbers c.in_ok-names.ensures.binders)
    c.node.ensures (c.in_ok-at.ensures.written (letters items) c.in_ok-names.ensures.prefix) c.in_ok-at.ensures.next c.loop-k.invariant

pub returns : goal.returns
returns c =
    let items = items_of c.args.tree.now in
    let text = c.args.text.now in
    let e : c.loop-k.k ≡ c.in_ok-count.count = omega (arith, c.loop-k-test.false, c.loop-k.auto.k-end) in
    written_last items (letters items) text c.loop-k.at c.loop-k.k c.loop-k.out c.push_all.new.self (renamed items text)
    (e ∙ c.in_ok-count.ensures)
    (c.in_ok-push_all.ensures.ok ∙ ap (λ l. c.loop-k.out ++ l) c.bytes_between.ensures) c.loop-k.invariant
