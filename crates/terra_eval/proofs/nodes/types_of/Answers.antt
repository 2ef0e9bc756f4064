use Rattle.std.proofs.Common.{◌∙◌, ◌∷◌, ◌+◌, sym, ap, drop, arith}
use Rattle.tl_base.specs.declared.ids.TermId.{TermId}
use Rattle.tl_base.specs.declared.ids.TypeId.{TypeId}
use Rattle.terra_meaning.specs.Meaning.{types_of}
use Rattle.terra_eval.specs.Trees.{list_before}
use Rattle.terra_eval.proofs.Turns.{pushed, ended}
use Rattle.terra_eval.proofs.Putting.{types-next, types-none}
use Rattle.terra_eval.proofs.nodes.types_of.Goals as goal

pub loop-node-preserved : goal.loop-node-preserved
loop-node-preserved c =
    let store = c.args.store.now in
    let nodes = c.args.nodes.now in
    let i = c.loop-node.node-index in
    let none : TermId = record { 0 = 0 } in
    let rest = types_of (list_before store c.args.below (drop (i + 1) nodes)) in
    pushed (types_of (list_before store c.args.below nodes)) c.loop-node.types.items (types_of (list_before store c.args.below (drop i nodes))) rest _ c.type_of.result
    c.loop-node.invariant (types-next store c.args.below nodes i none c.loop-node-test.true ∙ ap (λ (t : TypeId). t ∷ rest) (sym c.type_of.ensures)) c.in_ok-push.ensures.items

pub returns : goal.returns
returns c =
    let store = c.args.store.now in
    ended (types_of (list_before store c.args.below c.args.nodes.now)) c.loop-node.types.items (types_of (list_before store c.args.below (drop c.loop-node.node-index c.args.nodes.now)))
    c.loop-node.invariant (types-none store c.args.below c.args.nodes.now c.loop-node.node-index (omega arith))
