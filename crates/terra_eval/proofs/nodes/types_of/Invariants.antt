use Rattle.std.proofs.Common.{◌≡◌, ◌++◌, drop}
use Rattle.terra_meaning.specs.Meaning.{types_of}
use Rattle.terra_eval.specs.Trees.{list_before}
use Rattle.terra_eval.proofs.nodes.types_of.Given as goal

-- the types so far, and those of the nodes that are left
abbrev pub invariant-loop-node : goal.invariant-loop-node
invariant-loop-node l = types_of (list_before l.store l.below l.nodes) ≡ l.types.items ++ types_of (list_before l.store l.below (drop l.node-index l.nodes))
