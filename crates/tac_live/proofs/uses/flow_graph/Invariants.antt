use Rattle.std.proofs.Common.{◌≡◌, take, map}
use Rattle.tac_form.specs.Graph.{block_of}
use Rattle.tac_live.proofs.uses.flow_graph.Given as goal

abbrev pub invariant-loop-block : goal.invariant-loop-block
invariant-loop-block l = l.graph.items ≡ map block_of (take l.block-index l.code.blocks)
