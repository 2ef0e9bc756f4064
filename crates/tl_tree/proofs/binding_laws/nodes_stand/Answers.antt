use Rattle.tl_tree.specs.Arena.{items_of}
use Rattle.tl_tree.proofs.Standings.{nodes_stand}
use Rattle.tl_tree.proofs.binding_laws.nodes_stand.Goals as goal

pub returns : goal.returns
returns c = nodes_stand (items_of c.args.tree.now)
