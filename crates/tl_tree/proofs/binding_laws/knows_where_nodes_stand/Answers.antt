use Rattle.tl_tree.proofs.Known.{knows_where_nodes_stand}
use Rattle.tl_tree.proofs.binding_laws.knows_where_nodes_stand.Goals as goal

pub returns : goal.returns
returns c = knows_where_nodes_stand c.args.text.now
