-- What a tree of the code holds.
use Rattle.std.specs.Prelude.{List, map}
use Rattle.tl_base.specs.declared.place.Place.{Place}
use Rattle.tl_tree.specs.declared.tree.Tree as trees
use Rattle.tl_tree.specs.Item.{Item}
use Rattle.tl_tree.specs.Nodes.{item_of}

-- the nodes of the tree
abbrev pub items_of : trees.Tree → List Item
items_of t = map item_of t.nodes.items

-- the place of the end of the text
abbrev pub end_of : trees.Tree → Place
end_of t = t.finish
