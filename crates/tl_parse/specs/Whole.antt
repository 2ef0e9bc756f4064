-- What the parser answers of a whole text.
use Rattle.std.specs.Prelude.{◌≡◌, ℕ, List, [], Result, Ok, Err}
use Rattle.tl_base.specs.declared.place.Place.{Place}
use Rattle.tl_lex.specs.declared.SyntaxKind.{SyntaxKind}
use Rattle.tl_tree.specs.Tokens.{finish_of}
use Rattle.tl_tree.specs.Tree.{Tree}
use Rattle.tl_tree.specs.Nodes.{lay}
use Rattle.tl_tree.specs.Arena.{items_of, end_of}
use Rattle.tl_tree.specs.Texts.{Reads, Refuses}
use Rattle.tl_tree.specs.declared.tree.Tree as trees
use Rattle.tl_parse.specs.declared.error.SyntaxError.{SyntaxError}
use Rattle.tl_parse.specs.declared.error.SyntaxError.TheVariants as errors

-- The result is the tree of a text that ends at this place, unless memory ran out: its nodes are those of the tree, in
-- their order.
abbrev pub GivesTree : Tree → Place → Result trees.Tree SyntaxError → Type 0
GivesTree tree finish (Ok t) = (items_of t ≡ lay tree []) × (end_of t ≡ finish)
GivesTree tree finish (Err e) = e ≡ errors.NoMemory

-- The result is the refusal, unless memory ran out.
abbrev pub GivesRefusal : SyntaxKind → Place → Result trees.Tree SyntaxError → Type 0
GivesRefusal kind place (Ok t) = ⊥
GivesRefusal kind place (Err (errors.Refused k p)) = (k ≡ kind) × (p ≡ place)
GivesRefusal kind place (Err errors.NoMemory) = Unit {0}

-- A tree comes only of a text that has it, and a refusal only of one that is refused so.
abbrev pub ComesOf : List ℕ → Result trees.Tree SyntaxError → Type 0
ComesOf text (Ok t) = (tree : Tree) × Reads text tree × (items_of t ≡ lay tree []) × (end_of t ≡ finish_of text)
ComesOf text (Err (errors.Refused kind place)) = Refuses text kind place
ComesOf text (Err errors.NoMemory) = Unit {0}
