-- That what `rename` gives of a text reads, binds alike, has its tokens where the text has them, and is UTF-8 where the text is.
use Rattle.std.specs.Prelude.{◌≡◌, ℕ, ◌≤◌, List, [], ◌∷◌, ◌++◌, length, map}
use Rattle.std.specs.Str.{IsUtf8}
use Rattle.tl_base.specs.declared.ids.NodeId.{NodeId}
use Rattle.tl_base.specs.declared.place.Place.{Place}
use Rattle.tl_lex.specs.declared.TheConstants.{LONGEST_TEXT}
use Rattle.tl_tree.specs.Item as kept
use Rattle.tl_tree.specs.Nodes.{item_at, lay}
use Rattle.tl_tree.specs.Tree.{Tree}
use Rattle.tl_tree.specs.Tokens.{tokens_of, finish_of}
use Rattle.tl_tree.specs.Texts.{Reads}
use Rattle.tl_tree.specs.Code.{Items}
use Rattle.tl_tree.specs.Binding.{Alike}
use Rattle.tl_renaming.specs.Call.{IsRenaming}

-- No name of the text has more than 248 bytes. A name may have 255, and a new one is letters `v` and a number: where no name has more than
-- 248, there are at most 248 letters, and a number has at most seven digits in a text of at most `LONGEST_TEXT` bytes.
abbrev pub HaveShortNames : Items → Type 0
HaveShortNames items =
    (n : NodeId) (place : Place) (offset : ℕ) (text : List ℕ) → item_at items n ≡ kept.Name place offset text → length text ≤ 248

-- What `rename` gives of a text has a tree.
abbrev pub RenamedTextsRead : Type 0
RenamedTextsRead =
    (text other : List ℕ) (renaming : IsRenaming text other) → length text ≤ LONGEST_TEXT → HaveShortNames (lay renaming.tree [])
    → (tree : Tree) × Reads other tree

-- It binds alike.
abbrev pub RenamedTextsAreAlike : Type 0
RenamedTextsAreAlike =
    (text other : List ℕ) (renaming : IsRenaming text other) → length text ≤ LONGEST_TEXT → HaveShortNames (lay renaming.tree [])
    → Alike text other

-- the places of a text's tokens, and of its end
abbrev pub places : List ℕ → List Place
places text = map (λ t. t.place) (tokens_of text) ++ finish_of text ∷ []

-- Each token of it stands where it stood, and so does its end.
abbrev pub RenamedTextsHaveSamePlaces : Type 0
RenamedTextsHaveSamePlaces =
    (text other : List ℕ) (renaming : IsRenaming text other) → length text ≤ LONGEST_TEXT → HaveShortNames (lay renaming.tree [])
    → places other ≡ places text

-- It is UTF-8 where the text is.
abbrev pub RenamedTextsAreUtf8 : Type 0
RenamedTextsAreUtf8 = (text other : List ℕ) → IsRenaming text other → IsUtf8 text → IsUtf8 other
