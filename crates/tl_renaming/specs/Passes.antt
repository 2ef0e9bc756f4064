-- What each pass over the nodes of a tree comes to.
use Rattle.std.specs.Prelude.{◌≡◌, ℕ, ◌+◌, ◌<◌, Bool, true, false, if◌then◌else◌}
use Rattle.std.specs.Prelude.{List, [], ◌∷◌, ◌++◌, length, drop, get_or, slice_set, Option, Some, None}
use Rattle.std.specs.List.{prefix_len}
use Rattle.std.specs.Prelude.{nat_eq}
use Rattle.tl_base.specs.declared.ids.NodeId.{NodeId}
use Rattle.tl_tree.specs.Item.{Item}
use Rattle.tl_tree.specs.Item as kept
use Rattle.tl_tree.specs.Nodes.{item_at}
use Rattle.tl_tree.specs.Code.{Items}
use Rattle.tl_tree.specs.Scopes.{Found, binder, is_name}
use Rattle.tl_renaming.specs.Renamed.{is_declaration, number_of, or_found, is_taken, are_digits, bytes_between, new_name}

-- ---- the declarations

-- those of some nodes that are names are marked
abbrev pub marked : Items → List NodeId → List Bool → List Bool
marked items [] marks = marks
marked items (d ∷ ds) marks = marked items ds (if is_name (item_at items d) then slice_set marks d.0 true else marks)

-- Just the declarations are marked.
abbrev pub AreDeclarations : Items → List Bool → Type 0
AreDeclarations items marks = (n : ℕ) → get_or marks n false ≡ is_declaration items n

-- the numbers of what is marked, behind those given so far
abbrev pub numbers_from : ℕ → List Bool → List (Option ℕ)
numbers_from count [] = []
numbers_from count (true ∷ marks) = Some (count + 1) ∷ numbers_from (count + 1) marks
numbers_from count (false ∷ marks) = None ∷ numbers_from count marks

-- The numbers are those of the declarations.
abbrev pub AreNumbers : Items → List (Option ℕ) → Type 0
AreNumbers items numbers = (n : ℕ) → get_or numbers n None ≡ number_of items n

-- The binders are those of the uses.
abbrev pub AreBinders : Items → List (Option Found) → Type 0
AreBinders items binders = (n : NodeId) → get_or binders n.0 None ≡ binder items n

-- the number of what is found
abbrev pub number_at : List (Option ℕ) → Option Found → Option ℕ
number_at numbers None = None
number_at numbers (Some found) = get_or numbers found.declaration.0 None

-- the number of a node, as a declaration or else as a use
abbrev pub number_in : List (Option ℕ) → List (Option Found) → ℕ → Option ℕ
number_in numbers binders n = or_found (get_or numbers n None) (number_at numbers (get_or binders n None))

-- ---- the prefix

-- the letters `v` that a name begins with
abbrev pub leading : List ℕ → ℕ
leading name = prefix_len (λ c. nat_eq c 118) name

-- the count of letters that a name takes is marked
abbrev pub taken_by_name : List ℕ → List Bool → List Bool
taken_by_name name taken = if are_digits (drop (leading name) name) then slice_set taken (leading name) true else taken

abbrev pub taken_by : Item → List Bool → List Bool
taken_by (kept.Name place offset name) taken = taken_by_name name taken
taken_by _ taken = taken

-- Of so many counts just those that are taken are marked.
abbrev pub AreTaken : Items → List Bool → Type 0
AreTaken items taken = (count : ℕ) → count < length taken → get_or taken count false ≡ is_taken items count

-- ---- the text

-- what is written at a name of this number that stands at an offset, where the text was written up to another
abbrev pub written_for : Option ℕ → (letters : ℕ) → List ℕ → (at offset : ℕ) → List ℕ
written_for None letters text at offset = []
written_for (Some k) letters text at offset = bytes_between text at offset ++ new_name letters k

-- what is written at a node
abbrev pub written : Option ℕ → (letters : ℕ) → List ℕ → (at : ℕ) → Item → List ℕ
written number letters text at (kept.Name place offset name) = written_for number letters text at offset
written number letters text at _ = []

-- where the text goes on behind a name, which is replaced or not
abbrev pub goes_on_for : Option ℕ → (at behind : ℕ) → ℕ
goes_on_for None at behind = at
goes_on_for (Some k) at behind = behind

-- where the text goes on behind a node
abbrev pub goes_on : Option ℕ → (at : ℕ) → Item → ℕ
goes_on number at (kept.Name place offset name) = goes_on_for number at (offset + length name)
goes_on number at _ = at
