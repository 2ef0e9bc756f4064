-- The last declarations of names, by their owners.
use Rattle.std.specs.Prelude.{◌≡◌, ℕ, Bool, List, Option, ◌&&◌, nat_eq, bytes_eq, take, get_or}
use Rattle.std.specs.Map.{lookup}
use Rattle.tl_tree.specs.Code.{Items}
use Rattle.tl_tree.specs.Scopes.{Found, has_name, last_found, declarations}

-- an owner, and a name
abbrev pub Key : Type 0
Key = ℕ × List ℕ

-- of each what was found
abbrev pub Entries : Type 0
Entries = List (Key × Found)

abbrev pub is_key : Key → Key → Bool
is_key key other = nat_eq key.0 other.0 && bytes_eq key.1 other.1

abbrev pub latest_in : Entries → ℕ → List ℕ → Option Found
latest_in entries owner name = lookup (is_key (owner, name)) entries

-- By owner and name the last of those declarations that the owner was read up to.
abbrev pub IsIndexed : Items → Entries → List ℕ → Type 0
IsIndexed items entries reached =
    (owner : ℕ) (name : List ℕ)
    → latest_in entries owner name
    ≡ last_found (has_name items name) 0 0 (take (get_or reached owner 0) (declarations items (record { 0 = owner })))
