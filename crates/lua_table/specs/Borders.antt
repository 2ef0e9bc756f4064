-- The border of a table, and the list that a table keeps beside its pairs.
use Rattle.std.specs.Prelude.{◌≡◌, ◌≢◌, ℕ, ◌+◌, ◌<◌, ◌≤◌, pos, false, List, length, slice_get, slice_index_or, Some}
use Rattle.std.specs.Map.{keys_of}
use Rattle.lua_value.specs.Numbers.{largest_size}
use Rattle.lua_value.specs.Values.{same_value}
use Rattle.lua_value.specs.declared.value.Value.{Value}
use Rattle.lua_value.specs.declared.value.Value.TheVariants.{Nil, Number}
use Rattle.lua_table.specs.Keys.{AreKeyed}
use Rattle.lua_table.specs.Pairs.{Pairs, value_in, value_at}

-- the values under 1 to n aren't nil
abbrev pub IsFull : Pairs → ℕ → Type 0
IsFull pairs n = (k : ℕ) → k < n → value_at pairs (k + 1) ≢ Nil

-- and the one after them is
pub record IsBorder (pairs : Pairs) (n : ℕ) : Type 0 where
  pub full : IsFull pairs n
  pub free : value_at pairs (n + 1) ≡ Nil

-- the place of the pair of each number from 1 on
abbrev pub AreListed : Pairs → List ℕ → Type 0
AreListed pairs listed = (i : ℕ) → i < length listed → slice_get (keys_of pairs) (slice_index_or listed i 0) ≡ Some (Number (pos (i + 1)))

-- a list of the places of numbers from 1 on, all of which have values
pub record AreFull (pairs : Pairs) (listed : List ℕ) : Type 0 where
  pub keyed : AreKeyed pairs
  pub small : length listed ≤ largest_size
  pub full : IsFull pairs (length listed)
  pub places : AreListed pairs listed

-- what holds of the pairs of every table, and of its list of places, which goes to the border
pub record AreTable (pairs : Pairs) (listed : List ℕ) : Type 0 where
  pub keyed : AreKeyed pairs
  pub small : length listed ≤ largest_size
  pub least : IsBorder pairs (length listed)
  pub places : AreListed pairs listed

-- the whole number from 1 up that a key is, and 0 for any other key
abbrev pub index_in : Value → ℕ
index_in (Number (pos n)) = n
index_in _ = 0

-- a value was put under a key of a table that had this border
pub record IsStored (pairs : Pairs) (border : ℕ) (key value : Value) : Type 0 where
  pub there : value_in pairs key ≡ value
  pub full : (k : ℕ) → k < border → same_value (Number (pos (k + 1))) key ≡ false → value_at pairs (k + 1) ≢ Nil
  pub free : same_value (Number (pos (border + 1))) key ≡ false → value_at pairs (border + 1) ≡ Nil
