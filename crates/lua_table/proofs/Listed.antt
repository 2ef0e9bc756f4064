-- The list of places beside a table's pairs.
use Rattle.std.proofs.Common.{ℕ, zero, suc, ◌+◌, ◌-◌, ◌<◌, ◌≤◌, pos, ◌≡◌, Bool, true, false, cond, not, ltb, List, [], ◌∷◌, ◌++◌, length}
use Rattle.std.proofs.Common.{take, get_or, slice_get, Some, None, refl, sym, ◌∙◌, ap, subst, arith}
use Rattle.std.proofs.Math.ListN.{get_or-append}
use Rattle.std.proofs.Math.Seq.{get_or-append_seam}
use Rattle.std.proofs.lemmas.Bool.Decides.{nat_tests}
use Rattle.std.proofs.lemmas.List.{append-nil, length-append, length-take-le, get_or-take}
use Rattle.std.proofs.lemmas.Option.{slice_get_within}
use Rattle.std.specs.Map.{keys_of, values_of}
use Rattle.std.specs.List.{position, position_or_len, IsDistinct, AllByRecursion}
use Rattle.indexmap.specs.IndexMap.{insert_entry, set_value_at}
use Rattle.lua_value.specs.Numbers.{largest_size}
use Rattle.lua_value.specs.Values.{same_value, is_nil}
use Rattle.lua_value.specs.declared.value.Value.{Value}
use Rattle.lua_value.specs.declared.value.Value.TheVariants.{Nil, Number}
use Rattle.lua_value.proofs.Same.{same_value_equal, same_value_self}
use Rattle.lua_table.specs.Keys.{IsKey}
use Rattle.lua_table.specs.Borders.{IsFull, IsBorder, AreListed, AreFull, AreTable, IsStored, index_in}
use Rattle.lua_table.specs.Pairs.{Pairs, value_at, with_value}
use Rattle.lua_table.proofs.Border.{none_beyond}
use Rattle.lua_table.proofs.Stored.{keyed_stored, is_stored, emptied, kept_empty, kept_full, grown, key_at, stored_full, differs}
use Rattle.lua_table.proofs.Stored.{apart_test}

-- ---- places stay

keys_new : (key value : Value) (empty : Bool) → (more : List Value) × (keys_of (cond empty [] ((key, value) ∷ [])) ≡ more)
keys_new key value empty = (keys_of (cond empty [] ((key, value) ∷ [])), refl)

front_by : (p : Value × Value) (ps stored : Pairs) (value : Value) (t : Bool) → ((more : List Value) × (keys_of stored ≡ keys_of ps ++ more)) → (more : List Value) × (keys_of (cond t ((p.0, value) ∷ ps) (p ∷ stored)) ≡ p.0 ∷ (keys_of ps ++ more))
front_by p ps stored value true rest = ([], ap (λ l. p.0 ∷ l) (sym (append-nil (keys_of ps))))
front_by p ps stored value false rest = (rest.0, ap (λ l. p.0 ∷ l) rest.1)

keys_front : (ps : Pairs) (key value : Value) → (more : List Value) × (keys_of (with_value ps key value) ≡ keys_of ps ++ more)
keys_front [] key value = keys_new key value (is_nil value)
keys_front (p ∷ ps) key value = front_by p ps (with_value ps key value) value (same_value key p.0) (keys_front ps key value)

get_front : {X : Type 0} (xs ys : List X) (i : ℕ) (x : X) → slice_get xs i ≡ Some x → slice_get (xs ++ ys) i ≡ Some x
get_front [] ys i x at = absurd (cc at)
get_front (y ∷ xs) ys zero x at = at
get_front (y ∷ xs) ys (suc i) x at = get_front xs ys i x at

place_kept : (ps : Pairs) (key value : Value) (i : ℕ) (k : Value) → slice_get (keys_of ps) i ≡ Some k → slice_get (keys_of (with_value ps key value)) i ≡ Some k
place_kept ps key value i k at =
    let more = keys_front ps key value in
    ap (λ (keys : List Value). slice_get keys i) more.1 ∙ get_front (keys_of ps) more.0 i k at

listed_stored : (ps : Pairs) (key value : Value) (listed : List ℕ) → AreListed ps listed → AreListed (with_value ps key value) listed
listed_stored ps key value listed places i h = place_kept ps key value (get_or listed i 0) (Number (pos (i + 1))) (places i h)

-- ---- where keys stand

next_get : {X : Type 0} (x : X) (xs : List X) (n : ℕ) → slice_get (x ∷ xs) (1 + n) ≡ slice_get xs n
next_get x xs n = let e : 1 + n ≡ suc n = omega arith in rw e refl

new_by : (p : Value × Value) (ps stored : Pairs) (key value : Value) (t : Bool) → same_value key p.0 ≡ t → slice_get (keys_of stored) (position_or_len (same_value key) (keys_of ps)) ≡ Some key → slice_get (keys_of (cond t ((p.0, value) ∷ ps) (p ∷ stored))) (cond (not t) (1 + position_or_len (same_value key) (keys_of ps)) 0) ≡ Some key
new_by p ps stored key value true e rest = ap (λ k. Some k) (sym (same_value_equal key p.0 e))
new_by p ps stored key value false e rest = next_get p.0 (keys_of stored) (position_or_len (same_value key) (keys_of ps)) ∙ rest

inserted_at : (ps : Pairs) (key value : Value) → slice_get (keys_of (insert_entry same_value ps key value)) (position_or_len (same_value key) (keys_of ps)) ≡ Some key
inserted_at [] key value = refl
inserted_at (p ∷ ps) key value = new_by p ps (insert_entry same_value ps key value) key value (same_value key p.0) refl (inserted_at ps key value)

-- the place that an insertion gives is the key's
pub place_inserted : (ps : Pairs) (key value : Value) → is_nil value ≡ false → slice_get (keys_of (with_value ps key value)) (position_or_len (same_value key) (keys_of ps)) ≡ Some key
place_inserted ps key value full =
    ap (λ (stored : Pairs). slice_get (keys_of stored) (position_or_len (same_value key) (keys_of ps))) (sym (stored_full ps key value full)) ∙ inserted_at ps key value

found_by : {X : Type 0} (test : X → Bool) (x : X) (xs : List X) (t : Bool) → test x ≡ t → cond (not t) (1 + position_or_len test xs) 0 < length (x ∷ xs) → (position_or_len test xs < length xs → (y : X) × (slice_get xs (position_or_len test xs) ≡ Some y) × (test y ≡ true)) → (y : X) × (slice_get (x ∷ xs) (cond (not t) (1 + position_or_len test xs) 0) ≡ Some y) × (test y ≡ true)
found_by test x xs true e h rest = (x, refl, e)
found_by test x xs false e h rest =
    let r = rest (omega (arith, h)) in
    (r.0, next_get x xs (position_or_len test xs) ∙ r.1, r.2)

found_at : {X : Type 0} (test : X → Bool) (xs : List X) → position_or_len test xs < length xs → (x : X) × (slice_get xs (position_or_len test xs) ≡ Some x) × (test x ≡ true)
found_at test [] h = absurd (omega (arith, h))
found_at test (x ∷ xs) h = found_by test x xs (test x) refl h (found_at test xs)

some_by : (t : Bool) (a b place : ℕ) → t ≡ ltb a b → cond t (Some a) None ≡ Some place → (a < b) × (place ≡ a)
some_by true a b place e h = let same : a ≡ place = cc h in (grind (arith, nat_tests), sym same)
some_by false a b place e h = absurd (cc h)

-- a place that is found is the key's
pub place_there : (ps : Pairs) (key : Value) (place : ℕ) → position (same_value key) (keys_of ps) ≡ Some place → slice_get (keys_of ps) place ≡ Some key
place_there ps key place found =
    let at = position_or_len (same_value key) (keys_of ps) in
    let h = some_by (ltb at (length (keys_of ps))) at (length (keys_of ps)) place refl found in
    let x = found_at (same_value key) (keys_of ps) h.0 in
    ap (λ n. slice_get (keys_of ps) n) h.1 ∙ x.1 ∙ ap (λ k. Some k) (sym (same_value_equal key x.0 x.2))

pub listed_key : (ps : Pairs) (listed : List ℕ) (key : Value) (index : ℕ) → AreListed ps listed → index_in key ≡ index → 0 < index → index ≤ length listed → slice_get (keys_of ps) (get_or listed (index - 1) 0) ≡ Some key
listed_key ps listed key index places at above within =
    let i = index - 1 in
    let next : index_in key ≡ suc i = omega (arith, at, above) in
    let same : suc i ≡ i + 1 = omega arith in
    let low : i < length listed = omega (arith, above, within) in
    places i low ∙ ap (λ n. Some (Number (pos n))) (sym same) ∙ ap (λ k. Some k) (sym (key_at key i next))

-- ---- a key is found where it stands

distinct_from : (x : Value) (keys : List Value) (i : ℕ) (k : Value) → AllByRecursion (λ y. same_value x y ≡ false) keys → slice_get keys i ≡ Some k → same_value x k ≡ false
distinct_from x [] i k all at = absurd (cc at)
distinct_from x (y ∷ keys) zero k all at = let e : y ≡ k = cc at in ap (λ q. same_value x q) (sym e) ∙ all.0
distinct_from x (y ∷ keys) (suc i) k all at = distinct_from x keys i k all.1 at

first_place : (n : ℕ) (t : Bool) → t ≡ true → cond (not t) (1 + n) 0 ≡ 0
first_place n true e = refl
first_place n false e = absurd (cc e)

later_place : (n i : ℕ) (t : Bool) → t ≡ false → n ≡ i → cond (not t) (1 + n) 0 ≡ suc i
later_place n i true e same = absurd (cc e)
later_place n i false e same = omega (arith, same)

stands_at : (keys : List Value) (place : ℕ) (key : Value) → IsDistinct same_value keys → slice_get keys place ≡ Some key → position_or_len (same_value key) keys ≡ place
unfolding IsDistinct
stands_at [] place key d at = absurd (cc at)
stands_at (k ∷ keys) zero key d at =
    let e : k ≡ key = cc at in
    first_place (position_or_len (same_value key) keys) (same_value key k) (same_value_self key k (sym e))
stands_at (k ∷ keys) (suc i) key d at =
    let other : same_value k key ≡ false = distinct_from k keys i key d.0 at in
    later_place (position_or_len (same_value key) keys) i (same_value key k) (apart_test key k (λ e. differs k key other (sym e))) (stands_at keys i key d.1 at)

some_at : (a n place : ℕ) (t : Bool) → t ≡ ltb a n → a ≡ place → place < n → cond t (Some a) None ≡ Some place
some_at a n place true e same h = ap (λ m. Some m) same
some_at a n place false e same h = absurd (grind (arith, nat_tests))

keys_length : (ps : Pairs) → length (keys_of ps) ≡ length ps
keys_length [] = refl
keys_length (p ∷ ps) = ap (λ n. suc n) (keys_length ps)

-- the place of a listed number is where a search finds it
pub listed_found : (ps : Pairs) (listed : List ℕ) (key : Value) (index : ℕ) → IsDistinct same_value (keys_of ps) → AreListed ps listed → index_in key ≡ index → 0 < index → index ≤ length listed → position (same_value key) (keys_of ps) ≡ Some (get_or listed (index - 1) 0)
listed_found ps listed key index d places e above within =
    let place = get_or listed (index - 1) 0 in
    let at : slice_get (keys_of ps) place ≡ Some key = listed_key ps listed key index places e above within in
    some_at (position_or_len (same_value key) (keys_of ps)) (length (keys_of ps)) place (ltb (position_or_len (same_value key) (keys_of ps)) (length (keys_of ps))) refl (stands_at (keys_of ps) place key d at) (slice_get_within (keys_of ps) place key at)

-- and there is a pair there
pub listed_within : (ps : Pairs) (listed : List ℕ) (key : Value) (index : ℕ) → AreListed ps listed → index_in key ≡ index → 0 < index → index ≤ length listed → get_or listed (index - 1) 0 < length ps
listed_within ps listed key index places e above within =
    let place = get_or listed (index - 1) 0 in
    let h : place < length (keys_of ps) = slice_get_within (keys_of ps) place key (listed_key ps listed key index places e above within) in
    omega (arith, h, keys_length ps)

-- ---- a value is replaced at the place of its key

here_by : (p : Value × Value) (ps stored : Pairs) (value : Value) (t : Bool) → t ≡ true → (p.0, value) ∷ ps ≡ cond t ((p.0, value) ∷ ps) (p ∷ stored)
here_by p ps stored value true e = refl
here_by p ps stored value false e = absurd (cc e)

later_by : (p : Value × Value) (ps replaced stored : Pairs) (value : Value) (t : Bool) → t ≡ false → replaced ≡ stored → p ∷ replaced ≡ cond t ((p.0, value) ∷ ps) (p ∷ stored)
later_by p ps replaced stored value true e same = absurd (cc e)
later_by p ps replaced stored value false e same = ap (λ l. p ∷ l) same

pub replaced : (ps : Pairs) (key value : Value) (place : ℕ) → IsDistinct same_value (keys_of ps) → slice_get (keys_of ps) place ≡ Some key → set_value_at ps place value ≡ with_value ps key value
unfolding IsDistinct
replaced [] key value place d at = absurd (cc at)
replaced (p ∷ ps) key value zero d at =
    let e : p.0 ≡ key = cc at in
    here_by p ps (with_value ps key value) value (same_value key p.0) (same_value_self key p.0 (sym e))
replaced (p ∷ ps) key value (suc i) d at =
    let other : same_value p.0 key ≡ false = distinct_from p.0 (keys_of ps) i key d.0 at in
    later_by p ps (set_value_at ps i value) (with_value ps key value) value (same_value key p.0) (apart_test key p.0 (λ e. differs p.0 key other (sym e))) (replaced ps key value i d.1 at)

-- ---- tables

listed_take : (ps : Pairs) (listed : List ℕ) (m : ℕ) → m ≤ length listed → AreListed ps listed → AreListed ps (take m listed)
listed_take ps listed m h places i below =
    let e : length (take m listed) ≡ m = length-take-le m listed h in
    let low : i < m = omega (arith, e, below) in
    ap (λ n. slice_get (keys_of ps) n) (get_or-take m listed i 0 low) ∙ places i (omega (arith, low, h))

-- emptying a listed number cuts the list before it
pub table_cut : (ps : Pairs) (listed : List ℕ) (key value : Value) → IsKey key → AreTable ps listed → is_nil value ≡ true → 0 < index_in key → index_in key ≤ length listed → AreTable (with_value ps key value) (take (index_in key - 1) listed)
table_cut ps listed key value k t empty above within =
    let h : index_in key - 1 ≤ length listed = omega (arith, within) in
    let e : length (take (index_in key - 1) listed) ≡ index_in key - 1 = length-take-le (index_in key - 1) listed h in
    let stored : IsStored (with_value ps key value) (length listed) key value = is_stored ps (length listed) key value t.least in
    record {
      keyed = keyed_stored ps key value t.keyed k;
      small = omega (arith, e, t.small, h);
      least = subst (IsBorder (with_value ps key value)) (sym e) (emptied (with_value ps key value) (length listed) key value stored empty above within);
      places = listed_take (with_value ps key value) listed (index_in key - 1) h (listed_stored ps key value listed t.places);
    }

-- a key that isn't listed is emptied
table_kept : (ps : Pairs) (listed : List ℕ) (key value : Value) → IsKey key → AreTable ps listed → is_nil value ≡ true → (0 < index_in key → index_in key ≤ length listed → ⊥) → AreTable (with_value ps key value) listed
table_kept ps listed key value k t empty past = record {
  keyed = keyed_stored ps key value t.keyed k;
  small = t.small;
  least = kept_empty (with_value ps key value) (length listed) key value (is_stored ps (length listed) key value t.least) empty past;
  places = listed_stored ps key value listed t.places;
}

-- a value that isn't nil under another key than the number after the border
pub table_stored : (ps : Pairs) (listed : List ℕ) (key value : Value) → IsKey key → AreTable ps listed → is_nil value ≡ false → (index_in key ≡ length listed + 1 → ⊥) → AreTable (with_value ps key value) listed
table_stored ps listed key value k t full other = record {
  keyed = keyed_stored ps key value t.keyed k;
  small = t.small;
  least = kept_full (with_value ps key value) (length listed) key value (is_stored ps (length listed) key value t.least) full other;
  places = listed_stored ps key value listed t.places;
}

elsewhere_by : (ps : Pairs) (listed : List ℕ) (key value : Value) (t : Bool) → is_nil value ≡ t → IsKey key → AreTable ps listed → (0 < index_in key → index_in key ≤ length listed → ⊥) → (is_nil value ≡ false → index_in key ≡ length listed + 1 → ⊥) → AreTable (with_value ps key value) listed
elsewhere_by ps listed key value true e k table past other = table_kept ps listed key value k table e past
elsewhere_by ps listed key value false e k table past other = table_stored ps listed key value k table e (other e)

-- a store under a key that is neither listed nor the number after the border with a value
pub table_elsewhere : (ps : Pairs) (listed : List ℕ) (key value : Value) → IsKey key → AreTable ps listed → (0 < index_in key → index_in key ≤ length listed → ⊥) → (is_nil value ≡ false → index_in key ≡ length listed + 1 → ⊥) → AreTable (with_value ps key value) listed
table_elsewhere ps listed key value k table past other = elsewhere_by ps listed key value (is_nil value) refl k table past other

pub nowhere_by : (ps : Pairs) (place : ℕ) (key : Value) → slice_get (values_of ps) place ≡ None → slice_get (keys_of ps) place ≡ Some key → ⊥
nowhere_by [] place key none there = absurd (cc there)
nowhere_by (p ∷ ps) zero key none there = absurd (cc none)
nowhere_by (p ∷ ps) (suc place) key none there = nowhere_by ps place key none there

push_by : (ps : Pairs) (listed : List ℕ) (place i : ℕ) (within : Bool) → within ≡ ltb i (length listed) → AreListed ps listed → slice_get (keys_of ps) place ≡ Some (Number (pos (length listed + 1))) → i < length listed + 1 → slice_get (keys_of ps) (get_or (listed ++ place ∷ []) i 0) ≡ Some (Number (pos (i + 1)))
push_by ps listed place i true e places at h =
    let low : i < length listed = grind (arith, nat_tests) in
    ap (λ n. slice_get (keys_of ps) n) (get_or-append listed (place ∷ []) 0 i low) ∙ places i low
push_by ps listed place i false e places at h =
    let last : i ≡ length listed = grind (arith, nat_tests) in
    rw last (ap (λ n. slice_get (keys_of ps) n) (get_or-append_seam listed place [] 0) ∙ at)

listed_push : (ps : Pairs) (listed : List ℕ) (place : ℕ) → AreListed ps listed → slice_get (keys_of ps) place ≡ Some (Number (pos (length listed + 1))) → AreListed ps (listed ++ place ∷ [])
listed_push ps listed place places at i h =
    let n : length (listed ++ place ∷ []) ≡ length listed + 1 = length-append listed (place ∷ []) in
    push_by ps listed place i (ltb i (length listed)) refl places at (omega (arith, h, n))

index_small : (key : Value) → IsKey key → index_in key ≤ largest_size
index_small (Number (pos n)) k = k
index_small _ k = omega arith

-- the number after the border is listed first
pub full_appended : (ps : Pairs) (listed : List ℕ) (key value : Value) (place : ℕ) → IsKey key → is_nil value ≡ false → AreTable ps listed → index_in key ≡ length listed + 1 → slice_get (keys_of (with_value ps key value)) place ≡ Some key → AreFull (with_value ps key value) (listed ++ place ∷ [])
full_appended ps listed key value place k full t at here =
    let n : length (listed ++ place ∷ []) ≡ length listed + 1 = length-append listed (place ∷ []) in
    let next : index_in key ≡ suc (length listed) = omega (arith, at) in
    let same : suc (length listed) ≡ length listed + 1 = omega arith in
    let there : key ≡ Number (pos (length listed + 1)) = key_at key (length listed) next ∙ ap (λ m. Number (pos m)) same in
    record {
      keyed = keyed_stored ps key value t.keyed k;
      small = omega (arith, n, at, index_small key k);
      full = subst (IsFull (with_value ps key value)) (sym n) (grown (with_value ps key value) (length listed) key value (is_stored ps (length listed) key value t.least) full at);
      places = listed_push (with_value ps key value) listed place (listed_stored ps key value listed t.places) (here ∙ ap (λ v. Some v) there);
    }

-- the list is done
table_full : (ps : Pairs) (listed : List ℕ) → AreFull ps listed → value_at ps (length listed + 1) ≡ Nil → AreTable ps listed
table_full ps listed f free = record {
  keyed = f.keyed;
  small = f.small;
  least = record { full = f.full; free = free };
  places = f.places;
}

pub table_all : (ps : Pairs) (listed : List ℕ) → AreFull ps listed → length ps ≤ length listed → AreTable ps listed
table_all ps listed f most = table_full ps listed f (none_beyond ps (length listed) f.full most)
